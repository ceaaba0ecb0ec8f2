-- Laws of the id map as it is written: lengths, and where the writing loops stand.
-- Assumes nothing.
use Rattle.std.specs.Prelude.{ℕ, zero, suc, ◌+◌, ◌-◌, ◌*◌, ◌/◌, ◌≤◌, ◌<◌, ◌≡◌, refl, true, ◌&&◌, List, [], ◌∷◌, ◌++◌, leb, length, get_or, take, drop, Some, None}
use Rattle.std.specs.Prelude.{Option as Maybe}
use Rattle.std.proofs.Common.{sym, ap, ◌∙◌, append_assoc, append-nil, add-one, arith, length-append, drop_of_length-le, drop-cons, take-suc, leb-true}
use Rattle.std.proofs.Math.Nat.{add-div_right, div-eq_of_lt}
use Rattle.octets.proofs.ZeroLaws.{and_split}
use Rattle.octets.specs.le.Le.{le_bytes}
use Rattle.octets.proofs.le.Laws.{length_le_bytes}
use Rattle.varint.specs.Varint.{varint_of}
use Rattle.idmap.specs.Encode.{map_head, raw_ids, delta_of, left_after, deltas, restart_of, restarts, rises_from}
use Rattle.idmap.specs.Decode.{groups}
use Rattle.idmap.specs.DecodeLaws.{low_of}

pub length_head : (encoding r count : ℕ) → length (map_head encoding r count) ≡ 7
unfolding map_head
length_head encoding r count = simp (length-append, length_le_bytes)

-- ---- raw

pub length_raw_ids : (ids : List ℕ) → length (raw_ids ids) ≡ 8 * length ids
unfolding raw_ids
length_raw_ids [] = refl
length_raw_ids (x ∷ ids) = simp (length-append, length_le_bytes, length_raw_ids ids) (omega arith)

raw_ids_append : (xs ys : List ℕ) → raw_ids (xs ++ ys) ≡ raw_ids xs ++ raw_ids ys
unfolding raw_ids
raw_ids_append [] ys = refl
raw_ids_append (x ∷ xs) ys = rw (raw_ids_append xs ys) (sym (append_assoc (le_bytes 8 x) (raw_ids xs) (raw_ids ys)))

-- one id more is written
pub raw_more : (ids : List ℕ) (i : ℕ) → i < length ids → raw_ids (take (i + 1) ids) ≡ raw_ids (take i ids) ++ le_bytes 8 (get_or ids i 0)
unfolding raw_ids
raw_more ids i h = rw (add-one, take-suc ids i 0 h, raw_ids_append) (ap (λ (l : List ℕ). raw_ids (take i ids) ++ l) (append-nil (le_bytes 8 (get_or ids i 0))))

-- ---- restart offsets

length_restart : (left at : ℕ) → length (restart_of (suc left) at) ≡ 0
unfolding restart_of
length_restart left at = refl

-- how many there are, where left more ids of a group come first
restarts_length : (r left prev at : ℕ) (ids : List ℕ) → 0 < r → left < r → length (restarts r left prev at ids) ≡ 4 * ((length ids + (r - 1) - left) / r)
unfolding restarts restart_of left_after
restarts_length r left prev at [] h k =
    let e : (0 + (r - 1) - left) / r ≡ 0 = div-eq_of_lt (omega arith) in
    rw e
restarts_length r zero prev at (x ∷ ids) h k =
    let ih = restarts_length r (r - 1) x (at + length (varint_of (delta_of zero prev x))) ids h (omega arith) in
    let e : length ids + (r - 1) - (r - 1) ≡ length ids = omega arith in
    let f : suc (length ids) + (r - 1) - 0 ≡ length ids + r = omega arith in
    let g : (length ids + r) / r ≡ length ids / r + 1 = add-div_right (length ids) h in
    let ih2 : length (restarts r (r - 1) x (at + length (varint_of (delta_of zero prev x))) ids) ≡ 4 * (length ids / r) = rw e at ih in
    rw (f, g) (simp (length-append, length_le_bytes) (omega arith))
restarts_length r (suc left) prev at (x ∷ ids) h k =
    let e : length ids + (r - 1) - left ≡ suc (length ids) + (r - 1) - suc left = omega arith in
    restarts_length r left x (at + length (varint_of (delta_of (suc left) prev x))) ids h (omega arith) ∙ rw e

pub length_restarts : (r : ℕ) (ids : List ℕ) → 0 < r → length (restarts r 0 0 0 ids) ≡ 4 * groups (length ids) r
unfolding groups
length_restarts r ids h =
    let e : length ids + (r - 1) - 0 ≡ length ids + (r - 1) = omega arith in
    rw e at (restarts_length r 0 0 0 ids h h)

-- the id before the next, where i are passed and prev is the last of them
abbrev pub behind : ℕ → ℕ → Maybe ℕ
behind zero prev = None
behind (suc i) prev = Some prev

behind_some : (i prev : ℕ) → 0 < i → behind i prev ≡ Some prev
behind_some i prev h = let l : i ≡ suc (i - 1) = omega arith in rw l

-- ---- where a loop over the ids stands: i are passed, the last of them prev; left more of the group follow

pub record IdsAt (ids : List ℕ) (i left prev : ℕ) : Type 0 where
  pub at_most : i ≤ length ids
  pub first : i ≡ 0 → left ≡ 0
  pub up : rises_from (low_of (behind i prev)) (drop i ids) ≡ true

pub ids_first : (ids : List ℕ) → rises_from 0 ids ≡ true → IdsAt ids 0 0 0
ids_first ids h = record { at_most = omega arith; first = λ z. refl; up = h }

rises_cons : (low : ℕ) (ids : List ℕ) (i : ℕ) → i < length ids → rises_from low (drop i ids) ≡ leb low (get_or ids i 0) && rises_from (suc (get_or ids i 0)) (drop (suc i) ids)
unfolding rises_from
rises_cons low ids i h = rw (drop-cons ids i 0 h)

module _ (ids : List ℕ) (i left prev : ℕ) (st : IdsAt ids i left prev) (h : i < length ids) where
  parts : (leb (low_of (behind i prev)) (get_or ids i 0) ≡ true) × (rises_from (suc (get_or ids i 0)) (drop (suc i) ids) ≡ true)
  parts = and_split _ _ (sym (rises_cons (low_of (behind i prev)) ids i h) ∙ st.up)

  pub ids_next : (left' : ℕ) → IdsAt ids (i + 1) left' (get_or ids i 0)
  ids_next left' = record { at_most = omega arith; first = λ z. absurd (omega arith); up = rw add-one (rw add-one parts.1) }

  -- a difference is taken of an id that is not below the one before
  pub ids_above : (left ≡ 0 → ⊥) → prev ≤ get_or ids i 0
  ids_above q =
      let some : i ≡ 0 → ⊥ = λ z. q (st.first z) in
      let k : leb (prev + 1) (get_or ids i 0) ≡ true = rw (behind_some i prev (omega arith)) at parts.0 in
      omega (arith, leb-true (prev + 1) (get_or ids i 0) k)

-- one id more, of what is written of them
pub deltas_cons : (r left prev i : ℕ) (ids : List ℕ) → i < length ids
    → deltas r left prev (drop i ids) ≡ varint_of (delta_of left prev (get_or ids i 0)) ++ deltas r (left_after r left) (get_or ids i 0) (drop (i + 1) ids)
unfolding deltas
deltas_cons r left prev i ids h = rw (add-one, drop-cons ids i 0 h)

pub restarts_cons : (r left prev at i : ℕ) (ids : List ℕ) → i < length ids
    → restarts r left prev at (drop i ids)
    ≡ restart_of left at ++ restarts r (left_after r left) (get_or ids i 0) (at + length (varint_of (delta_of left prev (get_or ids i 0)))) (drop (i + 1) ids)
unfolding restarts
restarts_cons r left prev at i ids h = rw (add-one, drop-cons ids i 0 h)

pub deltas_none : (r left prev i : ℕ) (ids : List ℕ) → length ids ≤ i → deltas r left prev (drop i ids) ≡ []
unfolding deltas
deltas_none r left prev i ids h = rw (drop_of_length-le ids {i = i} h)

pub restarts_none : (r left prev at i : ℕ) (ids : List ℕ) → length ids ≤ i → restarts r left prev at (drop i ids) ≡ []
unfolding restarts
restarts_none r left prev at i ids h = rw (drop_of_length-le ids {i = i} h)
