-- What the vector writer writes holds each of its ids at its own place, and no other id.
-- Assumes nothing.
use Prim.Native.Nat.{ℕ, zero, suc, ◌+◌, ◌*◌, ◌≤◌, ◌<◌}
use Rattle.std.specs.Prelude.{◌≡◌, refl, true, leb, get_or}
use Rattle.std.proofs.Math.Path.{sym, ap}
use Rattle.std.proofs.Common.{◌∙◌, arith, drop-drop, eq-eqb, ne_eqb, leb-true}
use Rattle.std.proofs.Math.Option.{none, some}
use mathlib.Core.List.{List, [], ◌∷◌, ◌++◌}
use Rattle.std.proofs.Math.ListN.{length, drop}
use Rattle.octets.specs.le.Le.{le_bytes}
use Rattle.crc32c.specs.Crc.{crc_of}
use Rattle.idmap.specs.Encode.{map_bytes, rises_from}
use Rattle.octets.proofs.ZeroLaws.{and_split}
use Rattle.idmap.specs.Decode.{ids_of}
use Rattle.idmap.proofs.Accepted.{good}
use Rattle.idmap.proofs.Trip.{Words, read_back}
use Rattle.vecseg.specs.Payload.{width, columns_length, block_count}
use Rattle.vecseg.specs.Find.{line_at, ids_at, find_up_to, find_in}
use Rattle.octets.specs.numbers.Numbers.{index_of}
use Rattle.vecseg.specs.Writer.{vec_bad, vec_bytes, block_bytes}
use Rattle.octets.specs.Round.{padding}
use Rattle.vecseg.proofs.WriterLaws.{accepted}
use Rattle.vec_trip.specs.Shape.{line_for}
use Rattle.vec_trip.proofs.Shape.{one_block, line_is, block_at}
use Rattle.vec_trip.proofs.Sound.{map_at}

-- ---- where a number stands in a list that rises

rises_above : (low : ℕ) (xs : List ℕ) (k : ℕ) → rises_from low xs ≡ true → k < length xs → low ≤ get_or xs k 0
unfolding rises_from
rises_above low [] k up h = absurd (omega arith)
rises_above low (x ∷ xs) zero up h = leb-true low x (and_split (leb low x) (rises_from (suc x) xs) up).0
rises_above low (x ∷ xs) (suc k) up h =
    let u = and_split (leb low x) (rises_from (suc x) xs) up in
    omega (arith, leb-true low x u.0, rises_above (suc x) xs k u.1 (omega arith))

index_at : (low : ℕ) (xs : List ℕ) (k : ℕ) → rises_from low xs ≡ true → k < length xs → index_of (get_or xs k 0) xs ≡ some k
unfolding index_of rises_from
index_at low [] k up h = absurd (omega arith)
index_at low (x ∷ xs) zero up h = rw (eq-eqb x x refl)
index_at low (x ∷ xs) (suc k) up h =
    let u = and_split (leb low x) (rises_from (suc x) xs) up in
    let above = rises_above (suc x) xs k u.1 (omega arith) in
    rw (ne_eqb x (get_or xs k 0) (λ e. omega arith), index_at (suc x) xs k u.1 (omega arith))

index_none : (id : ℕ) (xs : List ℕ) → ((k : ℕ) → k < length xs → get_or xs k 0 ≡ id → ⊥) → index_of id xs ≡ none
unfolding index_of
index_none id [] out = refl
index_none id (x ∷ xs) out =
    rw (ne_eqb x id (out 0 (omega arith)), index_none id xs (λ k h. out (suc k) (omega arith)))

-- ---- the payload

-- a payload of one block finds what its block's ids hold, and nothing else
find_some : (s : List ℕ) (id k : ℕ) → block_count s ≡ 1 → index_of id (ids_at s 0) ≡ some k → find_in s id ≡ some (record { line = line_at s 0; index = k })
unfolding find_in find_up_to
find_some s id k one e = rw (one, e, find_up_to)

find_none : (s : List ℕ) (id : ℕ) → block_count s ≡ 1 → index_of id (ids_at s 0) ≡ none → find_in s id ≡ none
unfolding find_in find_up_to
find_none s id one e = rw (one, e, find_up_to)

module _ (ids columns : List ℕ) (dim dtype tier encoding interval : ℕ) (ok : vec_bad ids columns dim dtype tier encoding interval ≡ 0) (words : Words ids) where
  line_of : line_at (vec_bytes ids columns dim dtype tier encoding interval) 0 ≡ line_for (length ids) dim dtype tier
  unfolding line_at vec_bytes
  line_of =
      let g = accepted ids columns dim dtype tier encoding interval ok in
      line_is (length ids) dim dtype tier _ (omega (arith, g.most)) (omega (arith, g.high))

  ids-of : ids_at (vec_bytes ids columns dim dtype tier encoding interval) 0 ≡ ids
  unfolding ids_at ids_of vec_bytes block_bytes columns_length line_for
  ids-of =
      let g = accepted ids columns dim dtype tier encoding interval ok in
      let m : List ℕ = map_bytes ids encoding interval in
      let c : List ℕ = le_bytes 4 (crc_of (columns ++ m)) in
      let p : List ℕ = padding (length (block_bytes columns m)) in
      let n : ℕ = length ids * dim * width dtype in
      let at : drop (64 + n) (vec_bytes ids columns dim dtype tier encoding interval) ≡ m ++ (c ++ p) =
      sym (drop-drop n 64 (vec_bytes ids columns dim dtype tier encoding interval))
      ∙ ap (drop n) (block_at (length ids) dim dtype tier (block_bytes columns m ++ p))
      ∙ map_at columns m c p n g.fits in
      rw (line_of, at, read_back ids (c ++ p) encoding interval g.map words)

  one_of : block_count (vec_bytes ids columns dim dtype tier encoding interval) ≡ 1
  unfolding vec_bytes
  one_of = one_block (length ids) dim dtype tier _

  -- each id is found in the block, at its own place
  pub written_find : (k : ℕ) → k < length ids
      → find_in (vec_bytes ids columns dim dtype tier encoding interval) (get_or ids k 0) ≡ some (record { line = line_for (length ids) dim dtype tier; index = k })
  written_find k h =
      let up = (good ids encoding interval (accepted ids columns dim dtype tier encoding interval ok).map).up in
      let found : index_of (get_or ids k 0) (ids_at (vec_bytes ids columns dim dtype tier encoding interval) 0) ≡ some k = rw ids-of (index_at 0 ids k up h) in
      find_some (vec_bytes ids columns dim dtype tier encoding interval) (get_or ids k 0) k one_of found ∙ rw line_of

  -- and an id that was not written is not found
  pub written_none : (id : ℕ) → ((k : ℕ) → k < length ids → get_or ids k 0 ≡ id → ⊥) → find_in (vec_bytes ids columns dim dtype tier encoding interval) id ≡ none
  written_none id out =
      let lost : index_of id (ids_at (vec_bytes ids columns dim dtype tier encoding interval) 0) ≡ none = rw ids-of (index_none id ids out) in
      find_none (vec_bytes ids columns dim dtype tier encoding interval) id one_of lost
