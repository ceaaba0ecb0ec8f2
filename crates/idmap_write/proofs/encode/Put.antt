-- Where the loops stand that measure and write an id map, their next turns and their ends.
-- Assumes nothing.
use Prim.Native.Nat.{ℕ, suc, ◌+◌, ◌-◌, ◌*◌, ◌/◌, ◌≤◌, ◌<◌}
use Rattle.std.specs.Prelude.{◌≡◌, refl, List, [], ◌∷◌, ◌++◌, length, get_or, take, drop, set}
use Rattle.std.proofs.Common.{sym, ap, ◌∙◌, append_assoc, append-nil, length-append, take_all, length-take-le}
use native.Mathlib.Omega.{arith}
use Rattle.octets.specs.Over.{over}
use Rattle.octets.proofs.OverLaws.{over_none, over_front, over_then, over_swap, over_next, length_over}
use Rattle.octets.specs.le.Le.{le_bytes}
use Rattle.octets.proofs.le.Laws.{length_le_bytes}
use Rattle.varint.specs.Varint.{varint_of}
use Rattle.varint.proofs.WriteLaws.{leb_last, leb_more}
use Rattle.idmap.specs.Encode.{map_head, raw_ids, delta_of, left_after, deltas, restart_of, restarts}
use Rattle.idmap.proofs.EncodeLaws.{IdsAt, ids_next, length_raw_ids, raw_more, deltas_cons, restarts_cons, deltas_none, restarts_none}

-- ---- raw

pub record RawPut (buf₀ buf ids : List ℕ) (i : ℕ) : Type 0 where
  pub at_most : i ≤ length ids
  pub same_length : length buf ≡ length buf₀
  pub laid : buf ≡ over buf₀ 7 (raw_ids (take i ids))

pub raw_first : (buf ids : List ℕ) → RawPut buf buf ids 0
unfolding raw_ids
raw_first buf ids = record { at_most = omega arith; same_length = refl; laid = sym (over_none buf 7) }

pub raw_next : (buf₀ buf buf' ids : List ℕ) (i : ℕ) → RawPut buf₀ buf ids i → i < length ids → 7 + 8 * length ids ≤ length buf₀
    → buf' ≡ over buf (7 + 8 * i) (le_bytes 8 (get_or ids i 0)) → length buf' ≡ length buf → RawPut buf₀ buf' ids (i + 1)
raw_next buf₀ buf buf' ids i st h room p q =
    let n : length (raw_ids (take i ids)) ≡ 8 * i = length_raw_ids (take i ids) ∙ ap (λ (m : ℕ). 8 * m) (length-take-le i ids (omega arith)) in
    let same_length = st.same_length in
    record {
      at_most = omega arith;
      same_length = omega arith;
      laid = rw (raw_more ids i h) (p ∙ over_then buf₀ buf 7 (raw_ids (take i ids)) (le_bytes 8 (get_or ids i 0)) (8 * i) st.laid n (omega arith));
    }

pub raw_last : (buf₀ buf ids : List ℕ) (i : ℕ) → RawPut buf₀ buf ids i → length ids ≤ i → buf ≡ over buf₀ 7 (raw_ids ids)
raw_last buf₀ buf ids i st h = rw (take_all i ids h) at st.laid

-- ---- how many bytes the varints take

module _ (left prev x n : ℕ) where
  pub begins_len : left ≡ 0 → (n ≡ length (varint_of x)) × (n ≤ 10) → (n ≡ length (varint_of (delta_of left prev x))) × (n ≤ 10)
  unfolding delta_of
  begins_len z h = rw z h

  pub differs_len : 0 < left → (n ≡ length (varint_of (x - prev))) × (n ≤ 10) → (n ≡ length (varint_of (delta_of left prev x))) × (n ≤ 10)
  unfolding delta_of
  differs_len k h = let l : left ≡ suc (left - 1) = omega arith in rw l h

pub one_byte : (d : ℕ) → d < 128 → (1 ≡ length (varint_of d)) × (1 ≤ 10)
unfolding varint_of
one_byte d h = (rw (leb_last 9 d h), omega arith)

pub two_bytes : (d : ℕ) → 128 ≤ d → d < 16384 → (2 ≡ length (varint_of d)) × (2 ≤ 10)
unfolding varint_of
two_bytes d h k = (rw (leb_more 9 d h, leb_last 8 (d / 128) (omega arith)), omega arith)

pub record LenAt (ids : List ℕ) (r i left prev total : ℕ) : Type 0 where
  pub at : IdsAt ids i left prev
  pub small : total ≤ 10 * i
  pub same : total + length (deltas r left prev (drop i ids)) ≡ length (deltas r 0 0 ids)

pub len_first : (ids : List ℕ) (r : ℕ) → IdsAt ids 0 0 0 → LenAt ids r 0 0 0 0
len_first ids r w = record { at = w; small = omega arith; same = omega arith }

pub len_next : (ids : List ℕ) (r i left prev total n : ℕ) → LenAt ids r i left prev total → i < length ids
    → n ≡ length (varint_of (delta_of left prev (get_or ids i 0))) → n ≤ 10 → LenAt ids r (i + 1) (left_after r left) (get_or ids i 0) (total + n)
len_next ids r i left prev total n st h e at_most =
    let small = st.small in
    let c = ap length (deltas_cons r left prev i ids h) ∙ length-append (varint_of (delta_of left prev (get_or ids i 0))) _ in
    let same = st.same in
    record { at = ids_next ids i left prev st.at h (left_after r left); small = omega arith; same = omega arith }

pub len_last : (ids : List ℕ) (r i left prev total : ℕ) → LenAt ids r i left prev total → length ids ≤ i → (total ≡ length (deltas r 0 0 ids)) × (total ≤ 10 * length ids)
len_last ids r i left prev total st h =
    let at_most = st.at.at_most in
    let small = st.small in
    let same = st.same in
    let e = ap length (deltas_none r left prev i ids h) in
    (omega arith, omega arith)

-- ---- restart offsets and varints, each behind what is written of it: place is where the next offset goes, pos where the next varint

pub record PutAt (buf₀ buf ids : List ℕ) (r start i left prev place pos : ℕ) : Type 0 where
  pub at : IdsAt ids i left prev
  pub same_length : length buf ≡ length buf₀
  pub offs : List ℕ
  pub vars : List ℕ
  pub offs_all : offs ++ restarts r left prev (pos - start) (drop i ids) ≡ restarts r 0 0 0 ids
  pub vars_all : vars ++ deltas r left prev (drop i ids) ≡ deltas r 0 0 ids
  pub place_is : place ≡ 7 + length offs
  pub pos_is : pos ≡ start + length vars
  pub laid : buf ≡ over (over buf₀ 7 offs) start vars

pub put_first : (buf ids : List ℕ) (r start : ℕ) → IdsAt ids 0 0 0 → PutAt buf buf ids r start 0 0 0 7 start
put_first buf ids r start w =
    let e : start - start ≡ 0 = omega arith in
    record {
      at = w;
      same_length = refl;
      offs = [];
      vars = [];
      offs_all = rw e;
      vars_all = refl;
      place_is = omega arith;
      pos_is = omega arith;
      laid = sym (over_none (over buf 7 []) start ∙ over_none buf 7);
    }

-- what a turn may write, by what the whole has room for
module _ (buf₀ buf ids : List ℕ) (r start i left prev place pos : ℕ) (st : PutAt buf₀ buf ids r start i left prev place pos) (h : i < length ids)
    (begins : start ≡ 7 + length (restarts r 0 0 0 ids)) (ends : start + length (deltas r 0 0 ids) ≤ length buf₀) where
  x : ℕ
  x = get_or ids i 0

  d : List ℕ
  d = varint_of (delta_of left prev (get_or ids i 0))

  offs-room : place + length (restart_of left (pos - start)) ≤ start
  offs-room =
      let e = ap length (ap (λ (l : List ℕ). st.offs ++ l) (sym (restarts_cons r left prev (pos - start) i ids h)) ∙ st.offs_all) in
      let f = length-append st.offs (restart_of left (pos - start) ++ restarts r (left_after r left) (get_or ids i 0) (pos - start + length (varint_of (delta_of left prev (get_or ids i 0))))
      (drop (i + 1) ids)) in
      let g = length-append (restart_of left (pos - start)) (restarts r (left_after r left) (get_or ids i 0) (pos - start + length (varint_of (delta_of left prev (get_or ids i 0)))) (drop (i + 1) ids)) in
      let p = st.place_is in
      omega arith

  vars-room : pos + length (varint_of (delta_of left prev (get_or ids i 0))) ≤ length buf₀
  vars-room =
      let e = ap length (ap (λ (l : List ℕ). st.vars ++ l) (sym (deltas_cons r left prev i ids h)) ∙ st.vars_all) in
      let f = length-append st.vars (varint_of (delta_of left prev (get_or ids i 0)) ++ deltas r (left_after r left) (get_or ids i 0) (drop (i + 1) ids)) in
      let g = length-append (varint_of (delta_of left prev (get_or ids i 0))) (deltas r (left_after r left) (get_or ids i 0) (drop (i + 1) ids)) in
      let p = st.pos_is in
      omega arith

  -- the room, of the buffer as it is
  pub put_offs : place + length (restart_of left (pos - start)) ≤ length buf
  put_offs =
      let same_length = st.same_length in
      omega (arith, offs-room, vars-room, st.pos_is)

  pub put_vars : pos + length (varint_of (delta_of left prev (get_or ids i 0))) ≤ length buf
  put_vars =
      let same_length = st.same_length in
      omega (arith, vars-room)

  pub put_behind : start ≤ pos
  put_behind = omega (arith, st.pos_is)

  -- the turn: an offset where a group begins, then a varint
  pub put_next : (buf₁ buf₂ : List ℕ) (place' pos' : ℕ) → buf₁ ≡ over buf place (restart_of left (pos - start)) → place' ≡ place + length (restart_of left (pos - start))
      → buf₂ ≡ over buf₁ pos (varint_of (delta_of left prev (get_or ids i 0))) → pos' ≡ pos + length (varint_of (delta_of left prev (get_or ids i 0))) → length buf₂ ≡ length buf
      → PutAt buf₀ buf₂ ids r start (i + 1) (left_after r left) (get_or ids i 0) place' pos'
  put_next buf₁ buf₂ place' pos' p1 e1 p2 e2 same =
      let rs : List ℕ = restart_of left (pos - start) in
      let vs : List ℕ = varint_of (delta_of left prev (get_or ids i 0)) in
      let o = offs-room in
      let v = vars-room in
      let pl = st.place_is in
      let po = st.pos_is in
      let same_length = st.same_length in
      let n : length (over buf₀ 7 st.offs) ≡ length buf₀ = length_over buf₀ 7 st.offs (omega arith) in
      let sw : over (over (over buf₀ 7 st.offs) start st.vars) place rs ≡ over (over (over buf₀ 7 st.offs) place rs) start st.vars =
      over_swap (over buf₀ 7 st.offs) place rs start st.vars o (omega arith) in
      let inner : over (over buf₀ 7 st.offs) place rs ≡ over buf₀ 7 (st.offs ++ rs) =
      rw pl (over_next buf₀ 7 st.offs rs (omega arith)) in
      let one : buf₁ ≡ over (over buf₀ 7 (st.offs ++ rs)) start st.vars = p1 ∙ ap (λ (b : List ℕ). over b place rs) st.laid ∙ sw ∙ rw inner in
      let m = length-append st.offs rs in
      let n2 : length (over buf₀ 7 (st.offs ++ rs)) ≡ length buf₀ = length_over buf₀ 7 (st.offs ++ rs) (omega arith) in
      let two : buf₂ ≡ over (over buf₀ 7 (st.offs ++ rs)) start (st.vars ++ vs) =
      p2 ∙ ap (λ (n : ℕ). over buf₁ n vs) po ∙ over_then (over buf₀ 7 (st.offs ++ rs)) buf₁ start st.vars vs (length st.vars) one refl (omega arith) in
      let f : pos - start + length vs ≡ pos' - start = omega arith in
      let ro = append_assoc st.offs rs (restarts r (left_after r left) (get_or ids i 0) (pos - start + length vs) (drop (i + 1) ids))
      ∙ ap (λ (l : List ℕ). st.offs ++ l) (sym (restarts_cons r left prev (pos - start) i ids h)) ∙ st.offs_all in
      record {
        at = ids_next ids i left prev st.at h (left_after r left);
        same_length = omega arith;
        offs = st.offs ++ rs;
        vars = st.vars ++ vs;
        offs_all = rw f at ro;
        vars_all = append_assoc st.vars vs _ ∙ ap (λ (l : List ℕ). st.vars ++ l) (sym (deltas_cons r left prev i ids h)) ∙ st.vars_all;
        place_is = omega (arith, m);
        pos_is = omega (arith, length-append st.vars vs);
        laid = two;
      }

pub put_last : (buf₀ buf ids : List ℕ) (r start i left prev place pos : ℕ) → PutAt buf₀ buf ids r start i left prev place pos → length ids ≤ i
    → start ≡ 7 + length (restarts r 0 0 0 ids) → start + length (deltas r 0 0 ids) ≤ length buf₀
    → buf ≡ over buf₀ 7 (restarts r 0 0 0 ids ++ deltas r 0 0 ids)
put_last buf₀ buf ids r start i left prev place pos st h begins ends =
    let o : st.offs ≡ restarts r 0 0 0 ids =
    sym (append-nil st.offs) ∙ ap (λ (l : List ℕ). st.offs ++ l) (sym (restarts_none r left prev (pos - start) i ids h)) ∙ st.offs_all in
    let v : st.vars ≡ deltas r 0 0 ids = sym (append-nil st.vars) ∙ ap (λ (l : List ℕ). st.vars ++ l) (sym (deltas_none r left prev i ids h)) ∙ st.vars_all in
    let e : over (over buf₀ 7 (restarts r 0 0 0 ids)) start (deltas r 0 0 ids) ≡ over buf₀ 7 (restarts r 0 0 0 ids ++ deltas r 0 0 ids) =
    rw begins (over_next buf₀ 7 (restarts r 0 0 0 ids) (deltas r 0 0 ids) (omega arith)) in
    (rw (o, v) at st.laid) ∙ e

-- ---- the head, field by field

pub head_laid : (buf b₁ b₂ : List ℕ) (e r n : ℕ) → 7 ≤ length buf → b₁ ≡ over (set buf 0 e) 1 (le_bytes 2 r) → b₂ ≡ over b₁ 3 (le_bytes 4 n) → b₂ ≡ over buf 0 (map_head e r n)
unfolding map_head
head_laid buf b₁ b₂ e r n h p q =
    let one : set buf 0 e ≡ over buf 0 (e ∷ []) = over_front buf buf [] 0 e (sym (over_none buf 0)) refl (omega arith) in
    let two : b₁ ≡ over buf 0 ((e ∷ []) ++ le_bytes 2 r) = p ∙ over_then buf (set buf 0 e) 0 (e ∷ []) (le_bytes 2 r) 1 one refl (omega arith) in
    q ∙ over_then buf b₁ 0 ((e ∷ []) ++ le_bytes 2 r) (le_bytes 4 n) 3 two (simp length_le_bytes) (omega arith)
