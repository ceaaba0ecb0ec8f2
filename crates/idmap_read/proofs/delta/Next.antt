-- The laws of specs/delta/Next.antt.
-- Assumes nothing.
use Rattle.std.specs.Prelude.{ℕ, suc, ◌+◌, ◌-◌, ◌*◌, ◌^◌, ◌≤◌, ◌<◌, Bool, true, false, cond, leb, length, take, drop, set, Result, Ok, Err, Some, None}
use Rattle.std.specs.Prelude.{Option as Maybe}
use Rattle.std.proofs.Math.Path.{◌≡◌, refl}
use Rattle.std.proofs.Common.{sym, ap, ◌∙◌, add-one, arith, lt_of_not-le}
use mathlib.Core.List.{List, []}
use Rattle.std.proofs.Math.Nat.{suc-mul, mul-le-mul_right}
use Rattle.std.proofs.Math.Decide.{dec_le}
use borrow.Author.Tests.{le-leb, lt-leb, lt-ltb, le-ltb, eq-eqb, ne_eqb}
use Rattle.octets.specs.le.Le.{le_of}
use Rattle.varint.specs.Varint.{read_as, read_varint}
use Rattle.varint.proofs.Refusal.{refused_five}
use Rattle.varint.specs.declared.Varint.{Varint}
use Rattle.idmap.specs.Encode.{left_after}
use Rattle.idmap.specs.Decode.{Broken, id_of, id_held, read_deltas, groups}
use Rattle.idmap.specs.DecodeLaws.{low_of}
use Rattle.idmap.proofs.DeltaLaws.{DeltaAt, group_after, groups_some, groups_all, delta_first, delta_bad, delta_refused, delta_next}
use Rattle.idmap_read.specs.declared.delta.IdAt.{IdAt}
use Rattle.idmap_read.specs.delta.Next.{next_of, id_read, id_behind, id_from, id_at}

-- its ways out
module _ (left low at : ℕ) (offs s : List ℕ) where
  pub at_bad : (e : ℕ) → read_varint s ≡ Err e → Err e ≡ id_at left low at offs s
  unfolding id_at id_from
  at_bad e p = rw p

  module _ (v k : ℕ) (p : read_varint s ≡ read_as v k) where
    pub at_refused : (e : ℕ) → next_of left low at offs v ≡ Err e → Err e ≡ id_at left low at offs s
    unfolding id_at id_from id_behind
    at_refused e q = rw (p, q)

    pub at_id : (x : ℕ) → next_of left low at offs v ≡ Ok x → id_read x k ≡ id_at left low at offs s
    unfolding id_at id_from id_behind
    at_id x q = rw (p, q)

abbrev id_in : Result IdAt ℕ → ℕ
id_in (Ok x) = x.id
id_in (Err e) = 0

abbrev length_in : Result IdAt ℕ → ℕ
length_in (Ok x) = x.length
length_in (Err e) = 0

-- the two cases, as a caller meets them
held : (left low at : ℕ) (offs : List ℕ) (v x : ℕ) → next_of left low at offs v ≡ Ok x → (id_held left low at offs v ≡ true) × (x ≡ id_of left low v)
unfolding next_of
held left low at offs v x e = pick (id_held left low at offs v) e
  where
    pick : (t : Bool) → cond {A = Result ℕ ℕ} t (Ok (id_of left low v)) (Err 5) ≡ Ok x → (t ≡ true) × (x ≡ id_of left low v)
    pick true q = (refl, cc)
    pick false q = absurd (let z : ◌≡◌ {A = ℕ} 0 1 = cc in omega arith)

not_held : (left low at : ℕ) (offs : List ℕ) (v e : ℕ) → next_of left low at offs v ≡ Err e → id_held left low at offs v ≡ false
unfolding next_of
not_held left low at offs v e p = pick (id_held left low at offs v) p
  where
    pick : (t : Bool) → cond {A = Result ℕ ℕ} t (Ok (id_of left low v)) (Err 5) ≡ Err e → t ≡ false
    pick true q = absurd (let z : ◌≡◌ {A = ℕ} 0 1 = cc in omega arith)
    pick false q = refl

next_five : (left low at : ℕ) (offs : List ℕ) (v e : ℕ) → next_of left low at offs v ≡ Err e → e ≡ 5
unfolding next_of
next_five left low at offs v e p = pick (id_held left low at offs v) p
  where
    pick : (t : Bool) → cond {A = Result ℕ ℕ} t (Ok (id_of left low v)) (Err 5) ≡ Err e → e ≡ 5
    pick true q = absurd (let z : ◌≡◌ {A = ℕ} 0 1 = cc in omega arith)
    pick false q = let z : 5 ≡ e = cc in sym z

-- a turn of the reading loop, by what stands at its place
module _ (s : List ℕ) (count r start i left : ℕ) (prev : Maybe ℕ) (pos g : ℕ) (ids : List ℕ) (st : DeltaAt s count r start i left prev pos g ids) (h : i < count) where
  turn-refused : (e : ℕ) → id_at left (low_of prev) (pos - start) (drop (7 + 4 * g) s) (drop pos s) ≡ Err e
      → (e ≡ 5) × (read_deltas start r count 0 0 0 (drop 7 s) [] (drop start s) ≡ Broken)
  unfolding id_at id_from id_behind
  turn-refused e q = pick (read_varint (drop pos s)) refl q
    where
      next : (v k : ℕ) → read_varint (drop pos s) ≡ read_as v k → (n : Result ℕ ℕ) → next_of left (low_of prev) (pos - start) (drop (7 + 4 * g) s) v ≡ n → id_behind k n ≡ Err e
          → (e ≡ 5) × (read_deltas start r count 0 0 0 (drop 7 s) [] (drop start s) ≡ Broken)
      next v k p (Ok x) w u = absurd (let z : ◌≡◌ {A = ℕ} 0 1 = cc in omega arith)
      next v k p (Err d) w u =
          let z : d ≡ e = cc in
          (sym z ∙ next_five _ _ _ _ _ d w, delta_refused s count r start i left prev pos g ids st h v k p (not_held _ _ _ _ _ d w))

      pick : (t : Result Varint ℕ) → read_varint (drop pos s) ≡ t → id_from left (low_of prev) (pos - start) (drop (7 + 4 * g) s) t ≡ Err e
          → (e ≡ 5) × (read_deltas start r count 0 0 0 (drop 7 s) [] (drop start s) ≡ Broken)
      pick (Err d) p u =
          let z : d ≡ e = cc in
          (sym z ∙ refused_five _ d p, delta_bad s count r start i left prev pos g ids st h d p)
      pick (Ok v) p u = next v.value v.length p (next_of left (low_of prev) (pos - start) (drop (7 + 4 * g) s) v.value) refl u

  turn-next : (x k : ℕ) → id_at left (low_of prev) (pos - start) (drop (7 + 4 * g) s) (drop pos s) ≡ id_read x k → 0 < r → i < length ids
      → DeltaAt s count r start (i + 1) (left_after r left) (Some x) (pos + k) (group_after left g) (set ids i x)
  unfolding id_at id_from id_behind
  turn-next x k q hr room = pick (read_varint (drop pos s)) refl q
    where
      next : (v m : ℕ) → read_varint (drop pos s) ≡ read_as v m → (n : Result ℕ ℕ) → next_of left (low_of prev) (pos - start) (drop (7 + 4 * g) s) v ≡ n → id_behind m n ≡ id_read x k
          → DeltaAt s count r start (i + 1) (left_after r left) (Some x) (pos + k) (group_after left g) (set ids i x)
      next v m p (Err d) w u = absurd (let z : ◌≡◌ {A = ℕ} 0 1 = cc in omega arith)
      next v m p (Ok y) w u =
          let a : y ≡ x = ap id_in u in
          let b : m ≡ k = ap length_in u in
          let o = held _ _ _ _ _ y w in
          delta_next s count r start i left prev pos g ids st h v k (rw b at p) o.0 hr room x (rw a at o.1)

      pick : (t : Result Varint ℕ) → read_varint (drop pos s) ≡ t → id_from left (low_of prev) (pos - start) (drop (7 + 4 * g) s) t ≡ id_read x k
          → DeltaAt s count r start (i + 1) (left_after r left) (Some x) (pos + k) (group_after left g) (set ids i x)
      pick (Err d) p u = absurd (let z : ◌≡◌ {A = ℕ} 0 1 = cc in omega arith)
      pick (Ok v) p u = next v.value v.length p (next_of left (low_of prev) (pos - start) (drop (7 + 4 * g) s) v.value) refl u

-- a difference is one whatever is left of its group
at_difference : (left more low at : ℕ) (offs s : List ℕ) → 0 < left → 0 < more → id_at left low at offs s ≡ id_at more low at offs s
unfolding id_at id_from next_of id_held id_of
at_difference left more low at offs s h k =
    let l : left ≡ suc (left - 1) = omega arith in
    let m : more ≡ suc (more - 1) = omega arith in
    rw (l, m) (pick (read_varint s))
  where
    pick : (t : Result Varint ℕ) → id_from (suc (left - 1)) low at offs t ≡ id_from (suc (more - 1)) low at offs t
    pick (Err e) = refl
    pick (Ok v) = refl

-- the turns where g groups have begun: of a group's first id, behind which one more has, and of a difference
module _ (s : List ℕ) (count r start i : ℕ) (prev : Maybe ℕ) (pos g : ℕ) (ids : List ℕ) (st : DeltaAt s count r start i (g * r - i) prev pos g ids) (h : i < count) where
  module _ (z : g * r - i ≡ 0) where
    pub first_refused : (e : ℕ) → id_at 0 (low_of prev) (pos - start) (drop (7 + 4 * g) s) (drop pos s) ≡ Err e
        → (e ≡ 5) × (read_deltas start r count 0 0 0 (drop 7 s) [] (drop start s) ≡ Broken)
    first_refused e q = turn-refused s count r start i 0 prev pos g ids (rw z at st) h e q

    pub first_next : (x k : ℕ) → id_at 0 (low_of prev) (pos - start) (drop (7 + 4 * g) s) (drop pos s) ≡ id_read x k → 0 < r → i < length ids
        → DeltaAt s count r start (i + 1) ((g + 1) * r - (i + 1)) (Some x) (pos + k) (g + 1) (set ids i x)
    unfolding left_after group_after
    first_next x k q hr room =
        let group = st.group in
        let e : (g + 1) * r - (i + 1) ≡ r - 1 = rw (add-one g, suc-mul g r) (omega arith) in
        rw e (turn-next s count r start i 0 prev pos g ids (rw z at st) h x k q hr room)

  module _ (inside : i < g * r) (left : ℕ) (some : 0 < left) where
    one_less : g * r - i ≡ suc (g * r - (i + 1))
    one_less = omega arith

    pub inside_refused : (e : ℕ) → id_at left (low_of prev) (pos - start) (drop (7 + 4 * g) s) (drop pos s) ≡ Err e
        → (e ≡ 5) × (read_deltas start r count 0 0 0 (drop 7 s) [] (drop start s) ≡ Broken)
    inside_refused e q =
        turn-refused s count r start i (g * r - i) prev pos g ids st h e
        (at_difference (g * r - i) left _ _ _ _ (omega arith) some ∙ q)

    pub inside_next : (x k : ℕ) → id_at left (low_of prev) (pos - start) (drop (7 + 4 * g) s) (drop pos s) ≡ id_read x k → 0 < r → i < length ids
        → DeltaAt s count r start (i + 1) (g * r - (i + 1)) (Some x) (pos + k) g (set ids i x)
    unfolding left_after group_after
    inside_next x k q hr room =
        turn-next s count r start i (suc (g * r - (i + 1))) prev pos g ids (rw one_less at st) h x k
        (at_difference (suc (g * r - (i + 1))) left _ _ _ _ (omega arith) some ∙ q) hr room

-- where the loop over the groups stands: g of them are read, each whole but for the last
pub record StartAt (s : List ℕ) (count r start : ℕ) (prev : Maybe ℕ) (pos g : ℕ) (ids : List ℕ) : Type 0 where
  pub read : ℕ
  pub at : DeltaAt s count r start read (g * r - read) prev pos g ids
  pub full : read < count → read ≡ g * r

pub start_first : (s : List ℕ) (count r start : ℕ) (ids : List ℕ) → start ≤ length s → StartAt s count r start None start 0 ids
start_first s count r start ids h =
    let none : 0 * r - 0 ≡ 0 = omega arith in
    record { read = 0; at = rw none (delta_first s count r start ids h); full = λ k. omega arith }

module _ (s : List ℕ) (count r start : ℕ) (prev : Maybe ℕ) (pos g : ℕ) (ids : List ℕ) (st : StartAt s count r start prev pos g ids) (hr : 0 < r) where
  -- the next group begins behind what is read
  pub start_next : g < groups count r → (g * r < count) × DeltaAt s count r start (g * r) (g * r - g * r) prev pos g ids
  start_next h =
      let some : g * r < count = groups_some count r g hr h in
      let at = st.at in
      let e : st.read ≡ g * r = pick (dec_le count st.read) in
      (some, rw e at at)
    where
      pick : Dec (count ≤ st.read) → st.read ≡ g * r
      pick (yes k) =
          let group = st.at.group in
          let some : g * r < count = groups_some count r g hr h in
          absurd (omega arith)
      pick (no k) = st.full (omega (arith, lt_of_not-le k))

  -- behind the last group all ids are read
  pub start_last : groups count r ≤ g → count ≤ st.read
  start_last h = pick (dec_le count st.read)
    where
      pick : Dec (count ≤ st.read) → count ≤ st.read
      pick (yes k) = k
      pick (no k) =
          let less : st.read < count = lt_of_not-le k in
          let e = st.full less in
          omega (arith, groups_all count r hr, mul-le-mul_right r h)

-- where the loop over the differences of a group stands, which ends at stop: a whole group on, or at the last id
pub record GroupAt (s : List ℕ) (count r start i : ℕ) (prev : Maybe ℕ) (pos g stop : ℕ) (ids : List ℕ) : Type 0 where
  pub at : DeltaAt s count r start i (g * r - i) prev pos g ids
  pub inside : i ≤ stop
  pub most : stop ≤ count
  pub ends : stop ≤ g * r
  pub full : stop < count → stop ≡ g * r
  pub room : count ≤ length ids

-- the ways out of a group's first id
module _ (left low at v : ℕ) (offs : List ℕ) (z : left ≡ 0) where
  pub next_place : (le_of (take 4 offs) ≡ at → ⊥) → Err 5 ≡ next_of left low at offs v
  unfolding next_of id_held
  next_place h = rw (z, ne_eqb (le_of (take 4 offs)) at h)

  pub next_start : le_of (take 4 offs) ≡ at → leb low v ≡ true → Ok v ≡ next_of left low at offs v
  unfolding next_of id_held id_of
  next_start h k = rw (z, eq-eqb (le_of (take 4 offs)) at h, k)

  pub next_low : le_of (take 4 offs) ≡ at → leb low v ≡ false → Err 5 ≡ next_of left low at offs v
  unfolding next_of id_held id_of
  next_low h k = rw (z, eq-eqb (le_of (take 4 offs)) at h, k)

-- of a difference, behind the id prev
module _ (left low at v : ℕ) (offs : List ℕ) (h : 0 < left) where
  l : left ≡ suc (left - 1)
  l = omega arith

  pub next_none : v ≡ 0 → Err 5 ≡ next_of left low at offs v
  unfolding next_of id_held
  next_none z = rw (l, le-ltb 0 v (omega arith))

  pub next_over : 0 < v → 2 ^ 64 < low + v → Err 5 ≡ next_of left low at offs v
  unfolding next_of id_held
  next_over k q = rw (l, lt-ltb 0 v k, lt-leb (low + v) (2 ^ 64) q)

  pub next_sum : 0 < v → low + v ≤ 2 ^ 64 → (x : ℕ) → x ≡ low + v - 1 → Ok x ≡ next_of left low at offs v
  unfolding next_of id_held id_of
  next_sum k q x e = rw (l, lt-ltb 0 v k, le-leb (low + v) (2 ^ 64) q, e)
