-- Laws of a delta map as it is read: where the reading loop stands, its next turn and its ways out.
-- Assumes nothing.
use Rattle.std.specs.Prelude.{ℕ, zero, suc, ◌+◌, ◌-◌, ◌*◌, ◌/◌, ◌%◌, min, ◌≤◌, ◌<◌, ◌≡◌, refl, true, false, List, [], ◌∷◌, ◌++◌, length, take, drop, set, Err, Some, None}
use Rattle.std.specs.Prelude.{Option as Maybe}
use Rattle.std.proofs.Common.{sym, ◌∙◌, suc-mul, le-div_iff_mul-le, div-lt_iff_lt-mul, div-le_self, add-one, arith, length-drop, drop-drop, take-suc-set, le-leb}
use Rattle.std.proofs.lemmas.Bool.{lt-leb}
use Rattle.std.proofs.lemmas.Grind.{div_ceil_times}
use Rattle.varint.specs.Varint.{read_as, read_varint}
use Rattle.varint.proofs.Trip.{read_fits}
use Rattle.idmap.specs.Encode.{left_after}
use Rattle.idmap.specs.Decode.{Whole, Broken, id_of, id_held, offs_behind, read_deltas, groups, delta_map}
use Rattle.idmap.specs.DecodeLaws.{low_of}
use Rattle.idmap.proofs.DecodeLaws.{low_more}

-- ---- groups

-- a group that begins before the count is one of them
pub groups_more : (count r g : ℕ) → 0 < r → g * r < count → g < groups count r
unfolding groups
groups_more count r g h k =
    let e : suc g * r ≡ g * r + r = suc-mul g r in
    (le-div_iff_mul-le h).1 (omega arith)

-- each of them begins before the count, and behind the last there is none
pub groups_some : (count r g : ℕ) → 0 < r → g < groups count r → g * r < count
unfolding groups
groups_some count r g h k =
    let e : suc g * r ≡ g * r + r = suc-mul g r in
    let w : suc g * r ≤ count + (r - 1) = (le-div_iff_mul-le h).0 k in
    omega arith

pub groups_all : (count r : ℕ) → 0 < r → count ≤ groups count r * r
unfolding groups
groups_all count r h = omega arith

-- as the language rounds a quotient up
pub groups_ceil : (count r : ℕ) → 0 < r → count / r + min 1 (count % r) ≡ groups count r
unfolding groups
groups_ceil count r h =
    let t = div_ceil_times count r h in
    let q : ℕ = count / r + min 1 (count % r) in
    let e : suc q * r ≡ q * r + r = suc-mul q r in
    let low : q ≤ (count + (r - 1)) / r = (le-div_iff_mul-le h).1 (omega arith) in
    let high : (count + (r - 1)) / r < suc q = (div-lt_iff_lt-mul h).1 (omega arith) in
    omega arith

pub groups_few : (count r : ℕ) → groups count r ≤ count + (r - 1)
unfolding groups
groups_few count r = div-le_self (count + (r - 1)) r

-- the number of the group behind one id
unfoldable pub group_after : ℕ → ℕ → ℕ
group_after zero g = g + 1
group_after (suc left) g = g

offs_next : (left g : ℕ) (s : List ℕ) → offs_behind left (drop (7 + 4 * g) s) ≡ drop (7 + 4 * group_after left g) s
unfolding offs_behind group_after
offs_next zero g s = let e : 7 + 4 * g + 4 ≡ 7 + 4 * (g + 1) = omega arith in rw (drop-drop, e)
offs_next (suc left) g s = refl

group_next : (r i left g : ℕ) → 0 < r → i + left ≡ g * r → i + 1 + left_after r left ≡ group_after left g * r
unfolding left_after group_after
group_next r i zero g h e = rw (add-one g, suc-mul g r) (omega arith)
group_next r i (suc left) g h e = omega arith

group_few : (left g i : ℕ) → g ≤ i → group_after left g ≤ i + 1
unfolding group_after
group_few zero g i h = omega arith
group_few (suc left) g i h = omega arith

-- ---- one turn

module _ (start r n left low at : ℕ) (offs acc s : List ℕ) where
  pub deltas_bad : (e : ℕ) → read_varint s ≡ Err e → read_deltas start r (suc n) left low at offs acc s ≡ Broken
  unfolding read_deltas
  deltas_bad e p = rw (p, read_deltas)

  module _ (v k : ℕ) (p : read_varint s ≡ read_as v k) where
    pub deltas_refused : id_held left low at offs v ≡ false → read_deltas start r (suc n) left low at offs acc s ≡ Broken
    unfolding read_deltas
    deltas_refused q = rw (p, read_deltas) (rw q)

    pub deltas_next : id_held left low at offs v ≡ true
        → read_deltas start r (suc n) left low at offs acc s
        ≡ read_deltas start r n (left_after r left) (suc (id_of left low v)) (at + k) (offs_behind left offs) (acc ++ (id_of left low v ∷ [])) (drop k s)
    unfolding read_deltas
    deltas_next q = rw (p, read_deltas) (rw q)

-- ---- where the loop stands: i ids are read, the last of them prev; left more of the group, and g groups begun; pos is where the next id begins

pub record DeltaAt (s : List ℕ) (count r start i left : ℕ) (prev : Maybe ℕ) (pos g : ℕ) (ids : List ℕ) : Type 0 where
  pub at_most : i ≤ count
  pub group : i + left ≡ g * r
  pub begun : g ≤ i
  pub first : prev ≡ None → left ≡ 0
  pub behind : start ≤ pos
  pub inside : pos ≤ length s
  pub same : read_deltas start r (count - i) left (low_of prev) (pos - start) (drop (7 + 4 * g) s) (take i ids) (drop pos s)
      ≡ read_deltas start r count 0 0 0 (drop 7 s) [] (drop start s)

pub delta_first : (s : List ℕ) (count r start : ℕ) (ids : List ℕ) → start ≤ length s → DeltaAt s count r start 0 0 None start 0 ids
delta_first s count r start ids h =
    let e : count - 0 ≡ count = omega arith in
    let f : start - start ≡ 0 = omega arith in
    record { at_most = omega arith; group = omega arith; begun = omega arith; first = λ z. refl; behind = omega arith; inside = h; same = rw (e, f) }

module _ (s : List ℕ) (count r start i left : ℕ) (prev : Maybe ℕ) (pos g : ℕ) (ids : List ℕ) (st : DeltaAt s count r start i left prev pos g ids) (h : i < count) where
  fuel : count - i ≡ suc (count - (i + 1))
  fuel = omega arith

  -- the restart offset of a group that begins lies before the ids
  pub delta_restart : 0 < r → left ≡ 0 → g < groups count r
  delta_restart hr z =
      let e = st.group in
      groups_more count r g hr (omega arith)

  pub delta_bad : (e : ℕ) → read_varint (drop pos s) ≡ Err e → read_deltas start r count 0 0 0 (drop 7 s) [] (drop start s) ≡ Broken
  delta_bad e p = sym st.same ∙ rw fuel (deltas_bad start r _ left _ _ _ _ _ e p)

  module _ (v k : ℕ) (p : read_varint (drop pos s) ≡ read_as v k) where
    pub delta_refused : id_held left (low_of prev) (pos - start) (drop (7 + 4 * g) s) v ≡ false → read_deltas start r count 0 0 0 (drop 7 s) [] (drop start s) ≡ Broken
    delta_refused q = sym st.same ∙ rw fuel (deltas_refused start r _ left _ _ _ _ _ v k p q)

    -- the varint lies in the bytes
    pub delta_inside : pos + k ≤ length s
    delta_inside =
        let inside = st.inside in
        omega (arith, (read_fits (drop pos s) v k p).0, length-drop pos s)

    pub delta_next : id_held left (low_of prev) (pos - start) (drop (7 + 4 * g) s) v ≡ true → 0 < r → i < length ids
        → (x : ℕ) → x ≡ id_of left (low_of prev) v
        → DeltaAt s count r start (i + 1) (left_after r left) (Some x) (pos + k) (group_after left g) (set ids i x)
    delta_next q hr room x is =
        let behind = st.behind in
        let e : pos - start + k ≡ pos + k - start = omega arith in
        let one : read_deltas start r (count - i) left (low_of prev) (pos - start) (drop (7 + 4 * g) s) (take i ids) (drop pos s)
        ≡ read_deltas start r (count - (i + 1)) (left_after r left) (suc x) (pos + k - start) (drop (7 + 4 * group_after left g) s) (take i ids ++ (x ∷ [])) (drop (pos + k) s) =
        rw fuel (deltas_next start r _ left _ _ _ _ _ v k p q ∙ rw (← is, e, offs_next, drop-drop)) in
        record {
          at_most = omega arith;
          group = group_next r i left g hr st.group;
          begun = group_few left g i st.begun;
          first = λ z. absurd (let w : ◌≡◌ {A = ℕ} 0 1 = cc in omega arith);
          behind = omega arith;
          inside = delta_inside;
          same = rw (low_more x, add-one i, take-suc-set ids i x room) (rw add-one at (sym one ∙ st.same));
        }

pub delta_last : (s : List ℕ) (count r start i left : ℕ) (prev : Maybe ℕ) (pos g : ℕ) (ids : List ℕ) → DeltaAt s count r start i left prev pos g ids → count ≤ i
    → read_deltas start r count 0 0 0 (drop 7 s) [] (drop start s) ≡ Whole pos (take count ids)
unfolding read_deltas
delta_last s count r start i left prev pos g ids st h =
    let at_most = st.at_most in
    let behind = st.behind in
    let e : count - i ≡ 0 = omega arith in
    let f : i ≡ count = omega arith in
    let k : start + (pos - start) ≡ pos = omega arith in
    sym st.same ∙ rw (e, f, k)

-- the room for the restart offsets
pub delta_short : (r count : ℕ) (s : List ℕ) → length s < 7 + 4 * groups count r → delta_map r count s ≡ Broken
unfolding delta_map
delta_short r count s h = rw (lt-leb (7 + 4 * groups count r) (length s) h)

pub delta_room : (r count : ℕ) (s : List ℕ) → 7 + 4 * groups count r ≤ length s
    → delta_map r count s ≡ read_deltas (7 + 4 * groups count r) r count 0 0 0 (drop 7 s) [] (drop (7 + 4 * groups count r) s)
unfolding delta_map
delta_room r count s h = rw (le-leb (7 + 4 * groups count r) (length s) h)

-- the same, from where the ids begin
pub delta_from : (r count start : ℕ) (s : List ℕ) → start ≡ 7 + 4 * groups count r → start ≤ length s
    → delta_map r count s ≡ read_deltas start r count 0 0 0 (drop 7 s) [] (drop start s)
delta_from r count start s e h = rw e (delta_room r count s (omega arith))
