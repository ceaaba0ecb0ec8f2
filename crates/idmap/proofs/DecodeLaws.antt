-- Laws of the id map as it is read: where the reading loops stand, their next turns and their ways out.
-- Assumes nothing.
use Rattle.std.specs.Prelude.{ℕ, suc, ◌+◌, ◌-◌, ◌*◌, ◌≤◌, ◌<◌, ◌≡◌, refl, List, [], ◌∷◌, ◌++◌, length, take, drop, set, Ok, Err, Some, None}
use Rattle.std.specs.Prelude.{Option as Maybe}
use Rattle.std.proofs.Math.Path.{sym}
use Rattle.std.proofs.Common.{◌∙◌, length-take-le, le-leb}
use Rattle.std.proofs.Math.Bool.{true, false}
use Rattle.std.proofs.Math.Numerals.{add-one}
use native.Mathlib.Omega.{arith}
use Rattle.std.proofs.Math.Dec.{leb}
use Rattle.std.proofs.Math.Seq.{drop-drop, take-suc-set}
use Rattle.std.proofs.lemmas.Bool.{lt-leb}
use Rattle.octets.specs.le.Le.{le_of, le_at}
use Rattle.idmap.specs.Decode.{MapRead, Whole, Broken, read_raw, raw_map, ids_of, map_answer}
use Rattle.idmap.specs.DecodeLaws.{low_of, Filled}

pub low_more : (x : ℕ) → low_of (Some x) ≡ suc x
low_more x = add-one x

pub low_none : (prev : Maybe ℕ) → prev ≡ None → low_of prev ≡ 0
low_none prev z = rw z

pub low_some : (prev : Maybe ℕ) (x : ℕ) → prev ≡ Some x → low_of prev ≡ suc x
low_some prev x e = rw e (add-one x)

-- both promises of a function that reads a map, where the map is broken, and where it is whole
pub broken : (m : MapRead) (out : List ℕ) → m ≡ Broken → (Err 5 ≡ map_answer m) × Filled m out
unfolding map_answer ids_of
broken m out e = rw e (refl, refl)

-- a number that is passed on is 5
pub broken_by : (m : MapRead) (out : List ℕ) (e : ℕ) → e ≡ 5 → m ≡ Broken → (Err e ≡ map_answer m) × Filled m out
broken_by m out e f q = rw f (broken m out q)

pub whole : (m : MapRead) (n count : ℕ) (out : List ℕ) → m ≡ Whole n (take count out) → count ≤ length out → (Ok n ≡ map_answer m) × Filled m out
unfolding map_answer ids_of
whole m n count out e h = rw (e, length-take-le count out h) (refl, refl)

-- and what the answer says of the map
pub was_broken : (m : MapRead) (e : ℕ) → map_answer m ≡ Err e → m ≡ Broken
unfolding map_answer
was_broken (Whole n ids) e p = absurd (let z : ◌≡◌ {A = ℕ} 0 1 = cc in omega arith)
was_broken Broken e p = refl

pub map_five : (m : MapRead) (e : ℕ) → map_answer m ≡ Err e → e ≡ 5
unfolding map_answer
map_five (Whole n ids) e p = absurd (let z : ◌≡◌ {A = ℕ} 0 1 = cc in omega arith)
map_five Broken e p = let q : 5 ≡ e = cc in sym q

pub was_whole : (m : MapRead) (n : ℕ) → map_answer m ≡ Ok n → m ≡ Whole n (ids_of m)
unfolding map_answer ids_of
was_whole (Whole k ids) n p = let e : k ≡ n = cc in rw e
was_whole Broken n p = absurd (let z : ◌≡◌ {A = ℕ} 0 1 = cc in omega arith)

-- ---- raw

pub record RawAt (s : List ℕ) (count i : ℕ) (prev : Maybe ℕ) (ids : List ℕ) : Type 0 where
  pub at_most : i ≤ count
  pub same : read_raw (7 + 8 * count) (count - i) (low_of prev) (take i ids) (drop (7 + 8 * i) s) ≡ read_raw (7 + 8 * count) count 0 [] (drop 7 s)

pub raw_first : (s : List ℕ) (count : ℕ) (ids : List ℕ) → RawAt s count 0 None ids
raw_first s count ids =
    let e : count - 0 ≡ count = omega arith in
    record { at_most = omega arith; same = rw e }

module _ (s : List ℕ) (count i : ℕ) (prev : Maybe ℕ) (ids : List ℕ) (st : RawAt s count i prev ids) (h : i < count) where
  fuel : count - i ≡ suc (count - (i + 1))
  fuel = omega arith

  pub raw_next : (x : ℕ) → x ≡ le_at 8 s (7 + 8 * i) → leb (low_of prev) x ≡ true → i < length ids → RawAt s count (i + 1) (Some x) (set ids i x)
  unfolding read_raw
  raw_next x is up room =
      let up2 : leb (low_of prev) (le_of (take 8 (drop (7 + 8 * i) s))) ≡ true = rw is at up in
      let e : 7 + 8 * i + 8 ≡ 7 + 8 * (i + 1) = omega arith in
      let one : read_raw (7 + 8 * count) (count - i) (low_of prev) (take i ids) (drop (7 + 8 * i) s)
      ≡ read_raw (7 + 8 * count) (count - (i + 1)) (suc x) (take i ids ++ (x ∷ [])) (drop (7 + 8 * (i + 1)) s) =
      rw (fuel, up2, ← is, drop-drop, e) in
      record { at_most = omega arith; same = rw (low_more x, add-one i, take-suc-set ids i x room) (rw add-one at (sym one ∙ st.same)) }

  pub raw_stop : (x : ℕ) → x ≡ le_at 8 s (7 + 8 * i) → leb (low_of prev) x ≡ false → read_raw (7 + 8 * count) count 0 [] (drop 7 s) ≡ Broken
  unfolding read_raw
  raw_stop x is up =
      let up2 : leb (low_of prev) (le_of (take 8 (drop (7 + 8 * i) s))) ≡ false = rw is at up in
      sym st.same ∙ rw (fuel, up2)

pub raw_last : (s : List ℕ) (count i : ℕ) (prev : Maybe ℕ) (ids : List ℕ) → RawAt s count i prev ids → count ≤ i
    → read_raw (7 + 8 * count) count 0 [] (drop 7 s) ≡ Whole (7 + 8 * count) (take count ids)
unfolding read_raw
raw_last s count i prev ids st h =
    let at_most = st.at_most in
    let e : count - i ≡ 0 = omega arith in
    let f : i ≡ count = omega arith in
    sym st.same ∙ rw (e, f)

-- the room for the ids
pub raw_short : (count : ℕ) (s : List ℕ) → length s < 7 + 8 * count → raw_map count s ≡ Broken
unfolding raw_map
raw_short count s h = rw (lt-leb (7 + 8 * count) (length s) h)

pub raw_room : (count : ℕ) (s : List ℕ) → 7 + 8 * count ≤ length s → raw_map count s ≡ read_raw (7 + 8 * count) count 0 [] (drop 7 s)
unfolding raw_map
raw_room count s h = rw (le-leb (7 + 8 * count) (length s) h)
