-- The cases of a search in a list of numbers, and of one that follows another.
-- Assumes nothing.
use Rattle.octets.specs.numbers.Numbers.{least_next, index_of}
use Rattle.octets.specs.Options.{option_of}
use Rattle.std.specs.Prelude.{Some, None}
use Rattle.std.specs.Prelude.{Option as Maybe}
use Rattle.std.proofs.Math.Path.{ap, refl, sym}
use Rattle.std.specs.Prelude.{◌≡◌, Bool, true, false, cond, leb, ltb, eqb, List, [], ◌∷◌, length, drop, get_or}
use Rattle.std.proofs.Common.{◌∙◌, drop_of_length-le, drop-cons}
use Prim.Native.Nat.{ℕ, ◌+◌, ◌≤◌, ◌<◌, suc}
use Rattle.std.proofs.Math.Option.{Option, none, some}
use native.Mathlib.Omega.{arith}
use borrow.Author.Tests.{le-leb, lt-leb, ltb-true, ltb-false, eq-eqb, ne_eqb}
use Rattle.std.proofs.Math.Numerals.{add-one}

pub was_place : (o : Option ℕ) (i : ℕ) → option_of o ≡ Some i → o ≡ some i
was_place none i e = absurd (let z : ◌≡◌ {A = ℕ} 0 1 = cc in omega arith)
was_place (some j) i e = let q : j ≡ i = cc in ap some q

pub was_nowhere : (o : Option ℕ) → option_of o ≡ None → o ≡ none
was_nowhere none e = refl
was_nowhere (some j) e = absurd (let z : ◌≡◌ {A = ℕ} 0 1 = cc in omega arith)

pub index_place : (o : Option ℕ) (i : ℕ) → some i ≡ o → Some i ≡ option_of o
index_place o i e = rw (sym e)

pub index_nowhere : (o : Option ℕ) → none ≡ o → None ≡ option_of o
index_nowhere o e = rw (sym e)

-- ---- ids

pub above_first : (prev : Maybe ℕ) (next : ℕ) → prev ≡ None → true ≡ leb (least_next prev) next
above_first prev next e = rw e (sym (le-leb 0 next (omega arith)))

pub above_next : (prev next : ℕ) → ltb prev next ≡ leb (least_next (Some prev)) next
above_next prev next = go (ltb prev next) refl
  where
    go : (t : Bool) → ltb prev next ≡ t → t ≡ leb (prev + 1) next
    go true h = let k : prev < next = ltb-true prev next h in sym (le-leb (prev + 1) next (omega arith))
    go false h = let k : next ≤ prev = ltb-false prev next h in sym (lt-leb (prev + 1) next (omega arith))

-- ---- an index in a list

-- i more numbers stand before
unfoldable pub shift : ℕ → Option ℕ → Option ℕ
shift i none = none
shift i (some j) = some (i + j)

-- where the loop stands: none of the first i is x
pub record IndexAt (x : ℕ) (ids : List ℕ) (i : ℕ) : Type 0 where
  pub at_most : i ≤ length ids
  pub same : shift i (index_of x (drop i ids)) ≡ index_of x ids

shift_zero : (o : Option ℕ) → shift 0 o ≡ o
unfolding shift
shift_zero none = refl
shift_zero (some j) = let e : 0 + j ≡ j = omega arith in ap some e

pub index_first : (x : ℕ) (ids : List ℕ) → IndexAt x ids 0
index_first x ids = record { at_most = omega arith; same = shift_zero (index_of x ids) }

module _ (x : ℕ) (ids : List ℕ) (i : ℕ) (st : IndexAt x ids i) (h : i < length ids) where
  pub index_here : get_or ids i 0 ≡ x → some i ≡ index_of x ids
  unfolding index_of shift
  index_here e =
      let z : i + 0 ≡ i = omega arith in
      let one : shift i (index_of x (drop i ids)) ≡ some i = rw (drop-cons ids i 0 h, eq-eqb (get_or ids i 0) x e, z) in
      sym one ∙ st.same

  shift_suc : (o : Option ℕ) → shift i (elim o [ none ↦ none | some j ↦ some (suc j) ]) ≡ shift (suc i) o
  unfolding shift
  shift_suc none = refl
  shift_suc (some j) = let e : i + suc j ≡ suc i + j = omega arith in ap some e

  pub index_next : (get_or ids i 0 ≡ x → ⊥) → IndexAt x ids (i + 1)
  unfolding index_of
  index_next e =
      let one : shift i (index_of x (drop i ids)) ≡ shift (suc i) (index_of x (drop (suc i) ids)) =
      rw (drop-cons ids i 0 h, ne_eqb (get_or ids i 0) x e) (shift_suc (index_of x (drop (suc i) ids))) in
      record { at_most = omega arith; same = rw add-one (sym one ∙ st.same) }

pub index_last : (x : ℕ) (ids : List ℕ) (i : ℕ) → IndexAt x ids i → length ids ≤ i → none ≡ index_of x ids
unfolding index_of shift
index_last x ids i st h =
    let one : shift i (index_of x (drop i ids)) ≡ none = rw (drop_of_length-le ids {i = i} h) in
    sym one ∙ st.same

-- an index that is found lies in the list, and the number stands there
pub index_within : (x : ℕ) (ids : List ℕ) (i : ℕ) → index_of x ids ≡ some i → i < length ids
unfolding index_of
index_within x [] i e = absurd (let z : ◌≡◌ {A = ℕ} 0 1 = cc in omega arith)
index_within x (y ∷ ys) i e = pick (eqb y x) (index_of x ys) (index_within x ys) e
  where
    pick : (t : Bool) (o : Option ℕ) → ((j : ℕ) → o ≡ some j → j < length ys) → cond t (some 0) (elim o [ none ↦ none | some j ↦ some (suc j) ]) ≡ some i → i < suc (length ys)
    pick true o ih q = let z : 0 ≡ i = cc in omega arith
    pick false none ih q = absurd (let z : ◌≡◌ {A = ℕ} 0 1 = cc in omega arith)
    pick false (some j) ih q =
        let z : suc j ≡ i = cc in
        let w : j < length ys = ih j refl in
        omega arith
