-- The list of ids to retire, one id more: whether it may be, and that a front which may not be spoils the whole.
-- Assumes nothing.
use Rattle.std.specs.Prelude.{ℕ, ◌≡◌, Bool, ◌&&◌, ◌||◌, eqb}
use Rattle.std.proofs.Math.Path.{refl, sym}
use Rattle.std.proofs.Common.{ap, ◌∙◌, true≢false, eq-eqb, ne_eqb, eqb-true}
use Rattle.std.proofs.Math.Bool.{true, false, not, or_assoc, or-false}
use mathlib.Core.List.{List, [], ◌∷◌, ◌++◌}
use Rattle.std.proofs.lemmas.Bool.{eqb-false}
use Rattle.octets.proofs.ZeroLaws.{and_split}
use Rattle.batch.specs.Form.{member}
use Rattle.append.specs.retire.Marks.{retirable_by, retire_held_by}

-- ---- a number in a list

eqb_sym : (a b : ℕ) → eqb a b ≡ eqb b a
eqb_sym a b = pick (eqb a b) refl
  where
    pick : (t : Bool) → eqb a b ≡ t → t ≡ eqb b a
    pick true e = sym (eq-eqb b a (sym (eqb-true a b e)))
    pick false e = sym (ne_eqb b a (λ q. eqb-false a b e (sym q)))

member_append : (x : ℕ) (xs ys : List ℕ) → member x (xs ++ ys) ≡ member x xs || member x ys
unfolding member
member_append x [] ys = refl
member_append x (y ∷ xs) ys = ap (λ (t : Bool). eqb y x || t) (member_append x xs ys) ∙ sym (or_assoc (eqb y x) (member x xs) (member x ys))

pub member_snoc : (y : ℕ) (xs : List ℕ) (x : ℕ) → member y (xs ++ x ∷ []) ≡ member y xs || eqb x y
unfolding member
member_snoc y xs x = member_append y xs (x ∷ []) ∙ ap (λ (t : Bool). member y xs || t) (or-false (eqb x y))

-- ---- the list

module _ (ns ks ss : List ℕ) where
  -- one id more may be retired exactly if it may by itself and does not stand in the list yet
  pub held_snoc : (xs : List ℕ) (x : ℕ) → retire_held_by ns ks ss (xs ++ x ∷ []) ≡ retire_held_by ns ks ss xs && retirable_by ns ks ss x && not (member x xs)
  unfolding retire_held_by member
  held_snoc [] x = one (retirable_by ns ks ss x)
    where
      one : (t : Bool) → t && true && true ≡ true && t && true
      one true = refl
      one false = refl
  held_snoc (y ∷ xs) x =
      rw (held_snoc xs x, member_snoc y xs x, eqb_sym x y)
      (more (retirable_by ns ks ss y) (member y xs) (eqb y x) (retire_held_by ns ks ss xs) (retirable_by ns ks ss x) (member x xs))
    where
      more : (r m e h q n : Bool) → r && not (m || e) && (h && q && not n) ≡ r && not m && h && q && not (e || n)
      more false m e h q n = refl
      more true true e h q n = refl
      more true false true false q n = refl
      more true false true true false n = refl
      more true false true true true n = refl
      more true false false h q n = refl

  held-front : (xs ys : List ℕ) → retire_held_by ns ks ss (xs ++ ys) ≡ true → retire_held_by ns ks ss xs ≡ true
  unfolding retire_held_by
  held-front [] ys e = refl
  held-front (x ∷ xs) ys e =
      let a = and_split (retirable_by ns ks ss x && not (member x (xs ++ ys))) _ e in
      let b = and_split (retirable_by ns ks ss x) _ a.0 in
      let m : member x xs ≡ false = first (member x xs) (member x ys) (rw (member_append x xs ys) at b.1) in
      rw (b.0, m, held-front xs ys a.1)
    where
      first : (t u : Bool) → not (t || u) ≡ true → t ≡ false
      first true u q = sym q
      first false u q = refl

  -- an id that may not be retired spoils the list, whatever follows
  pub held_fails : (xs ys : List ℕ) → retire_held_by ns ks ss xs ≡ false → retire_held_by ns ks ss (xs ++ ys) ≡ false
  held_fails xs ys e = pick (retire_held_by ns ks ss (xs ++ ys)) refl
    where
      pick : (t : Bool) → retire_held_by ns ks ss (xs ++ ys) ≡ t → t ≡ false
      pick true h = absurd (true≢false (sym (held-front xs ys h) ∙ e))
      pick false h = refl
