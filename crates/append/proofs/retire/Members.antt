-- Where an id stands among the entries' ids: whether it may be retired, and the states with it retired, by its index alone. The ids rise, so it
-- stands there once.
-- Assumes nothing.
use Rattle.std.specs.Prelude.{ℕ, zero, suc, ◌+◌, ◌<◌, ◌≡◌, refl, Bool, true, false, cond, not, ◌&&◌, List, [], ◌∷◌, ◌++◌, eqb, drop, get_or, set}
use Rattle.std.proofs.Common.{sym, ap, ap₂, ◌∙◌, arith, eq-eqb, ne_eqb, eqb-true}
use Rattle.std.proofs.Math.Bool.{or-false, or-true}
use Rattle.std.proofs.Math.Option.{Option, none, some}
use Rattle.std.proofs.lemmas.Bool.{eqb-false}
use Rattle.octets.specs.numbers.Numbers.{index_of}
use Rattle.manifest.specs.Payload.{manifest_kind}
use Rattle.batch.specs.Form.{member}
use Rattle.append.specs.retire.Marks.{retirable_by, retired_by, Rises}
use Rattle.append.proofs.retire.Held.{member_snoc}

-- ---- the search, as a view

-- a number stands in a list first at an index
pub data MemberAt (x : ℕ) : List ℕ → ℕ → Type 0 where
  here : {n : ℕ} {ns : List ℕ} → n ≡ x → MemberAt x (n ∷ ns) zero
  there : {n : ℕ} {ns : List ℕ} {i : ℕ} → (n ≡ x → ⊥) → MemberAt x ns i → MemberAt x (n ∷ ns) (suc i)

-- it stands nowhere
pub data Lacks (x : ℕ) : List ℕ → Type 0 where
  done : Lacks x []
  more : {n : ℕ} {ns : List ℕ} → (n ≡ x → ⊥) → Lacks x ns → Lacks x (n ∷ ns)

pub stands : (x : ℕ) (ns : List ℕ) (i : ℕ) → index_of x ns ≡ some i → MemberAt x ns i
unfolding index_of
stands x [] i e = absurd (let z : ◌≡◌ {A = ℕ} 0 1 = cc in omega arith)
stands x (n ∷ ns) i e = pick (eqb n x) refl (index_of x ns) (stands x ns) i e
  where
    pick : (t : Bool) → eqb n x ≡ t → (o : Option ℕ) → ((j : ℕ) → o ≡ some j → MemberAt x ns j) → (i : ℕ)
        → cond t (some 0) (elim o [ none ↦ none | some j ↦ some (suc j) ]) ≡ some i → MemberAt x (n ∷ ns) i
    pick true p o ih i q = let z : 0 ≡ i = cc in rw (← z) (here (eqb-true n x p))
    pick false p none ih i q = absurd (let z : ◌≡◌ {A = ℕ} 0 1 = cc in omega arith)
    pick false p (some j) ih i q = let z : suc j ≡ i = cc in rw (← z) (there (eqb-false n x p) (ih j refl))

pub lacks : (x : ℕ) (ns : List ℕ) → index_of x ns ≡ none → Lacks x ns
unfolding index_of
lacks x [] e = done
lacks x (n ∷ ns) e = pick (eqb n x) refl (index_of x ns) (lacks x ns) e
  where
    pick : (t : Bool) → eqb n x ≡ t → (o : Option ℕ) → (o ≡ none → Lacks x ns)
        → cond {A = Option ℕ} t (some 0) (elim o [ none ↦ none | some j ↦ some (suc j) ]) ≡ none → Lacks x (n ∷ ns)
    pick true p o ih q = absurd (let z : ◌≡◌ {A = ℕ} 0 1 = cc in omega arith)
    pick false p none ih q = more (eqb-false n x p) (ih refl)
    pick false p (some j) ih q = absurd (let z : ◌≡◌ {A = ℕ} 0 1 = cc in omega arith)

-- a number below a rising list stands nowhere in it
below_lacks : (x : ℕ) (ns : List ℕ) (least : ℕ) → Rises least ns → x < least → Lacks x ns
unfolding Rises
below_lacks x [] least r h = done
below_lacks x (n ∷ ns) least r h =
    let low = r.0 in
    let d : n ≡ x → ⊥ = λ e. omega arith in
    more d (below_lacks x ns (n + 1) r.1 (omega arith))

-- ---- an id that stands nowhere

pub retirable_lacks : {x : ℕ} {ns : List ℕ} → Lacks x ns → (ks ss : List ℕ) → retirable_by ns ks ss x ≡ false
unfolding retirable_by
retirable_lacks done ks ss = refl
retirable_lacks {x} (more {n = n} d l) ks ss = rw (ne_eqb n x d) (retirable_lacks l (drop 1 ks) (drop 1 ss))

-- the entry of another id keeps its state
member_other : (n : ℕ) (xs : List ℕ) (x : ℕ) → (n ≡ x → ⊥) → member n (xs ++ x ∷ []) ≡ member n xs
member_other n xs x d =
    let e : eqb x n ≡ false = ne_eqb x n (λ q. d (sym q)) in
    member_snoc n xs x ∙ rw e (or-false (member n xs))

retired_lacks : {x : ℕ} {ns : List ℕ} → Lacks x ns → (ss xs : List ℕ) → retired_by ns ss (xs ++ x ∷ []) ≡ retired_by ns ss xs
unfolding retired_by
retired_lacks done ss xs = refl
retired_lacks {x} (more {n = n} d l) ss xs = rw (member_other n xs x d, retired_lacks l (drop 1 ss) xs)

-- ---- an id that stands at an index

get_d_tail : (l : List ℕ) (i : ℕ) → get_or (drop 1 l) i 0 ≡ get_or l (suc i) 0
get_d_tail [] i = refl
get_d_tail (x ∷ l) i = refl

-- it may be retired exactly if the state there is 0 and the type there is not 0x05
pub retirable_stands : {x : ℕ} {ns : List ℕ} {i : ℕ} → MemberAt x ns i → (least : ℕ) → Rises least ns → (ks ss : List ℕ)
    → retirable_by ns ks ss x ≡ eqb (get_or ss i 0) 0 && not (eqb (get_or ks i 0) manifest_kind)
unfolding retirable_by Rises
retirable_stands {x} (here {n = n} {ns = ns} e) least r ks ss =
    let l = below_lacks x ns (n + 1) r.1 (omega arith) in
    rw (eq-eqb n x e, retirable_lacks l (drop 1 ks) (drop 1 ss)) (or-false _)
retirable_stands {x} (there {n = n} {i = i} d s) least r ks ss =
    rw (ne_eqb n x d)
    (retirable_stands s (n + 1) r.1 (drop 1 ks) (drop 1 ss)
    ∙ ap₂ (λ (a b : ℕ). eqb a 0 && not (eqb b manifest_kind)) (get_d_tail ss i) (get_d_tail ks i))

-- one id more is retired by setting the state there
pub retired_stands : {x : ℕ} {ns : List ℕ} {i : ℕ} → MemberAt x ns i → (least : ℕ) → Rises least ns → (ss xs : List ℕ)
    → retired_by ns ss (xs ++ x ∷ []) ≡ set (retired_by ns ss xs) i 1
unfolding retired_by Rises
retired_stands {x} (here {n = n} {ns = ns} e) least r ss xs =
    let l = below_lacks x ns (n + 1) r.1 (omega arith) in
    let m : member n (xs ++ x ∷ []) ≡ true = member_snoc n xs x ∙ rw (eq-eqb x n (sym e)) (or-true (member n xs)) in
    rw (m, retired_lacks l (drop 1 ss) xs)
retired_stands {x} (there {n = n} {i = i} d s) least r ss xs = rw (member_other n xs x d, retired_stands s (n + 1) r.1 (drop 1 ss) xs)

-- the state there after some ids: 1 if it is one of them, else the old one
pub state_stands : {x : ℕ} {ns : List ℕ} {i : ℕ} → MemberAt x ns i → (ss xs : List ℕ) → get_or (retired_by ns ss xs) i 0 ≡ cond (member x xs) 1 (get_or ss i 0)
unfolding retired_by
state_stands (here e) ss xs = rw e
state_stands {x} (there {i = i} d s) ss xs = state_stands s (drop 1 ss) xs ∙ ap (cond (member x xs) 1) (get_d_tail ss i)
