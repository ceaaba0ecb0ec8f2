-- Laws of the live segments and of the order in which they are searched.
-- Assumes nothing.
use Rattle.reading.specs.Live.{live_of, with_id, vectors_of, search_order, live}
use Prim.Native.Nat.{ℕ, suc, ◌+◌, ◌<◌, ◌≤◌}
use Rattle.std.specs.Prelude.{◌≡◌, Bool, cond, eqb, length, drop, get_or, take}
use Rattle.std.proofs.Math.Path.{refl}
use Rattle.std.proofs.Common.{ap, ◌∙◌, drop_of_length-le, drop-cons, take-suc, length-take-le}
use Rattle.std.proofs.Math.Bool.{true, false}
use Rattle.std.proofs.Math.Option.{some, none}
use mathlib.Core.List.{List, ◌∷◌, reverse, [], ◌++◌, reverse-append}
use native.Mathlib.Omega.{arith}
use Rattle.std.proofs.Math.Seq.{get_or-drop, drop-drop, take-length}
use borrow.Author.Tests.{eq-eqb, ne_eqb}
use Rattle.segment.specs.Header.{Link, no_link}
use Rattle.segment.specs.chain.Chain.{Found}
use Rattle.manifest.specs.Opening.{states}
use Rattle.vecseg.specs.Payload.{vec_kind}

-- at most one link
abbrev pub only : Bool → Link → List Link
only t l = cond t (l ∷ []) []

-- ---- an entry more, where those before it are passed

module _ (ls : List Link) (ss : List ℕ) (i : ℕ) (h : i < length ls) where
  from-here : live_of (drop i ls) (drop i ss)
      ≡ cond (eqb (get_or ss i 0) 0) (get_or ls i no_link ∷ live_of (drop (suc i) ls) (drop (suc i) ss)) (live_of (drop (suc i) ls) (drop (suc i) ss))
  unfolding live_of
  from-here =
      let e : i + 0 ≡ i = omega arith in
      let n : i + 1 ≡ suc i = omega arith in
      rw (drop-cons ls i no_link h, get_or-drop i ss 0 0, e, drop-drop 1 i ss, n)

  pub with_retired : (id : ℕ) → (get_or ss i 0 ≡ 0 → ⊥) → with_id id (live_of (drop i ls) (drop i ss)) ≡ with_id id (live_of (drop (suc i) ls) (drop (suc i) ss))
  with_retired id n = rw (from-here, ne_eqb (get_or ss i 0) 0 n)

  pub with_other : (id : ℕ) → ((get_or ls i no_link).id ≡ id → ⊥) → with_id id (live_of (drop i ls) (drop i ss)) ≡ with_id id (live_of (drop (suc i) ls) (drop (suc i) ss))
  unfolding with_id
  with_other id n = rw from-here (pick (eqb (get_or ss i 0) 0))
    where
      pick : (t : Bool)
          → with_id id (cond t (get_or ls i no_link ∷ live_of (drop (suc i) ls) (drop (suc i) ss)) (live_of (drop (suc i) ls) (drop (suc i) ss)))
          ≡ with_id id (live_of (drop (suc i) ls) (drop (suc i) ss))
      pick true = rw (ne_eqb (get_or ls i no_link).id id n)
      pick false = refl

  pub with_here : (id : ℕ) → get_or ss i 0 ≡ 0 → (get_or ls i no_link).id ≡ id → with_id id (live_of (drop i ls) (drop i ss)) ≡ some (get_or ls i no_link)
  unfolding with_id
  with_here id z e = rw (from-here, eq-eqb (get_or ss i 0) 0 z, eq-eqb (get_or ls i no_link).id id e)

pub with_none : (id : ℕ) (ls : List Link) (ss : List ℕ) (i : ℕ) → length ls ≤ i → with_id id (live_of (drop i ls) (drop i ss)) ≡ none
unfolding with_id live_of
with_none id ls ss i h = rw (drop_of_length-le ls {i = i} h)

-- ---- an entry more, where those behind it are passed

-- the order of the first entries of a directory
unfoldable pub order_of : List Link → List ℕ → List Link
order_of ls ss = reverse (vectors_of (live_of ls ss))

pub order_all : (r : Found Link) → order_of (take (length r.before) r.before) (states r) ≡ search_order r
unfolding order_of search_order live
order_all r = rw (take-length r.before)

pub live_append : (ls ms : List Link) (ss : List ℕ) → live_of (ls ++ ms) ss ≡ live_of ls ss ++ live_of ms (drop (length ls) ss)
unfolding live_of
live_append [] ms ss = refl
live_append (x ∷ xs) ms ss =
    let n : 1 + length xs ≡ suc (length xs) = omega arith in
    let e : drop (length xs) (drop 1 ss) ≡ drop (suc (length xs)) ss = drop-drop (length xs) 1 ss ∙ ap (λ (k : ℕ). drop k ss) n in
    let ih : live_of (xs ++ ms) (drop 1 ss) ≡ live_of xs (drop 1 ss) ++ live_of ms (drop (suc (length xs)) ss) = live_append xs ms (drop 1 ss) ∙ rw e in
    rw ih (pick (eqb (get_or ss 0 0) 0))
  where
    pick : (t : Bool)
        → cond t (x ∷ (live_of xs (drop 1 ss) ++ live_of ms (drop (suc (length xs)) ss))) (live_of xs (drop 1 ss) ++ live_of ms (drop (suc (length xs)) ss))
        ≡ cond t (x ∷ live_of xs (drop 1 ss)) (live_of xs (drop 1 ss)) ++ live_of ms (drop (suc (length xs)) ss)
    pick true = refl
    pick false = refl

-- the live ones of one link more
pub live_more : (ls : List Link) (ss : List ℕ) (i : ℕ) → i < length ls → live_of (take (suc i) ls) ss ≡ live_of (take i ls) ss ++ only (eqb (get_or ss i 0) 0) (get_or ls i no_link)
unfolding live_of
live_more ls ss i h =
    let n : length (take i ls) ≡ i = length-take-le i ls (omega arith) in
    let z : i + 0 ≡ i = omega arith in
    ap (λ (xs : List Link). live_of xs ss) (take-suc ls i no_link h) ∙ live_append (take i ls) (get_or ls i no_link ∷ []) ss ∙ rw (n, get_or-drop i ss 0 0, z)

vectors_append : (ls ms : List Link) → vectors_of (ls ++ ms) ≡ vectors_of ls ++ vectors_of ms
unfolding vectors_of
vectors_append [] ms = refl
vectors_append (x ∷ xs) ms = rw (vectors_append xs ms) (pick (eqb x.kind vec_kind))
  where
    pick : (t : Bool) → cond t (x ∷ (vectors_of xs ++ vectors_of ms)) (vectors_of xs ++ vectors_of ms) ≡ cond t (x ∷ vectors_of xs) (vectors_of xs) ++ vectors_of ms
    pick true = refl
    pick false = refl

module _ (ls : List Link) (ss : List ℕ) (i : ℕ) (h : i < length ls) where
  more : order_of (take (suc i) ls) ss ≡ reverse (vectors_of (only (eqb (get_or ss i 0) 0) (get_or ls i no_link))) ++ order_of (take i ls) ss
  unfolding order_of
  more =
      rw (live_more ls ss i h, vectors_append) (reverse-append (vectors_of (live_of (take i ls) ss)) (vectors_of (only (eqb (get_or ss i 0) 0) (get_or ls i no_link))))

  pub order_retired : (get_or ss i 0 ≡ 0 → ⊥) → order_of (take (suc i) ls) ss ≡ order_of (take i ls) ss
  unfolding vectors_of
  order_retired n = more ∙ rw (ne_eqb (get_or ss i 0) 0 n)

  pub order_other : ((get_or ls i no_link).kind ≡ vec_kind → ⊥) → order_of (take (suc i) ls) ss ≡ order_of (take i ls) ss
  unfolding vectors_of
  order_other n = more ∙ pick (eqb (get_or ss i 0) 0)
    where
      pick : (t : Bool) → reverse (vectors_of (only t (get_or ls i no_link))) ++ order_of (take i ls) ss ≡ order_of (take i ls) ss
      pick true = rw (ne_eqb (get_or ls i no_link).kind vec_kind n)
      pick false = refl

  pub order_here : get_or ss i 0 ≡ 0 → (get_or ls i no_link).kind ≡ vec_kind → order_of (take (suc i) ls) ss ≡ get_or ls i no_link ∷ order_of (take i ls) ss
  unfolding vectors_of
  order_here z e = more ∙ rw (eq-eqb (get_or ss i 0) 0 z, eq-eqb (get_or ls i no_link).kind vec_kind e)
