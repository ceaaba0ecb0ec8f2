-- Two ways of reading a link, one of which reads every link that the other reads: its chain goes on where the other's stops.
-- Assumes nothing.
use Rattle.std.specs.Prelude.{◌≡◌, length, drop}
use Rattle.std.proofs.Math.Path.{refl}
use Rattle.std.proofs.Common.{sym, ap, ◌∙◌}
use Rattle.std.proofs.Math.Option.{Option, none, some, some-ne-none}
use mathlib.Core.List.{List, [], ◌∷◌, ◌++◌}
use Prim.Native.Nat.{ℕ, zero, suc}
use Rattle.segment.specs.chain.Chain.{All, Reader, walk_f, walk}

module _ {S L : Type 0} (narrow wide : S → List ℕ → Option L) (size : L → ℕ) (after : S → L → S)
    (wider : (st : S) (s : List ℕ) (l : L) → narrow st s ≡ some l → wide st s ≡ some l) where
  abbrev Narrow : Reader S L
  Narrow = record { link_at = narrow; size = size; after = after }

  abbrev Wide : Reader S L
  Wide = record { link_at = wide; size = size; after = after }

  goes_on : (k : ℕ) (st : S) (s : List ℕ) → (more : List L) × (walk_f Wide k st s ≡ walk_f Narrow k st s ++ more)
  unfolding walk_f
  goes_on zero st s = ([], refl)
  goes_on (suc k) st s = go (narrow st s) refl (λ l. goes_on k (after st l) (drop (size l) s))
    where
      go : (o : Option L) → narrow st s ≡ o
          → ((l : L) → (more : List L) × (walk_f Wide k (after st l) (drop (size l) s) ≡ walk_f Narrow k (after st l) (drop (size l) s) ++ more))
          → (more : List L) × (walk_f Wide (suc k) st s ≡ elim o [ none ↦ [] | some l ↦ l ∷ walk_f Narrow k (after st l) (drop (size l) s) ] ++ more)
      go none e ih = (walk_f Wide (suc k) st s, refl)
      go (some l) e ih = ((ih l).0, rw (wider st s l e) (ap (λ (ls : List L). l ∷ ls) (ih l).1))

  -- the wider chain begins with the narrower one
  pub walk_wider : (st : S) (s : List ℕ) → (more : List L) × (walk Wide st s ≡ walk Narrow st s ++ more)
  unfolding walk
  walk_wider st s = goes_on (length s) st s

  -- where every link of the wider chain has a property with which the narrower reading reads it too, the two chains are one
  module _ (P : L → Type 0) (held : (st : S) (s : List ℕ) (l : L) → wide st s ≡ some l → P l → narrow st s ≡ some l) where
    same-steps : (k : ℕ) (st : S) (s : List ℕ) → All P (walk_f Wide k st s) → walk_f Wide k st s ≡ walk_f Narrow k st s
    unfolding walk_f All
    same-steps zero st s t = refl
    same-steps (suc k) st s t = go (wide st s) refl (narrow st s) refl (λ l. same-steps k (after st l) (drop (size l) s))
      where
        go : (o : Option L) → wide st s ≡ o → (n : Option L) → narrow st s ≡ n
            → ((l : L) → All P (walk_f Wide k (after st l) (drop (size l) s)) → walk_f Wide k (after st l) (drop (size l) s) ≡ walk_f Narrow k (after st l) (drop (size l) s))
            → walk_f Wide (suc k) st s ≡ walk_f Narrow (suc k) st s
        go none e none n ih = rw (e, n)
        go none e (some l) n ih = absurd (some-ne-none l (sym (wider st s l n) ∙ e))
        go (some l) e n q ih =
            let u : All P (l ∷ walk_f Wide k (after st l) (drop (size l) s)) = rw e at t in
            rw (e, held st s l e u.0) (ap (λ (ls : List L). l ∷ ls) (ih l u.1))

    pub walk_same : (st : S) (s : List ℕ) → All P (walk Wide st s) → walk Wide st s ≡ walk Narrow st s
    unfolding walk
    walk_same st s t = same-steps (length s) st s t
