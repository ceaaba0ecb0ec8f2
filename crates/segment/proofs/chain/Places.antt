-- The places of a chain's links: a place has one link at most, and none begins inside another.
-- Assumes nothing.
use Rattle.std.specs.Prelude.{◌≡◌, ◌+◌, ◌≤◌, ◌<◌}
use Rattle.std.proofs.Math.Path.{refl, sym, ap}
use Rattle.std.proofs.Common.{◌∙◌}
use mathlib.Core.List.{List, [], ◌∷◌, ◌++◌, head-eq_of_cons-eq, tail-eq_of_cons-eq}
use native.Mathlib.Omega.{arith}
use Rattle.segment.specs.chain.Chain.{All, Reader}
use Rattle.segment.specs.chain.Laws.{sizes}
use Rattle.segment.proofs.chain.Walk.{sizes_append}

module _ {S L : Type 0} (R : Reader S L) where
  open R use {size}

  abbrev Positive : List L → Type 0
  Positive ls = All (λ l. 0 < size l) ls

  -- two links that begin at one place are the same link
  pub same_place : (ls b b' z z' : List L) (l l' : L) → Positive ls → ls ≡ b ++ l ∷ z → ls ≡ b' ++ l' ∷ z' → sizes R b ≡ sizes R b' → (b ≡ b') × (l ≡ l')
  unfolding sizes All
  same_place ls [] [] z z' l l' t p q e = (refl, head-eq_of_cons-eq (sym p ∙ q))
  same_place ls [] (y ∷ b') z z' l l' t p q e = let h : 0 < size y = (rw q at t).0 in absurd (omega arith)
  same_place ls (x ∷ b) [] z z' l l' t p q e = let h : 0 < size x = (rw p at t).0 in absurd (omega arith)
  same_place ls (x ∷ b) (y ∷ b') z z' l l' t p q e =
      let r : x ∷ (b ++ l ∷ z) ≡ y ∷ (b' ++ l' ∷ z') = sym p ∙ q in
      let h : x ≡ y = head-eq_of_cons-eq r in
      let k : size x ≡ size y = ap size h in
      let i = same_place (b ++ l ∷ z) b b' z z' l l' (rw p at t).1 refl (tail-eq_of_cons-eq r) (omega arith) in
      (rw (h, i.0), i.1)

  -- a link that begins behind another begins at its end or later
  pub later_place : (ls b b' z z' : List L) (l l' : L) → ls ≡ b ++ l ∷ z → ls ≡ b' ++ l' ∷ z' → sizes R b < sizes R b' → sizes R b + size l ≤ sizes R b'
  unfolding sizes
  later_place ls [] [] z z' l l' p q h = absurd (omega arith)
  later_place ls [] (y ∷ b') z z' l l' p q h = let k : size l ≡ size y = ap size (head-eq_of_cons-eq (sym p ∙ q)) in omega arith
  later_place ls (x ∷ b) [] z z' l l' p q h = absurd (omega arith)
  later_place ls (x ∷ b) (y ∷ b') z z' l l' p q h =
      let r : x ∷ (b ++ l ∷ z) ≡ y ∷ (b' ++ l' ∷ z') = sym p ∙ q in
      let k : size x ≡ size y = ap size (head-eq_of_cons-eq r) in
      let i = later_place (b ++ l ∷ z) b b' z z' l l' refl (tail-eq_of_cons-eq r) (omega arith) in
      omega arith

  -- every link ends within the chain
  pub within : (ls b z : List L) (l : L) → ls ≡ b ++ l ∷ z → sizes R b + size l ≤ sizes R ls
  unfolding sizes
  within ls b z l p = rw (p, sizes_append R b (l ∷ z)) (omega arith)
