-- What contracts name of Laws; the laws stand in proofs/chain/Laws.antt. Definitions only.
-- Assumes nothing.
use mathlib.Core.List.{List, [], ◌∷◌}
use Prim.Native.Nat.{ℕ, ◌+◌}
use Rattle.segment.specs.chain.Chain.{Reader}

module _ {S L : Type 0} (R : Reader S L) where
  open R use {link_at, size, after}

  unfoldable pub afters : S → List L → S
  afters st [] = st
  afters st (l ∷ ls) = afters (after st l) ls

  unfoldable pub sizes : List L → ℕ
  sizes [] = 0
  sizes (l ∷ ls) = size l + sizes ls
