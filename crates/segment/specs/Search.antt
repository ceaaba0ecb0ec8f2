-- The search for the last confirmed link from the file's end: whether a link of the chain begins at a boundary, as a loop of steps from byte 0
-- finds it; and the search itself, one boundary after the other. Any test of confirmation will do.
-- The laws stand in proofs/Search.antt. Definitions only.
-- Assumes nothing.
use Rattle.std.specs.Prelude.{◌≡◌, List, ◌∷◌, ◌++◌, ℕ}
use Rattle.segment.specs.chain.Laws.{sizes}
use Rattle.segment.specs.Header.{Link, reader}
use Rattle.segment.specs.Chained.{chain}

-- a link with those before and behind it in the chain, which begins at a place
pub record Placed (f : List ℕ) (p : ℕ) (b : List Link) (l : Link) (z : List Link) : Type 0 where
  pub split : chain f ≡ b ++ l ∷ z
  pub place : sizes reader b ≡ p
