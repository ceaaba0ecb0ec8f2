-- The last confirmed link of a chain, and what an append and a cut append leave of it, for any format and any test of
-- confirmation.
-- The laws stand in proofs/chain/Last.antt. Definitions only.
-- Assumes nothing.
use Rattle.std.specs.Prelude.{◌≡◌, Bool}
use Rattle.std.proofs.Math.Bool.{true}
use mathlib.Core.List.{List, ◌∷◌, ◌++◌}
use Rattle.segment.specs.chain.Chain.{Found}

module _ {L : Type 0} (confirmed : List L → L → Bool) where
  -- where the last confirmed link stands
  pub record LastIn (ls : List L) (r : Found L) : Type 0 where
    pub rest : List L
    pub split : ls ≡ r.before ++ r.link ∷ rest
    pub holds : confirmed r.before r.link ≡ true
