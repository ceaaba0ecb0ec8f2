-- A text that is written piece by piece into a buffer.
-- The laws stand in proofs/text/Written.antt. Definitions only.
-- Assumes nothing.
use Rattle.std.specs.Prelude.{ℕ, ◌+◌, ◌≤◌, ◌≡◌, List, length}
use Rattle.octets.specs.Over.{over}

-- the buffer is as it was, but that xs stands in it from `at` to `end`
pub record Written (old new : List ℕ) (at : ℕ) (xs : List ℕ) (end : ℕ) : Type 0 where
  pub room : at + length xs ≤ length old
  pub ends : end ≡ at + length xs
  pub holds : new ≡ over old at xs
