-- What the check of the block directory answers: the number that refuses the payload, or 0 where its count, its lines and the fill behind them are good.
-- The laws stand in proofs/lines/Directory.antt. Definitions only.
-- Assumes nothing.
use Rattle.std.specs.Prelude.{ℕ, ◌≤◌, ◌≡◌, true, List, length, drop}
use Rattle.vecseg.specs.Payload.{lines_bad, filled, block_count, lines_end, check_of}

pub record DirectoryGood (s : List ℕ) : Type 0 where
  pub four : 4 ≤ length s
  pub most : block_count s ≤ 64
  pub room : lines_end s ≤ length s
  pub lines : lines_bad (block_count s) (drop 4 s) ≡ 0
  pub fill : filled (lines_end s) s ≡ true

pub record DirectoryRead (s : List ℕ) (r : ℕ) : Type 0 where
  pub good : r ≡ 0 → DirectoryGood s
  pub bad : (r ≡ 0 → ⊥) → r ≡ check_of s
