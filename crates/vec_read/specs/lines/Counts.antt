-- How many ids a list must take, so that it takes those of each block: the counts that the lines of the directory say.
-- The laws stand in proofs/lines/Counts.antt. Definitions only.
-- Assumes nothing.
use Rattle.std.specs.Prelude.{ℕ, ◌+◌, ◌*◌, ◌≤◌, ◌<◌, List, drop}
use Rattle.vecseg.specs.Payload.{line_of, block_count}

-- the counts of the first n lines are at most `most`
pub record CountsTo (s : List ℕ) (n most : ℕ) : Type 0 where
  pub fits : (i : ℕ) → i < n → (line_of (drop (4 + 12 * i) s)).count ≤ most

-- of all lines
abbrev pub CountsFit : List ℕ → ℕ → Type 0
CountsFit s most = CountsTo s (block_count s) most
