-- Rounding up to a multiple of 64, the alignment of segments and blocks.
-- Assumes nothing.
use Rattle.std.specs.Prelude.{ℕ, ◌+◌, ◌*◌, ◌/◌, ◌-◌, List, replicate}

unfoldable pub round64 : ℕ → ℕ
round64 n = (n + 63) / 64 * 64

-- zeros behind n bytes to the next multiple of 64
unfoldable pub padding : ℕ → List ℕ
padding n = replicate (round64 n - n) 0
