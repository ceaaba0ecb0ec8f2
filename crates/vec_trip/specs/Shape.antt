-- Where the parts of a payload of one block stand: the directory's line, its fill, the block.
-- The laws stand in proofs/Shape.antt. Definitions only.
-- Assumes nothing.
use Rattle.std.specs.Prelude.{ℕ}
use Rattle.vecseg.specs.Payload.{Line}

-- the line of the block that a writer writes
unfoldable pub line_for : ℕ → ℕ → ℕ → ℕ → Line
line_for count dim dtype tier = record { offset = 64; count = count; dim = dim; dtype = dtype; tier = tier }
