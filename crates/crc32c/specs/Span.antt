-- The register that some bytes of a list leave, from 0: a place further on, a byte more, two lists added; and that of a whole list.
-- The laws stand in proofs/Span.antt. Definitions only.
-- Assumes nothing.
use Rattle.std.specs.Prelude.{ℕ, zero, suc, ◌+◌, List, get_or}
use Rattle.crc32c.specs.Crc.{byte_step}

-- the register of k bytes of a list from the place i on, from 0
unfoldable pub span : List ℕ → ℕ → ℕ → ℕ
span w i zero = 0
span w i (suc k) = byte_step (span w i k) (get_or w (i + k) 0)
