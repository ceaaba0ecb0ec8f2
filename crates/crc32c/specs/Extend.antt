-- The checksum of a list that stands behind others, by the checksum of those: so a checksum is taken part by part.
-- The laws stand in proofs/ExtendLaws.antt. Definitions only.
-- Assumes nothing.
use Rattle.std.specs.Prelude.{ℕ, List}
use Rattle.std.specs.Int.Bits.{bit_xor}
use Rattle.crc32c.specs.Crc.{crc_from}

unfoldable pub extended : ℕ → List ℕ → ℕ
extended sum s = bit_xor (crc_from (bit_xor sum 0xFFFF_FFFF) s) 0xFFFF_FFFF
