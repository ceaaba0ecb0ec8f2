-- The product of two registers, and the powers by which a register goes on over many bits at once. The register of the power 0 has its highest
-- bit alone; the product takes one factor's digits from the lowest on, a step and a sum for each.
-- The laws stand in proofs/Product.antt. Definitions only.
-- Assumes nothing.
use Rattle.std.specs.Prelude.{ℕ, zero, suc, ◌*◌, ◌/◌, ◌%◌}
use Rattle.std.specs.Int.Bits.{bit_xor}
use Rattle.crc32c.specs.Crc.{poly, bit}

-- j digits of x more, each times k, behind the sum y of those before
unfoldable pub digits : ℕ → ℕ → ℕ → ℕ → ℕ
unfolding bit
digits k zero x y = y
digits k (suc j) x y = digits k j (x / 2) (bit_xor (bit poly y) (x % 2 * k))

unfoldable pub product : ℕ → ℕ → ℕ
product x k = digits k 32 x 0
