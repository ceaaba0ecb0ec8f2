-- The register after a list of bytes, by the register before it and the list's own checksum: what stood in the register goes on as zero bytes
-- take it, and the list adds what it makes by itself. Zero bytes add nothing: they are one product.
-- Assumes nothing.
use Rattle.std.specs.Prelude.{ℕ, zero, suc, ◌+◌, ◌*◌, ◌^◌, ◌<◌, ◌≡◌, List, [], ◌∷◌, length, replicate}
use Rattle.std.proofs.Common.{sym, ap, ap₂, ◌∙◌, arith}
use Rattle.std.specs.Int.Bits.{bit_xor, xor_zero_r}
use Rattle.std.proofs.lemmas.Nat.{xor_lt}
use Rattle.crc32c.specs.Crc.{poly, bits, byte_step, crc_from, crc_of}
use Rattle.crc32c.proofs.Xor.{xor_assoc}
use Rattle.crc32c.proofs.Linear.{bits_none, bits_xor, bits_add}
use Rattle.crc32c.specs.Extend.{extended}
use Rattle.crc32c.specs.Product.{product}
use Rattle.crc32c.proofs.Product.{power, product_power}

abbrev ones : ℕ
ones = 0xFFFF_FFFF

-- the register is linear
crc_from_xor : (c d : ℕ) (s : List ℕ) → crc_from (bit_xor c d) s ≡ bit_xor (bits poly (8 * length s) c) (crc_from d s)
unfolding crc_from byte_step
crc_from_xor c d [] = ap (λ (x : ℕ). bit_xor x d) (sym (bits_none poly c))
crc_from_xor c d (b ∷ s) =
    let n : 8 + 8 * length s ≡ 8 * suc (length s) = omega arith in
    ap (λ (x : ℕ). crc_from x s) (ap (λ (x : ℕ). bits poly 8 x) (xor_assoc c d b) ∙ bits_xor poly 8 c (bit_xor d b))
    ∙ crc_from_xor (bits poly 8 c) (byte_step d b) s
    ∙ ap (λ (x : ℕ). bit_xor x (crc_from (byte_step d b) s)) (sym (bits_add poly 8 (8 * length s) c) ∙ ap (λ (x : ℕ). bits poly x c) n)

-- a checksum goes on over a list whose own checksum is known
extended_known : (sum : ℕ) (s : List ℕ) → extended sum s ≡ bit_xor (bits poly (8 * length s) sum) (crc_of s)
unfolding extended crc_of
extended_known sum s =
    ap (λ (x : ℕ). bit_xor x ones) (crc_from_xor sum ones s) ∙ xor_assoc (bits poly (8 * length s) sum) (crc_from ones s) ones

pub extended_joined : (sum known : ℕ) (s : List ℕ) (z r : ℕ) → known ≡ crc_of s → z ≡ bits poly (8 * length s) sum → r ≡ bit_xor z known → r ≡ extended sum s
extended_joined sum known s z r k ez er =
    er ∙ ap₂ (λ (x y : ℕ). bit_xor x y) ez k ∙ sym (extended_known sum s)

-- ---- zero bytes

crc_from_zeros : (c n : ℕ) → crc_from c (replicate n 0) ≡ bits poly (8 * n) c
unfolding crc_from byte_step
crc_from_zeros c zero = sym (bits_none poly c)
crc_from_zeros c (suc n) =
    let m : 8 + 8 * n ≡ 8 * suc n = omega arith in
    ap (λ (x : ℕ). crc_from (bits poly 8 x) (replicate n 0)) (xor_zero_r c)
    ∙ crc_from_zeros (bits poly 8 c) n
    ∙ sym (bits_add poly 8 (8 * n) c)
    ∙ ap (λ (x : ℕ). bits poly x c) m

-- a checksum goes on over n zero bytes by the product with the power of 8 * n
pub extended_zeros : (sum n : ℕ) → sum < 2 ^ 32
    → extended sum (replicate n 0) ≡ bit_xor (product (bit_xor sum 0xFFFF_FFFF) (power (8 * n))) 0xFFFF_FFFF
unfolding extended
extended_zeros sum n h =
    let l : bit_xor sum ones < 2 ^ 32 = xor_lt 32 sum ones h (omega arith) in
    ap (λ (x : ℕ). bit_xor x ones) (crc_from_zeros (bit_xor sum ones) n ∙ sym (product_power (8 * n) (bit_xor sum ones) l))

-- none of them is left
pub zeros_done : (x m i n c : ℕ) → m ≡ 0 → bits poly (8 * (m * 2 ^ i)) x ≡ bits poly (8 * n) c → x ≡ bits poly (8 * n) c
zeros_done x m i n c z same =
    let e : 0 ≡ 8 * (0 * 2 ^ i) = omega arith in
    sym (bits_none poly x) ∙ ap (λ (w : ℕ). bits poly w x) e ∙ ap (λ (w : ℕ). bits poly (8 * (w * 2 ^ i)) x) (sym z) ∙ same
