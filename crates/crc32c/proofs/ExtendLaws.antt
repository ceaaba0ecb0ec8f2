-- The laws of specs/Extend.antt.
-- Assumes nothing.
use Rattle.std.specs.Prelude.{ℕ, ◌+◌, ◌^◌, ◌<◌, ◌≡◌, refl, List, ◌++◌, take, drop}
use Rattle.std.proofs.Common.{sym, ap, ◌∙◌, arith, take-add}
use Rattle.std.specs.Int.Bits.{bit_xor}
use Rattle.std.proofs.lemmas.Nat.{xor_lt}
use Rattle.octets.specs.le.Le.{Bytes}
use Rattle.crc32c.specs.Crc.{crc_from, crc_of}
use Rattle.crc32c.proofs.Xor.{xor_twice}
use Rattle.crc32c.proofs.Words.{crc_from_append, crc_from_lt}
use Rattle.crc32c.specs.Extend.{extended}

abbrev ones : ℕ
ones = 0xFFFF_FFFF

-- behind nothing
pub extended_first : (s : List ℕ) → extended 0 s ≡ crc_of s
unfolding extended crc_of
extended_first s = refl

-- a list, and another behind it
extended_append : (sum : ℕ) (s t : List ℕ) → extended (extended sum s) t ≡ extended sum (s ++ t)
unfolding extended
extended_append sum s t =
    ap (λ (x : ℕ). bit_xor (crc_from x t) ones) (xor_twice (crc_from (bit_xor sum ones) s) ones)
    ∙ ap (λ (x : ℕ). bit_xor x ones) (sym (crc_from_append (bit_xor sum ones) s t))

pub crc_of_append : (s t : List ℕ) → extended (crc_of s) t ≡ crc_of (s ++ t)
crc_of_append s t = ap (λ (x : ℕ). extended x t) (sym (extended_first s)) ∙ extended_append 0 s t ∙ extended_first (s ++ t)

-- the checksum of the front of a list, a part further
pub crc_of_part : (s : List ℕ) (at n : ℕ) → extended (crc_of (take at s)) (take n (drop at s)) ≡ crc_of (take (at + n) s)
crc_of_part s at n = crc_of_append (take at s) (take n (drop at s)) ∙ ap crc_of (sym (take-add at n s))

-- the checksum by the register that the bytes leave
pub extended_by : (sum : ℕ) (s : List ℕ) (c x : ℕ) → c ≡ bit_xor sum 0xFFFF_FFFF → x ≡ crc_from c s → bit_xor x 0xFFFF_FFFF ≡ extended sum s
unfolding extended
extended_by sum s c x ec ex = ap (λ (y : ℕ). bit_xor y ones) (ex ∙ ap (λ (y : ℕ). crc_from y s) ec)

pub extended_lt : (sum : ℕ) (s : List ℕ) → sum < 2 ^ 32 → Bytes s → extended sum s < 2 ^ 32
unfolding extended
extended_lt sum s h hs = xor_lt 32 _ ones (crc_from_lt (bit_xor sum ones) s (xor_lt 32 sum ones h (omega arith)) hs) (omega arith)
