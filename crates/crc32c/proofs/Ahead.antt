-- The laws of specs/Ahead.antt.
-- Assumes nothing.
use Rattle.std.specs.Prelude.{ℕ, zero, suc, ◌+◌, ◌*◌, ◌/◌, ◌%◌, ◌^◌, ◌<◌, ◌≡◌, refl, List, [], ◌∷◌, map, get_or}
use Rattle.std.proofs.Common.{sym, ap, ap₂, subst, ◌∙◌, add_assoc, mul_assoc, mod-lt, pow-suc, arith, lit<, pow-add}
use Rattle.std.specs.Int.Bits.{bit_xor}
use Rattle.std.proofs.lemmas.Nat.{xor_comm}
use Rattle.crc32c.specs.Crc.{poly, bit, bits}
use Rattle.crc32c.proofs.Linear.{bits_none, bits_first, bits_xor, bits_zero, bits_add, bits_shifted, bits_split}
use Rattle.crc32c.specs.Ahead.{Ahead, factor, factors_from}

-- the factors that are used, for n from 8 to 64 and from 200 to 256, computed
abbrev pub lengths : List ℕ
lengths = 8 ∷ 16 ∷ 24 ∷ 32 ∷ 40 ∷ 48 ∷ 56 ∷ 64 ∷ 200 ∷ 208 ∷ 216 ∷ 224 ∷ 232 ∷ 240 ∷ 248 ∷ 256 ∷ []

abbrev pub factors : List ℕ
factors =
    0x79_35C1_8180 ∷ 0x9_D14C_3B80 ∷ 0x52_A0C9_3F00 ∷ 0x6E_A2D5_5C00 ∷ 0x1C_08B7_D600 ∷ 0x77_9835_8C80 ∷ 0x34_0196_6400 ∷ 0x24_9E3E_9380 ∷
    0x17_1A65_CE80 ∷ 0x16_D742_0780 ∷ 0x2F_1F49_5000 ∷ 0x51_0AC5_9A00 ∷ 0x7B_EDE5_9280 ∷ 0xA_DDA0_8480 ∷ 0x3C_53B0_4680 ∷ 0x1E_D368_6580 ∷ []

factors_hold : map factor lengths ≡ factors
unfolding factor bits bit
factors_hold = refl

pub factor_at : (k : ℕ) → get_or factors k 0 ≡ get_or (map factor lengths) k 0
factor_at k = ap (λ (l : List ℕ). get_or l k 0) (sym factors_hold)

-- a digit times what n bits make of 1
digit_on : (n k d : ℕ) → d < 2 → bits poly k (d * bits poly n 1) ≡ bits poly (n + k) d
digit_on n k zero h =
    let z : 0 * bits poly n 1 ≡ 0 = omega arith in
    ap (λ (x : ℕ). bits poly k x) z ∙ bits_zero poly k ∙ sym (bits_zero poly (n + k))
digit_on n k (suc zero) h =
    let o : 1 * bits poly n 1 ≡ bits poly n 1 = omega arith in
    ap (λ (x : ℕ). bits poly k x) o ∙ sym (bits_add poly n k 1)
digit_on n k (suc (suc d)) h = omega arith

-- a digit times the factor comes down in k steps; eight more make of it what n + k + 1 make of the digit
digit_down : (n k j d : ℕ) → suc k + j ≡ 8 → d < 2 → bits poly 8 (bits (factor n) k (d * factor n)) ≡ bits poly (n + suc k) d
unfolding factor
digit_down n k j d e h =
    let r : ℕ = bits poly n 1 in
    let e7 : 7 ≡ j + k = omega arith in
    let e8 : 8 ≡ j + suc k = omega arith in
    ap (λ (x : ℕ). bits poly 8 (bits (factor n) k x))
    (ap (λ (x : ℕ). d * (r * x)) (ap (λ (x : ℕ). 2 ^ x) e7 ∙ pow-add 2 j k)
    ∙ sym (mul_assoc d r (2 ^ j * 2 ^ k))
    ∙ sym (mul_assoc (d * r) (2 ^ j) (2 ^ k)))
    ∙ ap (λ (x : ℕ). bits poly 8 x) (bits_shifted (factor n) k (d * r * 2 ^ j))
    ∙ ap (λ (x : ℕ). bits poly x (d * r * 2 ^ j)) e8
    ∙ bits_add poly j (suc k) (d * r * 2 ^ j)
    ∙ ap (λ (x : ℕ). bits poly (suc k) x) (bits_shifted poly j (d * r))
    ∙ digit_on n (suc k) d h

-- eight steps after k steps with the factor make of a number of k digits what n + k make of it
down : (n k j x : ℕ) → k + j ≡ 8 → x < 2 ^ k → bits poly 8 (bits (factor n) k x) ≡ bits poly (n + k) x
down n zero j x e h =
    let z : x ≡ 0 = omega arith in
    ap (λ (y : ℕ). bits poly 8 y) (bits_none (factor n) x ∙ z)
    ∙ bits_zero poly 8
    ∙ sym (ap (λ (y : ℕ). bits poly (n + 0) y) z ∙ bits_zero poly (n + 0))
down n (suc k) j x e h =
    let q : ℕ = factor n in
    let e1 : k + suc j ≡ 8 = omega arith in
    let hx : x / 2 < 2 ^ k = omega (arith, pow-suc 2 k) in
    let en : 1 + (n + k) ≡ n + suc k = omega arith in
    ap (λ (y : ℕ). bits poly 8 y) (bits_first q k x ∙ bits_xor q k (x / 2) (x % 2 * q))
    ∙ bits_xor poly 8 (bits q k (x / 2)) (bits q k (x % 2 * q))
    ∙ ap₂ (λ (y z : ℕ). bit_xor y z) (down n k (suc j) (x / 2) e1 hx) (digit_down n k j (x % 2) e (mod-lt x (lit< tt)))
    ∙ ap (λ (y : ℕ). bit_xor (bits poly (n + k) (x / 2)) (bits poly y (x % 2))) (sym en)
    ∙ sym (bits_split poly 1 (n + k) x)
    ∙ ap (λ (y : ℕ). bits poly y x) en

-- a byte, and a byte above which there is more
pub ahead_byte : (n q b r : ℕ) → q ≡ factor n → b < 256 → r ≡ bits q 8 b → Ahead n b r
ahead_byte n q b r eq hb er m =
    ap (λ (y : ℕ). bits poly (8 + m) y) (er ∙ ap (λ (y : ℕ). bits y 8 b) eq)
    ∙ bits_add poly 8 m (bits (factor n) 8 b)
    ∙ ap (λ (y : ℕ). bits poly m y) (down n 8 0 b refl hb)
    ∙ sym (bits_add poly (n + 8) m b)
    ∙ ap (λ (y : ℕ). bits poly y b) (add_assoc n 8 m)

pub ahead_more : (n q x r s : ℕ) → q ≡ factor (8 + n) → r ≡ bits q 8 (x % 256) → Ahead n (x / 256) s → Ahead (8 + n) x (bit_xor r s)
ahead_more n q x r s eq er hs m =
    bits_xor poly (8 + m) r s
    ∙ ap₂ (λ (y z : ℕ). bit_xor y z) (ahead_byte (8 + n) q (x % 256) r eq (mod-lt x (lit< tt)) er m) (hs m)
    ∙ xor_comm (bits poly (8 + n + (8 + m)) (x % 256)) (bits poly (n + (8 + m)) (x / 256))
    ∙ ap (λ (y : ℕ). bit_xor (bits poly (n + (8 + m)) (x / 256)) (bits poly y (x % 256))) (add_assoc 8 n (8 + m))
    ∙ sym (bits_split poly 8 (n + (8 + m)) x)
    ∙ ap (λ (y : ℕ). bits poly y x) (sym (add_assoc 8 n (8 + m)))

-- sixteen steps of a number by its lower 48 bits, taken on to the upper 16
pub ahead_reduced : (y r : ℕ) → Ahead 64 (y % 2 ^ 48 * 2 ^ 16) r → bits poly 16 (bit_xor r (y / 2 ^ 48)) ≡ bits poly 64 y
ahead_reduced y r hr =
    let l : ℕ = y % 2 ^ 48 in
    let h : ℕ = y / 2 ^ 48 in
    bits_xor poly 16 r h
    ∙ ap (λ (k : ℕ). bit_xor k (bits poly 16 h)) (hr 8 ∙ bits_add poly 16 64 (l * 2 ^ 16) ∙ ap (λ (k : ℕ). bits poly 64 k) (bits_shifted poly 16 l))
    ∙ xor_comm (bits poly 64 l) (bits poly 16 h)
    ∙ sym (bits_split poly 48 16 y)

-- the same by how far the whole word is taken
pub ahead_next : (k n q x r s : ℕ) → k ≡ 8 + n → q ≡ factor k → r ≡ bits q 8 (x % 256) → Ahead n (x / 256) s → Ahead k x (bit_xor r s)
ahead_next k n q x r s e eq er hs =
    subst (λ (j : ℕ). Ahead j x (bit_xor r s)) (sym e) (ahead_more n q x r s (eq ∙ ap (λ (j : ℕ). factor j) e) er hs)

-- the factors of the two distances, computed
pub four_words_factors : factors_from 200
    ≡ 0x1E_D368_6580 ∷ 0x3C_53B0_4680 ∷ 0xA_DDA0_8480 ∷ 0x7B_EDE5_9280 ∷ 0x51_0AC5_9A00 ∷ 0x2F_1F49_5000 ∷ 0x16_D742_0780 ∷ 0x17_1A65_CE80 ∷ []
unfolding factors_from factor bits bit
four_words_factors = refl

pub one_word_factors : factors_from 8
    ≡ 0x24_9E3E_9380 ∷ 0x34_0196_6400 ∷ 0x77_9835_8C80 ∷ 0x1C_08B7_D600 ∷ 0x6E_A2D5_5C00 ∷ 0x52_A0C9_3F00 ∷ 0x9_D14C_3B80 ∷ 0x79_35C1_8180 ∷ []
unfolding factors_from factor bits bit
one_word_factors = refl
