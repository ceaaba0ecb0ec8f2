-- The laws of specs/Product.antt.
-- Assumes nothing.
use Rattle.std.specs.Prelude.{ℕ, zero, suc, ◌+◌, ◌*◌, ◌/◌, ◌%◌, ◌^◌, ◌-◌, ◌≤◌, ◌<◌, ◌≡◌, refl, List, [], ◌∷◌, get_or}
use Rattle.std.proofs.Common.{sym, ap, ap₂, subst, ◌∙◌, ⊎_elim, mod-lt, pow-suc, mul_assoc, add-mul, add_comm, eq-zero-or-pos, add-one, arith, lit<, pow-add, pow_pos}
use Rattle.std.specs.Int.Bits.{bit_xor, xor_zero_l, xor_zero_r, xor_shifted}
use Rattle.std.proofs.lemmas.Nat.{xor_comm}
use Rattle.crc32c.specs.Crc.{poly, bit, bits}
use Rattle.crc32c.proofs.Xor.{xor_assoc}
use Rattle.crc32c.proofs.Linear.{bits_xor, bits_zero, bits_add, bits_shifted, bits_lt}
use Rattle.crc32c.specs.Product.{digits, product}

-- the register of the power 0, and of the power n
abbrev unit : ℕ
unit = 0x8000_0000

unfoldable pub power : ℕ → ℕ
power n = bits poly n unit

-- a digit more, and none
pub digits_turn : (k i x y : ℕ) → i < 32
    → digits k (32 - (i + 1)) (x / 2) (bit_xor (bit_xor (y / 2) (y % 2 * poly)) (x % 2 * k)) ≡ digits k (32 - i) x y
unfolding digits bit
digits_turn k i x y h =
    let n : suc (32 - (i + 1)) ≡ 32 - i = omega arith in
    ap (λ (j : ℕ). digits k j x y) n

pub digits_end : (k i x y : ℕ) → 32 - i ≡ 0 → digits k (32 - i) x y ≡ y
unfolding digits
digits_end k i x y e = ap (λ (j : ℕ). digits k j x y) e

pub digits_all : (k x : ℕ) → digits k 32 x 0 ≡ product x k
unfolding product
digits_all k x = refl

pub digit_le : (d k : ℕ) → d < 2 → d * k ≤ k
digit_le zero k h = omega arith
digit_le (suc zero) k h = omega arith
digit_le (suc (suc d)) k h = omega arith

le_zero : (x : ℕ) → x < 2 ^ 0 → x ≡ 0
le_zero x h = omega arith

two_pow : (i : ℕ) → 2 * 2 ^ i ≡ 2 ^ suc i
two_pow i = omega (arith, pow-suc 2 i)

-- the lowest digit and the rest, i places up
small : (i d : ℕ) → d < 2 → d * 2 ^ i < 2 ^ suc i
small i zero h = omega (arith, pow_pos (suc i))
small i (suc zero) h = omega (arith, pow-suc 2 i, pow_pos i)
small i (suc (suc d)) h = omega arith

whole : (x i : ℕ) → bit_xor (x % 2 * 2 ^ i) (x / 2 * 2 ^ suc i) ≡ x * 2 ^ i
whole x i =
    let d : ℕ = x % 2 in
    let q : ℕ = x / 2 in
    let e : q * 2 ^ suc i ≡ q * 2 * 2 ^ i = ap (λ (w : ℕ). q * w) (sym (two_pow i)) ∙ sym (mul_assoc q 2 (2 ^ i)) in
    let s : q * 2 + d ≡ x = omega arith in
    xor_comm (d * 2 ^ i) (q * 2 ^ suc i)
    ∙ xor_shifted q (suc i) (d * 2 ^ i) (small i d (mod-lt x (lit< tt)))
    ∙ ap (λ (w : ℕ). w + d * 2 ^ i) e
    ∙ sym (add-mul (q * 2) d (2 ^ i))
    ∙ ap (λ (w : ℕ). w * 2 ^ i) s

power_later : (n j : ℕ) → bits poly j (power n) ≡ bits poly n (bits poly j unit)
unfolding power
power_later n j = sym (bits_add poly n j unit) ∙ ap (λ (x : ℕ). bits poly x unit) (add_comm n j) ∙ bits_add poly j n unit

-- a digit times the power n comes down j steps as the digit goes on n
digit_down : (n i j d : ℕ) → i + j ≡ 31 → d < 2 → bits poly j (d * power n) ≡ bits poly n (d * 2 ^ i)
digit_down n i j zero e h =
    let z : 0 * power n ≡ 0 = omega arith in
    let y : 0 * 2 ^ i ≡ 0 = omega arith in
    ap (λ (x : ℕ). bits poly j x) z
    ∙ bits_zero poly j
    ∙ sym (ap (λ (x : ℕ). bits poly n x) y ∙ bits_zero poly n)
digit_down n i j (suc zero) e h =
    let o : 1 * power n ≡ power n = omega arith in
    let q : 1 * 2 ^ i ≡ 2 ^ i = omega arith in
    let u : unit ≡ 2 ^ i * 2 ^ j = ap (λ (x : ℕ). 2 ^ x) (sym e) ∙ pow-add 2 i j in
    ap (λ (x : ℕ). bits poly j x) o
    ∙ power_later n j
    ∙ ap (λ (x : ℕ). bits poly n (bits poly j x)) u
    ∙ ap (λ (x : ℕ). bits poly n x) (bits_shifted poly j (2 ^ i) ∙ sym q)
digit_down n i j (suc (suc d)) e h = omega arith

-- what j digits make of what is left, with the factor of the power n
digits_power : (n i j x y : ℕ) → i + j ≡ 32 → x < 2 ^ j → digits (power n) j x y ≡ bit_xor (bits poly j y) (bits poly n (x * 2 ^ i))
unfolding digits bits
digits_power n i zero x y e h =
    let z : x * 2 ^ i ≡ 0 = ap (λ (w : ℕ). w * 2 ^ i) (le_zero x h) ∙ omega arith in
    sym (ap (λ (w : ℕ). bit_xor y w) (ap (λ (w : ℕ). bits poly n w) z ∙ bits_zero poly n) ∙ xor_zero_r y)
digits_power n i (suc j) x y e h =
    let k : ℕ = power n in
    let d : ℕ = x % 2 in
    let a : ℕ = bits poly (suc j) y in
    let hd : d < 2 = mod-lt x (lit< tt) in
    let hx : x / 2 < 2 ^ j = omega (arith, pow-suc 2 j) in
    let e1 : suc i + j ≡ 32 = omega arith in
    let e2 : i + j ≡ 31 = omega arith in
    digits_power n (suc i) j (x / 2) (bit_xor (bit poly y) (d * k)) e1 hx
    ∙ ap (λ (w : ℕ). bit_xor w (bits poly n (x / 2 * 2 ^ suc i)))
    (bits_xor poly j (bit poly y) (d * k) ∙ ap (λ (w : ℕ). bit_xor a w) (digit_down n i j d e2 hd))
    ∙ xor_assoc a (bits poly n (d * 2 ^ i)) (bits poly n (x / 2 * 2 ^ suc i))
    ∙ ap (λ (w : ℕ). bit_xor a w)
    (sym (bits_xor poly n (d * 2 ^ i) (x / 2 * 2 ^ suc i)) ∙ ap (λ (w : ℕ). bits poly n w) (whole x i))

-- a register times the power n is the register n bits on
pub product_power : (n x : ℕ) → x < 2 ^ 32 → product x (power n) ≡ bits poly n x
unfolding product
product_power n x h =
    let o : x * 2 ^ 0 ≡ x = omega arith in
    digits_power n 0 32 x 0 refl h
    ∙ ap₂ (λ (a b : ℕ). bit_xor a b) (bits_zero poly 32) (ap (λ (w : ℕ). bits poly n w) o)
    ∙ xor_zero_l (bits poly n x)

power_lt : (n : ℕ) → power n < 2 ^ 32
unfolding power
power_lt n = bits_lt n unit (omega arith)

-- powers add up
power_on : (m n : ℕ) → bits poly n (power m) ≡ power (m + n)
unfolding power
power_on m n = sym (bits_add poly m n unit)

power_add : (m n : ℕ) → product (power m) (power n) ≡ power (m + n)
power_add m n = product_power n (power m) (power_lt m) ∙ power_on m n

-- the powers 8, 16, 32 and so on, each the square of the one before, computed
abbrev pub powers : List ℕ
powers =
    0x80_0000 ∷ 0x8000 ∷ 0x82F6_3B78 ∷ 0x6EA2_D55C ∷ 0x18B8_EA18 ∷ 0x510A_C59A ∷ 0xB82B_E955 ∷ 0xB8FD_B1E7 ∷ 0x88E5_6F72 ∷ 0x74C3_60A4 ∷
    0xE417_2B16 ∷ 0xD65_762A ∷ 0x35D7_3A62 ∷ 0x2846_1564 ∷ 0xBF45_5269 ∷ 0xE2EA_32DC ∷ 0xFE77_40E6 ∷ 0xF946_610B ∷ 0x3C20_4F8F ∷ 0x5385_86E3 ∷
    0x5972_6915 ∷ 0x734D_5309 ∷ 0xBC1A_C763 ∷ 0x7D07_22CC ∷ 0xD289_CABE ∷ 0xE94C_A9BC ∷ 0x5B7_4F3F ∷ 0xA51E_1F42 ∷ 0x4000_0000 ∷ 0x2000_0000 ∷
    0x800_0000 ∷ 0x80_0000 ∷ []

abbrev square : ℕ → ℕ
square x = product x x

-- x and its squares, j of them
squares : ℕ → ℕ → List ℕ
squares zero x = []
squares (suc j) x = x ∷ squares j (square x)

powers_hold : squares 32 0x80_0000 ≡ powers
unfolding squares product digits bit
powers_hold = refl

squares_at : (m j i x : ℕ) → i < j → x ≡ power m → get_or (squares j x) i 0 ≡ power (m * 2 ^ i)
unfolding squares
squares_at m zero i x h e = omega arith
squares_at m (suc j) zero x h e = e ∙ ap power (omega arith)
squares_at m (suc j) (suc i) x h e =
    let hi : i < j = omega arith in
    let d : m + m ≡ m * 2 = omega arith in
    let n : (m + m) * 2 ^ i ≡ m * 2 ^ suc i = ap (λ (w : ℕ). w * 2 ^ i) d ∙ mul_assoc m 2 (2 ^ i) ∙ ap (λ (w : ℕ). m * w) (two_pow i) in
    squares_at (m + m) j i (square x) hi (ap₂ (λ (a b : ℕ). product a b) e e ∙ power_add m m) ∙ ap power n

first : ◌≡◌ {A = ℕ} 0x80_0000 (power 8)
unfolding power bits bit
first = refl

pub powers_at : (i : ℕ) → i < 32 → get_or powers i 0 ≡ power (8 * 2 ^ i)
powers_at i h = ap (λ (l : List ℕ). get_or l i 0) (sym powers_hold) ∙ squares_at 8 32 i 0x80_0000 h first

-- the power of so many bytes, and of 2 ^ i more
pub power_more : (x m i : ℕ) → i < 32 → x ≡ power (8 * m) → product x (get_or powers i 0) ≡ power (8 * (m + 2 ^ i))
power_more x m i h e = ap₂ (λ (a b : ℕ). product a b) e (powers_at i h) ∙ power_add (8 * m) (8 * 2 ^ i) ∙ ap power (omega arith)

half_up : (m i : ℕ) → m / 2 * 2 ^ (i + 1) ≡ m / 2 * 2 * 2 ^ i
half_up m i = ap (λ (w : ℕ). m / 2 * 2 ^ w) (add-one i) ∙ ap (λ (w : ℕ). m / 2 * w) (sym (two_pow i)) ∙ sym (mul_assoc (m / 2) 2 (2 ^ i))

upper : (m k : ℕ) → 8 * k + 8 * (m * k) ≡ 8 * ((m + 1) * k)
upper m k =
    let e : (m + 1) * k ≡ m * k + 1 * k = add-mul m 1 k in
    omega arith

none : (m n : ℕ) → 0 < m → n ≡ 0 → m < 2 ^ n → ⊥
none m n p e h =
    let g : m < 2 ^ 0 = subst (λ (w : ℕ). m < 2 ^ w) e h in
    omega arith

-- a register times the power at the place i
on_by : (x i r : ℕ) → i < 32 → x < 2 ^ 32 → r ≡ product x (get_or powers i 0) → r ≡ bits poly (8 * 2 ^ i) x
on_by x i r h hx e = e ∙ ap (λ (w : ℕ). product x w) (powers_at i h) ∙ product_power (8 * 2 ^ i) x hx

pub on_by_lt : (x i r : ℕ) → i < 32 → x < 2 ^ 32 → r ≡ product x (get_or powers i 0) → r < 2 ^ 32
on_by_lt x i r h hx e = subst (λ (w : ℕ). w < 2 ^ 32) (sym (on_by x i r h hx e)) (bits_lt (8 * 2 ^ i) x hx)

-- zero bytes by the binary digits of their number: at the place i a one, and a zero
pub zeros_one : (x m i r : ℕ) → i < 32 → x < 2 ^ 32 → m % 2 ≡ 1 → r ≡ product x (get_or powers i 0)
    → bits poly (8 * (m / 2 * 2 ^ (i + 1))) r ≡ bits poly (8 * (m * 2 ^ i)) x
zeros_one x m i r h hx o e =
    let w : ℕ = m / 2 * 2 ^ (i + 1) in
    let d : m / 2 * 2 + 1 ≡ m = omega arith in
    let n : 8 * 2 ^ i + 8 * w ≡ 8 * (m * 2 ^ i) =
    ap (λ (v : ℕ). 8 * 2 ^ i + 8 * v) (half_up m i) ∙ upper (m / 2 * 2) (2 ^ i) ∙ ap (λ (v : ℕ). 8 * (v * 2 ^ i)) d in
    ap (λ (v : ℕ). bits poly (8 * w) v) (on_by x i r h hx e)
    ∙ sym (bits_add poly (8 * 2 ^ i) (8 * w) x)
    ∙ ap (λ (v : ℕ). bits poly v x) n

pub zeros_none : (x m i r : ℕ) → (m % 2 ≡ 1 → ⊥) → r ≡ x → bits poly (8 * (m / 2 * 2 ^ (i + 1))) r ≡ bits poly (8 * (m * 2 ^ i)) x
zeros_none x m i r o e =
    let d : m / 2 * 2 ≡ m = omega arith in
    ap₂ (λ (v w : ℕ). bits poly (8 * v) w) (half_up m i ∙ ap (λ (w : ℕ). w * 2 ^ i) d) e

-- the digits that are left
pub room : (m i : ℕ) → 0 < m → m < 2 ^ (32 - i) → i < 32
room m i p h = ⊎_elim (λ e. absurd (none m (32 - i) p e h)) (λ q. omega arith) (eq-zero-or-pos (32 - i))

pub room_half : (m i : ℕ) → i < 32 → m < 2 ^ (32 - i) → m / 2 < 2 ^ (32 - (i + 1))
room_half m i l h =
    let n : 32 - i ≡ suc (32 - (i + 1)) = omega arith in
    let g : m < 2 ^ suc (32 - (i + 1)) = subst (λ (w : ℕ). m < 2 ^ w) n h in
    omega (arith, pow-suc 2 (32 - (i + 1)))
