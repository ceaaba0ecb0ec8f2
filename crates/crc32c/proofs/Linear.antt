-- The register's step is linear over the exclusive or, for every polynomial; so steps can be counted together, and what stands high comes down as it is.
-- Assumes nothing.
use Rattle.std.specs.Prelude.{ℕ, zero, suc, ◌+◌, ◌*◌, ◌/◌, ◌%◌, ◌^◌, ◌-◌, ◌<◌, ◌≡◌, refl}
use Rattle.std.proofs.Common.{sym, ap, ap₂, ◌∙◌, mod-lt, div-add-mod', zero-add, suc-add, arith, lit<, pow_pos}
use Rattle.std.specs.Int.Bits.{bit_xor, differ, xor_self, xor_zero_r, xor_shifted, shifted_half, shifted_even}
use Rattle.std.proofs.lemmas.Nat.{xor_lt}
use Rattle.crc32c.specs.Crc.{poly, bit, bits}
use Rattle.crc32c.proofs.Xor.{xor_half, xor_odd, xor_pairs}

big : (n : ℕ) → suc (suc n) < 2 → ⊥
big n h = omega arith

-- at a digit the product by the polynomial is linear
times : (p x y : ℕ) → x < 2 → y < 2 → differ x y * p ≡ bit_xor (x * p) (y * p)
times p zero zero hx hy =
    let z : 0 * p ≡ 0 = omega arith in
    z ∙ sym (ap₂ (λ (a b : ℕ). bit_xor a b) z z)
times p zero (suc zero) hx hy =
    let z : 0 * p ≡ 0 = omega arith in
    sym (ap (λ (a : ℕ). bit_xor a (1 * p)) z)
times p zero (suc (suc y)) hx hy = absurd (big y hy)
times p (suc zero) zero hx hy =
    let z : 0 * p ≡ 0 = omega arith in
    sym (ap (λ (a : ℕ). bit_xor (1 * p) a) z ∙ xor_zero_r (1 * p))
times p (suc zero) (suc zero) hx hy =
    let z : 0 * p ≡ 0 = omega arith in
    z ∙ sym (xor_self (1 * p))
times p (suc zero) (suc (suc y)) hx hy = absurd (big y hy)
times p (suc (suc x)) y hx hy = absurd (big x hx)

bit_of_xor : (p a b : ℕ) → bit p (bit_xor a b) ≡ bit_xor (bit p a) (bit p b)
unfolding bit
bit_of_xor p a b =
    ap₂ (λ (x y : ℕ). bit_xor x (y * p)) (xor_half a b) (xor_odd a b)
    ∙ ap (λ (x : ℕ). bit_xor (bit_xor (a / 2) (b / 2)) x) (times p (a % 2) (b % 2) (mod-lt a (lit< tt)) (mod-lt b (lit< tt)))
    ∙ xor_pairs (a / 2) (b / 2) (a % 2 * p) (b % 2 * p)

pub bits_xor : (p k a b : ℕ) → bits p k (bit_xor a b) ≡ bit_xor (bits p k a) (bits p k b)
unfolding bits
bits_xor p zero a b = refl
bits_xor p (suc k) a b = ap (λ (x : ℕ). bits p k x) (bit_of_xor p a b) ∙ bits_xor p k (bit p a) (bit p b)

-- no bit, and one bit first
pub bits_none : (p c : ℕ) → bits p 0 c ≡ c
unfolding bits
bits_none p c = refl

pub bits_first : (p k c : ℕ) → bits p (suc k) c ≡ bits p k (bit_xor (c / 2) (c % 2 * p))
unfolding bits bit
bits_first p k c = refl

-- one bit of those that are left before i and after it: a one leaves the register, or a zero
pub step_odd : (p k i x y : ℕ) → i < k → x % 2 ≡ 1 → y ≡ bit_xor (x / 2) p → bits p (k - (i + 1)) y ≡ bits p (k - i) x
step_odd p k i x y h o e =
    let n : suc (k - (i + 1)) ≡ k - i = omega arith in
    let m : 1 * p ≡ p = omega arith in
    ap (λ (z : ℕ). bits p (k - (i + 1)) z) (e ∙ ap (λ (z : ℕ). bit_xor (x / 2) z) (sym (ap (λ (z : ℕ). z * p) o ∙ m)))
    ∙ sym (bits_first p (k - (i + 1)) x)
    ∙ ap (λ (z : ℕ). bits p z x) n

pub step_even : (p k i x y : ℕ) → i < k → (x % 2 ≡ 1 → ⊥) → y ≡ x / 2 → bits p (k - (i + 1)) y ≡ bits p (k - i) x
step_even p k i x y h o e =
    let n : suc (k - (i + 1)) ≡ k - i = omega arith in
    let d : x % 2 ≡ 0 = omega arith in
    let m : 0 * p ≡ 0 = omega arith in
    ap (λ (z : ℕ). bits p (k - (i + 1)) z)
    (e ∙ sym (xor_zero_r (x / 2)) ∙ ap (λ (z : ℕ). bit_xor (x / 2) z) (sym (ap (λ (z : ℕ). z * p) d ∙ m)))
    ∙ sym (bits_first p (k - (i + 1)) x)
    ∙ ap (λ (z : ℕ). bits p z x) n

-- nothing stays nothing
pub bits_zero : (p k : ℕ) → bits p k 0 ≡ 0
unfolding bits bit
bits_zero p zero = refl
bits_zero p (suc k) =
    let z : 0 * p ≡ 0 = omega arith in
    ap (λ (x : ℕ). bits p k x) z ∙ bits_zero p k

-- j bits, then k more
pub bits_add : (p j k x : ℕ) → bits p (j + k) x ≡ bits p k (bits p j x)
unfolding bits
bits_add p zero k x = ap (λ (n : ℕ). bits p n x) (zero-add k)
bits_add p (suc j) k x = ap (λ (n : ℕ). bits p n x) (suc-add j k) ∙ bits_add p j k (bit p x)

-- what stands k bits up comes down unchanged in k steps
pub bits_shifted : (p k h : ℕ) → bits p k (h * 2 ^ k) ≡ h
unfolding bits bit
bits_shifted p zero h = omega arith
bits_shifted p (suc k) h =
    let z : 0 * p ≡ 0 = omega arith in
    ap (λ (x : ℕ). bits p k x)
    (ap₂ (λ (x y : ℕ). bit_xor x (y * p)) (shifted_half h k) (shifted_even h k)
    ∙ ap (λ (y : ℕ). bit_xor (h * 2 ^ k) y) z
    ∙ xor_zero_r (h * 2 ^ k))
    ∙ bits_shifted p k h

-- a number by what stands k bits up and what stands below
pub bits_split : (p k m x : ℕ) → bits p (k + m) x ≡ bit_xor (bits p m (x / 2 ^ k)) (bits p (k + m) (x % 2 ^ k))
bits_split p k m x =
    let h : ℕ = x / 2 ^ k in
    let l : ℕ = x % 2 ^ k in
    ap (λ (y : ℕ). bits p (k + m) y) (sym (div-add-mod' x (2 ^ k)) ∙ sym (xor_shifted h k l (mod-lt x (pow_pos k))))
    ∙ bits_xor p (k + m) (h * 2 ^ k) l
    ∙ ap (λ (y : ℕ). bit_xor y (bits p (k + m) l)) (bits_add p k m (h * 2 ^ k) ∙ ap (λ (y : ℕ). bits p m y) (bits_shifted p k h))

-- the register keeps its 32 bits
bit_lt : (x : ℕ) → x < 2 ^ 32 → bit poly x < 2 ^ 32
unfolding bit
bit_lt x h = xor_lt 32 (x / 2) (x % 2 * poly) (omega arith) (omega arith)

pub bits_lt : (k x : ℕ) → x < 2 ^ 32 → bits poly k x < 2 ^ 32
unfolding bits
bits_lt zero x h = h
bits_lt (suc k) x h = bits_lt k (bit poly x) (bit_lt x h)
