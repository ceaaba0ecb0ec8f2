-- Facts of a byte, computed at each of its values by one test: of signed numbers. And of a NaN's pattern.
-- Assumes nothing.
use Rattle.std.specs.Prelude.{ℕ, zero, suc, ◌+◌, ◌-◌, ◌%◌, ◌^◌, ◌<◌, ◌≤◌, ◌≡◌, refl, Bool, true, false, not, List, [], ◌∷◌, get_or, T, ltb, ℤ, pos, ◌-ℤ◌, Float}
use Rattle.std.proofs.Common.{sym, ap, subst, ◌∙◌, add-zero, zero-add, add-suc, suc-add, le_of_suc-le-suc, not-suc-le-zero, arith, ltb-true, lt-ltb, le-ltb, to_z, of_z, SFits, lt_of_not-le}
use Rattle.std.proofs.Math.Decide.{dec_le}
use Rattle.std.specs.Int.Signed.{mag}
use Rattle.std.specs.Float.{nan, inf, fin, binary32}
use Rattle.std.specs.Float.Ieee.{of_bits, nan_bits, is_nan}
use Rattle.std.specs.Float.Ieee.Bits.{nan_bits_is, nan_bits_above}
use Rattle.std.specs.Int.{w8, w16}
use Rattle.vecseg.specs.Component.{signed_of}

-- the n values of f from i on, and that two functions with one table are equal below its length
abbrev tabulate : {A : Type 0} → (ℕ → A) → ℕ → ℕ → List A
tabulate f i zero = []
tabulate f i (suc n) = f i ∷ tabulate f (suc i) n

from : {A : Type 0} (f : ℕ → A) (d : A) (n i k : ℕ) → k < n → get_or (tabulate f i n) k d ≡ f (i + k)
from f d zero i k h = absurd (not-suc-le-zero h)
from f d (suc n) i zero h = ap f (sym (add-zero i))
from f d (suc n) i (suc k) h = from f d n (suc i) k (le_of_suc-le-suc h) ∙ ap f (suc-add i k ∙ sym (add-suc i k))

same_below : {A : Type 0} (f g : ℕ → A) (d : A) (n : ℕ) → tabulate f 0 n ≡ tabulate g 0 n → (k : ℕ) → k < n → f k ≡ g k
same_below f g d n e k h = sym (from f d n 0 k h ∙ ap f (zero-add k)) ∙ ap (λ l. get_or l k d) e ∙ (from g d n 0 k h ∙ ap g (zero-add k))

-- two functions that are found equal on 128 to 255
high : {A : Type 0} (f g : ℕ → A) (d : A) → tabulate (λ k. f (128 + k)) 0 128 ≡ tabulate (λ k. g (128 + k)) 0 128 → (b : ℕ) → 128 ≤ b → b < 256 → f b ≡ g b
high f g d e b h k =
    let q : 128 + (b - 128) ≡ b = omega arith in
    subst (λ (n : ℕ). f n ≡ g n) q (same_below (λ k. f (128 + k)) (λ k. g (128 + k)) d 128 e (b - 128) (omega arith))

-- b - 256 at 16 bits, and what is read back of it
abbrev less : ℕ → ℤ
less b = to_z w16 b -ℤ pos 256

pub less_fits : (b : ℕ) → 128 ≤ b → b < 256 → SFits w16 (less b)
less_fits b h k = record { sfits = ltb-true (mag (less b)) (2 ^ 15) (high (λ b. ltb (mag (less b)) (2 ^ 15)) (λ b. true) false refl b h k) }

pub back_fits : (b : ℕ) → 128 ≤ b → b < 256 → SFits w8 (to_z w16 (of_z w16 (less b)))
back_fits b h k = record { sfits = ltb-true (mag (to_z w16 (of_z w16 (less b)))) (2 ^ 7) (high (λ b. ltb (mag (to_z w16 (of_z w16 (less b)))) (2 ^ 7)) (λ b. true) false refl b h k) }

pub back_is : (b : ℕ) → 128 ≤ b → b < 256 → to_z w8 (of_z w8 (to_z w16 (of_z w16 (less b)))) ≡ signed_of b
back_is b h k = high (λ b. to_z w8 (of_z w8 (to_z w16 (of_z w16 (less b))))) signed_of (pos 0) refl b h k

pub low_is : (b : ℕ) → b < 128 → to_z w8 b ≡ signed_of b
low_is b h = simp (lt-ltb b 128 h)

-- a byte in two's complement, as the language reads it
pub signed_is : (b : ℕ) → b < 256 → to_z w8 b ≡ signed_of b
signed_is b h = pick (dec_le 128 b)
  where
    pick : Dec (128 ≤ b) → to_z w8 b ≡ signed_of b
    pick (yes k) = high (to_z w8) signed_of (pos 0) refl b k h
    pick (no k) = low_is b (lt_of_not-le k)

-- a pattern above an infinity's is a NaN's, and no other is
is_nan_value : (x : Float) → is_nan x ≡ true → x ≡ nan
unfolding is_nan
is_nan_value nan e = refl
is_nan_value (inf s) e = cc
is_nan_value (fin s m x) e = cc

pub nan_above : (n : ℕ) → 2139095040 < n % 2147483648 → of_bits binary32 n ≡ nan
nan_above n h = is_nan_value (of_bits binary32 n) (sym (nan_bits_is binary32 n) ∙ nan_bits_above binary32 n ∙ lt-ltb 2139095040 (n % 2147483648) h)

pub no_nan : (n : ℕ) → n % 2147483648 ≤ 2139095040 → T (not (nan_bits binary32 n))
no_nan n h = subst (λ (b : Bool). T (not b)) (sym (nan_bits_above binary32 n ∙ le-ltb 2139095040 (n % 2147483648) h)) tt
