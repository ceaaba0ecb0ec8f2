-- The laws of specs/Sparse.antt.
-- Assumes nothing.
use Rattle.std.specs.Prelude.{ℕ, zero, suc, ◌+◌, ◌*◌, ◌/◌, ◌%◌, ◌^◌, ◌<◌, ◌≡◌, refl, List, [], ◌∷◌, get_or}
use Rattle.std.proofs.Common.{sym, ap, ap₂, subst, ◌∙◌, mod-lt, div-add-mod', add_comm, arith, pow_pos, pow-add, shr_lt}
use Rattle.std.specs.Int.Bits.{bit_xor, xor_shifted}
use Rattle.crc32c.specs.Crc.{poly, bit, bits}
use Rattle.crc32c.proofs.Xor.{xor_pairs}
use Rattle.crc32c.proofs.Linear.{bits_xor, bits_zero, bits_add, bits_shifted}
use Rattle.crc32c.specs.Product.{product, digits}
use Rattle.crc32c.proofs.Product.{power, powers, power_more}
use Rattle.crc32c.specs.Sparse.{sum, near, far}

pub sum_same : (f g : ℕ → ℕ) → ((k : ℕ) → f k ≡ g k) → (l : List ℕ) → sum f l ≡ sum g l
unfolding sum
sum_same f g e [] = refl
sum_same f g e (k ∷ l) = ap₂ (λ (x y : ℕ). bit_xor x y) (e k) (sum_same f g e l)

pub sum_xor : (f g : ℕ → ℕ) (l : List ℕ) → sum (λ k. bit_xor (f k) (g k)) l ≡ bit_xor (sum f l) (sum g l)
unfolding sum
sum_xor f g [] = refl
sum_xor f g (k ∷ l) = ap (λ (x : ℕ). bit_xor (bit_xor (f k) (g k)) x) (sum_xor f g l) ∙ xor_pairs (f k) (g k) (sum f l) (sum g l)

pub sum_bits : (n : ℕ) (f : ℕ → ℕ) (l : List ℕ) → sum (λ k. bits poly n (f k)) l ≡ bits poly n (sum f l)
unfolding sum
sum_bits n f [] = sym (bits_zero poly n)
sum_bits n f (k ∷ l) = ap (λ (x : ℕ). bit_xor (bits poly n (f k)) x) (sum_bits n f l) ∙ sym (bits_xor poly n (f k) (sum f l))

sum_none : (l : List ℕ) → sum (λ k. bits poly (8 * k) 0) l ≡ 0
unfolding sum
sum_none [] = refl
sum_none (k ∷ l) = ap₂ (λ (x y : ℕ). bit_xor x y) (bits_zero poly (8 * k)) (sum_none l)

-- a register at all the places of a list
unfoldable pub taps : List ℕ → ℕ → ℕ
taps reach x = sum (λ k. bits poly (8 * k) x) reach

-- the places are those of a multiple: the register of the power 0 sums up to itself
abbrev pub Multiple : List ℕ → Type 0
Multiple reach = taps reach 0x8000_0000 ≡ 0x8000_0000

module _ (reach : List ℕ) (good : Multiple reach) where
  at_none : taps reach 0 ≡ 0
  unfolding taps
  at_none = sum_none reach

  taps-xor : (x y : ℕ) → taps reach (bit_xor x y) ≡ bit_xor (taps reach x) (taps reach y)
  unfolding taps
  taps-xor x y =
      sum_same (λ k. bits poly (8 * k) (bit_xor x y)) (λ k. bit_xor (bits poly (8 * k) x) (bits poly (8 * k) y)) (λ k. bits_xor poly (8 * k) x y) reach
      ∙ sum_xor (λ k. bits poly (8 * k) x) (λ k. bits poly (8 * k) y) reach

  swap : (j n x : ℕ) → bits poly n (bits poly j x) ≡ bits poly j (bits poly n x)
  swap j n x = sym (bits_add poly j n x) ∙ ap (λ (k : ℕ). bits poly k x) (add_comm j n) ∙ bits_add poly n j x

  taps-on : (j x : ℕ) → taps reach (bits poly j x) ≡ bits poly j (taps reach x)
  unfolding taps
  taps-on j x =
      sum_same (λ k. bits poly (8 * k) (bits poly j x)) (λ k. bits poly j (bits poly (8 * k) x)) (λ k. swap j (8 * k) x) reach
      ∙ sum_bits j (λ k. bits poly (8 * k) x) reach

  -- a power of two, a digit of the register, and the register
  at-power : (j k : ℕ) → j + k ≡ 31 → taps reach (2 ^ k) ≡ 2 ^ k
  at-power j k e =
      let p : ℕ = 2 ^ k in
      let up : 0x8000_0000 ≡ p * 2 ^ j = ap (λ (n : ℕ). 2 ^ n) (sym e ∙ add_comm j k) ∙ pow-add 2 k j in
      let down : p ≡ bits poly j 0x8000_0000 = sym (ap (λ (x : ℕ). bits poly j x) up ∙ bits_shifted poly j p) in
      ap (taps reach) down ∙ taps-on j 0x8000_0000 ∙ ap (λ (x : ℕ). bits poly j x) good ∙ sym down

  at-digit : (j k d : ℕ) → j + k ≡ 31 → d < 2 → taps reach (d * 2 ^ k) ≡ d * 2 ^ k
  at-digit j k zero e h =
      let z : 0 * 2 ^ k ≡ 0 = omega arith in
      ap (taps reach) z ∙ at_none ∙ sym z
  at-digit j k (suc zero) e h =
      let o : 1 * 2 ^ k ≡ 2 ^ k = omega arith in
      ap (taps reach) o ∙ at-power j k e ∙ sym o
  at-digit j k (suc (suc d)) e h = omega arith

  taps-low : (n j x : ℕ) → j + n ≡ 32 → x < 2 ^ n → taps reach x ≡ x
  taps-low zero j x e h =
      let z : x ≡ 0 = omega arith in
      ap (taps reach) z ∙ at_none ∙ sym z
  taps-low (suc n) j x e h =
      let d : ℕ = x / 2 ^ n in
      let l : ℕ = x % 2 ^ n in
      let hl : l < 2 ^ n = mod-lt x (pow_pos n) in
      let whole : bit_xor (d * 2 ^ n) l ≡ x = xor_shifted d n l hl ∙ div-add-mod' x (2 ^ n) in
      let es : suc n ≡ 1 + n = omega arith in
      let hs : x < 2 ^ (1 + n) = subst (λ (m : ℕ). x < 2 ^ m) es h in
      let hd : d < 2 = shr_lt 1 n hs in
      let e1 : j + n ≡ 31 = omega arith in
      let e2 : suc j + n ≡ 32 = omega arith in
      ap (taps reach) (sym whole)
      ∙ taps-xor (d * 2 ^ n) l
      ∙ ap₂ (λ (a b : ℕ). bit_xor a b) (at-digit j n d e1 hd) (taps-low n (suc j) l e2 hl)
      ∙ whole

  pub taps_back : (x : ℕ) → x < 2 ^ 32 → taps reach x ≡ x
  taps_back x h = taps-low 32 0 x refl h

-- ---- the two multiples

-- the register of a power by the binary digits of its bytes, each a place in the list of powers by squaring
unfoldable pub total : List ℕ → ℕ
total [] = 0
total (i ∷ l) = 2 ^ i + total l

unfoldable by_digits : List ℕ → ℕ
by_digits [] = 0x8000_0000
by_digits (i ∷ l) = product (by_digits l) (get_or powers i 0)

unfoldable Places : List ℕ → Type 0
Places [] = Unit {0}
Places (i ∷ l) = (i < 32) × Places l

power_none : ◌≡◌ {A = ℕ} 0x8000_0000 (power 0)
unfolding power bits
power_none = refl

by_digits_power : (l : List ℕ) → Places l → by_digits l ≡ power (8 * total l)
unfolding by_digits Places total
by_digits_power [] h = power_none
by_digits_power (i ∷ l) h =
    let n : total l + 2 ^ i ≡ 2 ^ i + total l = omega arith in
    power_more (by_digits l) (total l) i h.0 (by_digits_power l h.1) ∙ ap (λ (m : ℕ). power (8 * m)) n

pub near_multiple : Multiple near
unfolding taps sum bits bit
near_multiple = refl

-- 5,275, 4,508 and 2,751 by their binary digits
d1 : List ℕ
d1 = 0 ∷ 1 ∷ 3 ∷ 4 ∷ 7 ∷ 10 ∷ 12 ∷ []

d2 : List ℕ
d2 = 2 ∷ 3 ∷ 4 ∷ 7 ∷ 8 ∷ 12 ∷ []

d3 : List ℕ
d3 = 0 ∷ 1 ∷ 2 ∷ 3 ∷ 4 ∷ 5 ∷ 7 ∷ 9 ∷ 11 ∷ []

far_computed : bit_xor (by_digits d1) (bit_xor (by_digits d2) (bit_xor (by_digits d3) 0)) ≡ 0x8000_0000
unfolding d1 d2 d3 by_digits product digits bit
far_computed = refl

places1 : Places d1
unfolding Places d1
places1 = (omega arith, (omega arith, (omega arith, (omega arith, (omega arith, (omega arith, (omega arith, tt)))))))

places2 : Places d2
unfolding Places d2
places2 = (omega arith, (omega arith, (omega arith, (omega arith, (omega arith, (omega arith, tt))))))

places3 : Places d3
unfolding Places d3
places3 = (omega arith, (omega arith, (omega arith, (omega arith, (omega arith, (omega arith, (omega arith, (omega arith, (omega arith, tt)))))))))

pub far_multiple : Multiple far
unfolding taps sum power total d1 d2 d3
far_multiple =
    ap₂ (λ (x y : ℕ). bit_xor x y) (sym (by_digits_power d1 places1))
    (ap₂ (λ (x y : ℕ). bit_xor x y) (sym (by_digits_power d2 places2)) (ap (λ (x : ℕ). bit_xor x 0) (sym (by_digits_power d3 places3))))
    ∙ far_computed
