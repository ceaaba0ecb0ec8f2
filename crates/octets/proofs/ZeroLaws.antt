-- Laws of zero bytes and equal bytes, and how loops find them.
-- Assumes nothing.
use Rattle.std.specs.Prelude.{◌≡◌, refl, Bool, true, false, ◌&&◌, ℕ, zero, suc, ◌≤◌, ◌-◌, ◌<◌, replicate, length, take, drop, get_or, List, [], ◌∷◌, eqb}
use Rattle.std.proofs.Common.{ap, drop_of_length-le, eqb-true, eq-eqb, ne_eqb, arith, drop-cons}
use Rattle.std.proofs.lemmas.Bool.{false≢true, eqb-false}
use Rattle.std.proofs.Math.Bool.{and_assoc, and-true}
use Rattle.std.specs.Cmp.Lexicographic.{pointwise}
use Rattle.octets.specs.Zero.{all_zero, same_bytes}
use Rattle.std.specs.Int.Bits.{bit_or, or_add_and, bit_xor, xor_add_and, xor_self}
use Rattle.std.proofs.lemmas.Nat.{and_le_l, and_le_r}

-- ---- what the tests mean

pub and_split : (a b : Bool) → a && b ≡ true → (a ≡ true) × (b ≡ true)
and_split true b e = (refl, e)
and_split false b e = absurd (false≢true e)

pub zeros_all : (n : ℕ) → all_zero (replicate n 0) ≡ true
unfolding all_zero
zeros_all zero = refl
zeros_all (suc n) = zeros_all n

pub all_zeros : (s : List ℕ) → all_zero s ≡ true → s ≡ replicate (length s) 0
unfolding all_zero
all_zeros [] e = refl
all_zeros (b ∷ bs) e =
    let p = and_split (eqb b 0) (all_zero bs) e in
    rw (eqb-true b 0 p.0) (ap (λ (l : List ℕ). 0 ∷ l) (all_zeros bs p.1))

-- zeros out of zeros: the first of them, and what is left behind some
pub zeros_front : (n m : ℕ) → n ≤ m → ◌≡◌ {A = List ℕ} (take n (replicate m 0)) (replicate n 0)
zeros_front zero m h = refl
zeros_front (suc n) zero h = absurd (omega arith)
zeros_front (suc n) (suc m) h = ap (λ (x : List ℕ). 0 ∷ x) (zeros_front n m (omega arith))

pub zeros_left : (n m : ℕ) → ◌≡◌ {A = List ℕ} (drop n (replicate m 0)) (replicate (m - n) 0)
zeros_left zero m = let e : m - 0 ≡ m = omega arith in rw e
zeros_left (suc n) zero = let e : 0 - suc n ≡ 0 = omega arith in rw e
zeros_left (suc n) (suc m) = let e : suc m - suc n ≡ m - n = omega arith in rw e (zeros_left n m)

pub same_equal : (xs ys : List ℕ) → same_bytes xs ys ≡ true → xs ≡ ys
unfolding same_bytes
same_equal [] [] e = refl
same_equal [] (y ∷ ys) e = absurd (let n : ◌≡◌ {A = ℕ} 0 1 = cc in omega arith)
same_equal (x ∷ xs) [] e = absurd (let n : ◌≡◌ {A = ℕ} 0 1 = cc in omega arith)
same_equal (x ∷ xs) (y ∷ ys) e =
    let p = and_split (eqb x y) (same_bytes xs ys) e in
    rw (eqb-true x y p.0, same_equal xs ys p.1)

pub equal_same : (xs : List ℕ) → same_bytes xs xs ≡ true
unfolding same_bytes
equal_same [] = refl
equal_same (x ∷ xs) = rw (eq-eqb x x refl) (equal_same xs)

pub same_length : (xs ys : List ℕ) → (length xs ≡ length ys → ⊥) → same_bytes xs ys ≡ false
same_length xs ys h = pick (same_bytes xs ys) refl
  where
    pick : (t : Bool) → same_bytes xs ys ≡ t → t ≡ false
    pick true e = absurd (h (ap length (same_equal xs ys e)))
    pick false e = refl

-- the language's own test of two slices
pub same_pointwise : (xs ys : List ℕ) → pointwise eqb xs ys ≡ same_bytes xs ys
unfolding same_bytes
same_pointwise [] [] = refl
same_pointwise [] (y ∷ ys) = refl
same_pointwise (x ∷ xs) [] = refl
same_pointwise (x ∷ xs) (y ∷ ys) = ap (λ (t : Bool). eqb x y && t) (same_pointwise xs ys)

-- ---- gathering by `or`: a sum of bits is zero where each part is

or_none : (a b : ℕ) → bit_or a b ≡ 0 → (a ≡ 0) × (b ≡ 0)
or_none a b e = (omega (arith, or_add_and a b, and_le_r a b), omega (arith, or_add_and a b, and_le_l a b))

pub or_test : (a b : ℕ) → eqb (bit_or a b) 0 ≡ eqb a 0 && eqb b 0
or_test a b = pick (eqb a 0) (eqb b 0) refl refl
  where
    pick : (t u : Bool) → eqb a 0 ≡ t → eqb b 0 ≡ u → eqb (bit_or a b) 0 ≡ t && u
    pick true true p q =
        let za : a ≡ 0 = eqb-true a 0 p in
        let zb : b ≡ 0 = eqb-true b 0 q in
        rw (za, zb)
    pick true false p q = ne_eqb (bit_or a b) 0 (λ e. eqb-false b 0 q (or_none a b e).1)
    pick false u p q = ne_eqb (bit_or a b) 0 (λ e. eqb-false a 0 p (or_none a b e).0)

xor_none : (a b : ℕ) → bit_xor a b ≡ 0 → a ≡ b
xor_none a b e = omega (arith, xor_add_and a b, and_le_l a b, and_le_r a b)

pub xor_test : (a b : ℕ) → eqb (bit_xor a b) 0 ≡ eqb a b
xor_test a b = pick (eqb a b) refl
  where
    pick : (t : Bool) → eqb a b ≡ t → eqb (bit_xor a b) 0 ≡ t
    pick true p = let e : a ≡ b = eqb-true a b p in rw (e, xor_self b)
    pick false p = ne_eqb (bit_xor a b) 0 (λ e. eqb-false a b p (xor_none a b e))

-- one byte more is gathered, of one list and of two
pub zero_turn : (s : List ℕ) (acc i : ℕ) → i < length s → eqb (bit_or acc (get_or s i 0)) 0 && all_zero (drop (suc i) s) ≡ eqb acc 0 && all_zero (drop i s)
unfolding all_zero
zero_turn s acc i h = rw (drop-cons s i 0 h, or_test) (and_assoc (eqb acc 0) (eqb (get_or s i 0) 0) (all_zero (drop (suc i) s)))

pub same_turn : (a b : List ℕ) (acc i : ℕ) → i < length a → i < length b
    → eqb (bit_or acc (bit_xor (get_or a i 0) (get_or b i 0))) 0 && same_bytes (drop (suc i) a) (drop (suc i) b) ≡ eqb acc 0 && same_bytes (drop i a) (drop i b)
unfolding same_bytes
same_turn a b acc i h k =
    rw (drop-cons a i 0 h, drop-cons b i 0 k, or_test, xor_test)
    (and_assoc (eqb acc 0) (eqb (get_or a i 0) (get_or b i 0)) (same_bytes (drop (suc i) a) (drop (suc i) b)))

pub zero_end : (s : List ℕ) (acc i : ℕ) → length s ≤ i → eqb acc 0 && all_zero (drop i s) ≡ eqb acc 0
unfolding all_zero
zero_end s acc i h = rw (drop_of_length-le s {i = i} h) (and-true (eqb acc 0))

pub same_end : (a b : List ℕ) (acc i : ℕ) → length a ≤ i → length b ≤ i → eqb acc 0 && same_bytes (drop i a) (drop i b) ≡ eqb acc 0
unfolding same_bytes
same_end a b acc i h k = rw (drop_of_length-le a {i = i} h, drop_of_length-le b {i = i} k) (and-true (eqb acc 0))
