-- Laws of decimal numbers as text.
-- Assumes nothing.
use Rattle.octets.specs.text.Text.{digits_in, decimal}
use Rattle.std.specs.Prelude.{ℕ, zero, suc, ◌+◌, ◌/◌, ◌%◌, ◌≤◌, ◌<◌, ◌*◌, ◌^◌, ◌≡◌, cond, [], ◌∷◌, ◌++◌, List, ltb, length}
use Rattle.std.proofs.Common.{ap, arith, lt_of_not-le, pow-suc, lt-ltb, le-ltb, length-append}
use Rattle.std.proofs.Math.Decide.{dec_le}

-- ---- digit by digit

-- it does not matter how many digits are asked for, where they are enough
enough : (k j n : ℕ) → n < k → n < j → digits_in k n ≡ digits_in j n
unfolding digits_in
enough zero j n h i = absurd (omega arith)
enough (suc k) zero n h i = absurd (omega arith)
enough (suc k) (suc j) n h i = go (dec_le 10 n) (λ q. enough k j (n / 10) (omega arith) (omega arith))
  where
    go : Dec (10 ≤ n) → (10 ≤ n → digits_in k (n / 10) ≡ digits_in j (n / 10))
        → cond (ltb n 10) [] (digits_in k (n / 10)) ++ ((48 + n % 10) ∷ []) ≡ cond (ltb n 10) [] (digits_in j (n / 10)) ++ ((48 + n % 10) ∷ [])
    go (yes q) ih = rw (ih q)
    go (no q) ih = rw (lt-ltb n 10 (lt_of_not-le q))

pub decimal_one : (n : ℕ) → n < 10 → decimal n ≡ (48 + n) ∷ []
unfolding decimal digits_in
decimal_one n h =
    let e : n % 10 ≡ n = omega arith in
    rw (lt-ltb n 10 h, e)

pub decimal_more : (n : ℕ) → 10 ≤ n → decimal n ≡ decimal (n / 10) ++ ((48 + n % 10) ∷ [])
unfolding decimal digits_in
decimal_more n h = rw (le-ltb n 10 h) (ap (λ (l : List ℕ). l ++ ((48 + n % 10) ∷ [])) (enough n (suc (n / 10)) (n / 10) (omega arith) (omega arith)))

-- a number below a power of ten has no more digits than the power says
pub decimal_short : (k n : ℕ) → n < 10 ^ suc k → length (decimal n) ≤ suc k
decimal_short zero n h = rw (decimal_one n (omega arith)) (omega arith)
decimal_short (suc k) n h = go (dec_le 10 n) (λ i. decimal_short k (n / 10) i)
  where
    go : Dec (10 ≤ n) → (n / 10 < 10 ^ suc k → length (decimal (n / 10)) ≤ suc k) → length (decimal n) ≤ suc (suc k)
    go (no q) ih = rw (decimal_one n (lt_of_not-le q)) (omega arith)
    go (yes q) ih =
        let p : 10 ^ suc (suc k) ≡ 10 ^ suc k * 10 = pow-suc 10 (suc k) in
        let i = ih (omega arith) in
        rw (decimal_more n q, length-append) (omega arith)

pub decimal_u64 : (n : ℕ) → n < 2 ^ 64 → length (decimal n) ≤ 20
decimal_u64 n h = decimal_short 19 n (omega arith)
