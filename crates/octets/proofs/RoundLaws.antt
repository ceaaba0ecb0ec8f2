-- Laws of rounding up to a multiple of 64.
-- Assumes nothing.
use Rattle.octets.specs.Round.{round64}
use Rattle.std.specs.Prelude.{ℕ, ◌≤◌, ◌+◌, ◌<◌, ◌%◌, ◌≡◌}
use Rattle.std.proofs.Common.{arith}

pub round64_ge : (n : ℕ) → n ≤ round64 n
unfolding round64
round64_ge n = omega arith

pub round64_lt : (n : ℕ) → round64 n < n + 64
unfolding round64
round64_lt n = omega arith

pub round64_mod : (n : ℕ) → round64 n % 64 ≡ 0
unfolding round64
round64_mod n = omega arith

-- a multiple of 64 stays, and comes out of a sum
pub round64_add : (p n : ℕ) → p % 64 ≡ 0 → round64 (p + n) ≡ p + round64 n
unfolding round64
round64_add p n h = omega arith

pub round64_mono : (m n : ℕ) → m ≤ n → round64 m ≤ round64 n
unfolding round64
round64_mono m n h = omega arith
