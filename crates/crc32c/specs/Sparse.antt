-- Sparse multiples of the polynomial: in bytes, x^299 + x^142 + x^134 + x^62 + x^21 + 1, and x^5275 + x^4508 + x^2751 + 1. So a register taken
-- on to all the places of such a list sums up to itself. It is computed of one register, and by linearity it holds of every one.
-- The laws stand in proofs/Sparse.antt. Definitions only.
-- Assumes nothing.
use Rattle.std.specs.Prelude.{ℕ, List, [], ◌∷◌}
use Rattle.std.specs.Int.Bits.{bit_xor}

-- the sum of f over a list
unfoldable pub sum : (ℕ → ℕ) → List ℕ → ℕ
sum f [] = 0
sum f (k ∷ l) = bit_xor (f k) (sum f l)

-- ---- the two multiples

abbrev pub near : List ℕ
near = 299 ∷ 142 ∷ 134 ∷ 62 ∷ 21 ∷ []

abbrev pub far : List ℕ
far = 5275 ∷ 4508 ∷ 2751 ∷ []
