-- The two windows: their places are inside, the byte that the code writes is the one of the law, and a window whose first four bytes are a
-- register's and whose others are zero stands for that register.
-- The laws stand in proofs/Start.antt. Definitions only.
-- Assumes nothing.
use Rattle.std.specs.Prelude.{ℕ, Bool, true, false, List, [], ◌∷◌}
use Rattle.crc32c.specs.Sparse.{near, far}

-- one of the two, and how long its window is
unfoldable pub reach_of : Bool → List ℕ
reach_of true = far
reach_of false = near

unfoldable pub size_of : Bool → ℕ
size_of true = 5275
size_of false = 299

-- the places inside the window of one of the two
unfoldable pub inner_of : Bool → List ℕ
inner_of true = 4508 ∷ 2751 ∷ []
inner_of false = 142 ∷ 134 ∷ 62 ∷ 21 ∷ []
