-- The values of a vector, one behind the other: where the loop stands that gathers them from the columns, and the room they take.
-- The laws stand in proofs/values/Vector.antt. Definitions only.
-- Assumes nothing.
use Prim.Native.Nat.{ℕ, ◌+◌, ◌*◌, ◌≤◌, ◌<◌}
use Rattle.vecseg.specs.Find.{Place}

-- the place that a call hands over by its numbers; the tier plays no part
unfoldable pub place_with : ℕ → ℕ → ℕ → ℕ → ℕ → Place
place_with offset count dim dtype index = record { line = record { offset = offset; count = count; dim = dim; dtype = dtype; tier = 0 }; index = index }

-- ---- the room that the values take, of numbers within bounds

pub record Bounds (n offset count dim w index : ℕ) : Type 0 where
  pub most : count ≤ 4096
  pub at_most : dim ≤ 1024
  pub small : w ≤ 4
  pub room : offset + count * dim * w ≤ n
  pub index_in : index < count
