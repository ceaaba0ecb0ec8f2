-- What the vector writer writes gives each vector back, value by value out of the columns.
-- The laws stand in proofs/Vector.antt. Definitions only.
-- Assumes nothing.
use Prim.Native.Nat.{ℕ, ◌+◌, ◌*◌}
use Rattle.std.specs.Prelude.{take}
use mathlib.Core.List.{List}
use Rattle.std.proofs.Math.ListN.{drop}

-- ---- a vector out of columns, which hold all values of dimension 0 first

-- the value of dimension d, w bytes, of vector k among `count`
unfoldable pub column_value : List ℕ → ℕ → ℕ → ℕ → ℕ → List ℕ
column_value columns count w k d = take w (drop ((d * count + k) * w) columns)
