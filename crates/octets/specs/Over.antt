-- A buffer with a list written at a place: what stood there goes, all else stays. It serves bytes and ids alike.
-- Assumes nothing.
use Rattle.std.specs.Prelude.{ℕ, ◌+◌, List, ◌++◌, length, take, drop}

-- the list s with xs written at a place
unfoldable pub over : List ℕ → ℕ → List ℕ → List ℕ
over s at xs = take at s ++ (xs ++ drop (at + length xs) s)
