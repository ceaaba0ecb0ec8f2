-- A window of bytes that stands for a register: the registers of its first bytes up to each place of a sparse multiple, each from 0, summed
-- up. It goes on by a byte that is the sum of one of the message and some of its own, and by the multiple it then stands for the register
-- with that byte taken in. No table is read, and no byte waits for the many before it.
-- The laws stand in proofs/WindowLaws.antt. Definitions only.
-- Assumes nothing.
use Prim.Native.Nat.{ℕ}
use mathlib.Core.List.{List}
use Rattle.crc32c.specs.Sparse.{sum}
use Rattle.crc32c.specs.Span.{span}

-- what the window at a place stands for
unfoldable pub held : List ℕ → List ℕ → ℕ → ℕ
held reach w i = sum (λ k. span w i k) reach
