-- What is found in a payload: the block of a vector id, from the last block to the first; the vector's bytes in dimension
-- order; and a component by its kind.
-- Assumes nothing.
use Rattle.std.specs.Prelude.{ℕ, zero, suc, ◌+◌, ◌*◌, List, [], ◌++◌, take, drop}
use Rattle.std.proofs.Math.Option.{Option, none, some}
use Rattle.idmap.specs.Decode.{map_of, ids_of}
use Rattle.vecseg.specs.Payload.{Line, line_of, width, columns_length, block_count}
use Rattle.octets.specs.numbers.Numbers.{index_of}

-- line i of a payload's directory, and the ids of its block
unfoldable pub line_at : List ℕ → ℕ → Line
line_at s i = line_of (drop (4 + 12 * i) s)

unfoldable pub ids_at : List ℕ → ℕ → List ℕ
ids_at s i = ids_of (map_of (line_at s i).count (drop ((line_at s i).offset + columns_length (line_at s i)) s))

-- a vector's place: its block's line, and which vector of the block it is
pub record Place : Type 0 where
  pub line : Line
  pub index : ℕ

-- the place of an id among the first n blocks, the last of them first
unfoldable pub find_up_to : ℕ → List ℕ → ℕ → Option Place
find_up_to zero s id = none
find_up_to (suc n) s id = elim (index_of id (ids_at s n)) [ some i ↦ some (record { line = line_at s n; index = i }) | none ↦ find_up_to n s id ]

unfoldable pub find_in : List ℕ → ℕ → Option Place
find_in s id = find_up_to (block_count s) s id

-- the bytes of the value of dimension d
unfoldable pub value_at : List ℕ → Place → ℕ → List ℕ
value_at s p d = take (width p.line.dtype) (drop (p.line.offset + (d * p.line.count + p.index) * width p.line.dtype) s)

-- n values from dimension d on, and the whole vector
unfoldable pub values_from : List ℕ → Place → ℕ → ℕ → List ℕ
values_from s p zero d = []
values_from s p (suc n) d = value_at s p d ++ values_from s p n (suc d)

unfoldable pub vector_of : List ℕ → Place → List ℕ
vector_of s p = values_from s p p.line.dim 0
