-- The next id of a delta map, and the laws of the ways out of the step that finds it.
-- The laws stand in proofs/delta/Next.antt. Definitions only.
-- Assumes nothing.
use Rattle.std.specs.Prelude.{ℕ, cond, Result, Ok, Err}
use mathlib.Core.List.{List}
use Rattle.varint.specs.Varint.{read_varint}
use Rattle.varint.specs.declared.Varint.{Varint}
use Rattle.idmap.specs.Decode.{id_of, id_held}
use Rattle.idmap_read.specs.declared.delta.IdAt.{IdAt}

-- the id that a varint of the value v gives behind others, or 5 where it breaks a rule
unfoldable pub next_of : ℕ → ℕ → ℕ → List ℕ → ℕ → Result ℕ ℕ
next_of left low at offs v = cond (id_held left low at offs v) (Ok (id_of left low v)) (Err 5)

-- an id with the length of its varint
abbrev pub id_read : ℕ → ℕ → Result IdAt ℕ
id_read x k = Ok (record { id = x; length = k })

-- what the varint at the front of s gives, with its length
unfoldable pub id_behind : ℕ → Result ℕ ℕ → Result IdAt ℕ
id_behind k (Ok x) = id_read x k
id_behind k (Err e) = Err e

unfoldable pub id_from : ℕ → ℕ → ℕ → List ℕ → Result Varint ℕ → Result IdAt ℕ
id_from left low at offs (Err e) = Err e
id_from left low at offs (Ok v) = id_behind v.length (next_of left low at offs v.value)

unfoldable pub id_at : ℕ → ℕ → ℕ → List ℕ → List ℕ → Result IdAt ℕ
id_at left low at offs s = id_from left low at offs (read_varint s)
