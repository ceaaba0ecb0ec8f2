-- What contracts name of DecodeLaws; the laws stand in proofs/DecodeLaws.antt. Definitions only.
-- Assumes nothing.
use Rattle.std.specs.Prelude.{ℕ, ◌≡◌, List, length, take}
use Rattle.std.specs.Prelude.{Option as Maybe}
use Rattle.octets.specs.numbers.Numbers.{least_next}
use Rattle.idmap.specs.Decode.{MapRead, ids_of}

-- the least id that may come behind others, the last of which is prev
abbrev pub low_of : Maybe ℕ → ℕ
low_of = least_next

-- what a list for the ids holds at its front: those that were read
abbrev pub Filled : MapRead → List ℕ → Type 0
Filled m out = take (length (ids_of m)) out ≡ ids_of m
