-- What the walk over the blocks answers, by what it was asked for: the payload's checksum, the place of a vector id, both or neither.
-- The laws stand in proofs/walk/WalkLaws.antt. Definitions only.
-- Assumes nothing.
use Rattle.std.specs.Prelude.{ℕ, Bool, List, Result, Ok, Err, Some, None}
use Rattle.std.specs.Prelude.{Option as Maybe}
use Rattle.std.proofs.Math.Bool.{cond}
use Rattle.std.proofs.Math.Option.{Option, none, some}
use Rattle.std.proofs.Math.Dec.{eqb}
use Rattle.crc32c.specs.Crc.{crc_of}
use Rattle.vecseg.specs.Payload.{block_count, check_of}
use Rattle.vecseg.specs.Find.{Place, find_up_to, find_in}
use Rattle.octets.specs.numbers.Numbers.{index_of}
use Rattle.vec_read.specs.declared.walk.Place.{Place as PlaceRead}
use Rattle.vec_read.specs.declared.walk.Searched.{Searched}

-- the check that keeps the payload's checksum
unfoldable pub summed_of : List ℕ → Result ℕ ℕ
summed_of s = cond (eqb (check_of s) 0) (Ok (crc_of s)) (Err (check_of s))

-- a place by its numbers: its block's place in the payload, count, dim and dtype, and which vector of the block it is
abbrev pub place_read : Option Place → Maybe PlaceRead
place_read none = None
place_read (some p) = Some (record { offset = p.line.offset; count = p.line.count; dim = p.line.dim; dtype = p.line.dtype; index = p.index })

-- the search: the payload's checksum, and the place
unfoldable pub searched_at : ℕ → Option Place → Searched
searched_at crc o = record { sum = crc; place = place_read o }

unfoldable pub searched_of : List ℕ → ℕ → Result Searched ℕ
searched_of s id = cond (eqb (check_of s) 0) (Ok (searched_at (crc_of s) (find_in s id))) (Err (check_of s))

-- ---- the walk, by what it is asked for

-- the checksum of a part, 0 where none is asked for
unfoldable pub sum_of : Bool → List ℕ → ℕ
sum_of summed s = cond summed (crc_of s) 0

-- the place of an id among the first n blocks, none where no id is looked for
unfoldable pub found_up_to : ℕ → List ℕ → Maybe ℕ → Option Place
found_up_to n s None = none
found_up_to n s (Some id) = find_up_to n s id

unfoldable pub walked_of : Bool → List ℕ → Maybe ℕ → Result Searched ℕ
walked_of summed s id = cond (eqb (check_of s) 0) (Ok (searched_at (sum_of summed s) (found_up_to (block_count s) s id))) (Err (check_of s))

-- the id's index among the block's ids, none where no id is looked for
unfoldable pub asked_of : Maybe ℕ → List ℕ → Option ℕ
asked_of None ids = none
asked_of (Some id) ids = index_of id ids
