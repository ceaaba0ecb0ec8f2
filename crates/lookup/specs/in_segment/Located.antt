-- Where the vector with an id stands, by cases; the look into one segment, by the file's bytes alone; and where the search through the directory stands.
-- The laws stand in proofs/in_segment/LocatedLaws.antt. Definitions only.
-- Assumes nothing.
use Rattle.std.specs.Prelude.{ℕ, ◌+◌, eqb, length, take, drop, Result, Ok, Err, Some, None}
use Rattle.std.specs.Prelude.{Option as Maybe}
use Rattle.std.proofs.Math.Bool.{cond}
use Rattle.std.proofs.Math.Option.{Option, none, some}
use mathlib.Core.List.{List}
use Rattle.segment.specs.Step.{whole_at}
use Rattle.vecseg.specs.Payload.{check_of}
use Rattle.vecseg.specs.Find.{Place, find_in}
use Rattle.reading.specs.Answers.{Hit, Held, Missing, Bad}
use Rattle.lookup.specs.declared.in_segment.Located.{Located}
use Rattle.vec_read.specs.declared.walk.Place.{Place as PlaceRead}

-- a place by the numbers that the search answers
abbrev pub read_place : Place → PlaceRead
read_place p = record { offset = p.line.offset; count = p.line.count; dim = p.line.dim; dtype = p.line.dtype; index = p.index }

unfoldable pub located_of : Hit → Result (Maybe Located) ℕ
located_of (Held l p) = Ok (Some (record { body = l.offset + 64; length = length l.payload; place = read_place p }))
located_of Missing = Ok None
located_of (Bad n) = Err n

-- ---- one segment

-- a place in the payload of so many bytes at `body`
unfoldable pub placed_in : ℕ → ℕ → Option Place → Result (Maybe Located) ℕ
placed_in body len none = Ok None
placed_in body len (some p) = Ok (Some (record { body = body; length = len; place = read_place p }))

-- the segment whose header begins at p, with a payload of so many bytes
unfoldable pub segment_hit_at : List ℕ → ℕ → ℕ → ℕ → Result (Maybe Located) ℕ
segment_hit_at f p len id =
    let s = take len (drop (p + 64) f) in
    cond (whole_at f p len) (cond (eqb (check_of s) 0) (placed_in (p + 64) len (find_in s id)) (Err (check_of s))) (Err 4)
