-- What a payload call answers, by cases, where a payload lies, and what it is for a slice to be the part of a file at a place.
-- The laws stand in proofs/PartLaws.antt. Definitions only.
-- Assumes nothing.
use Rattle.std.specs.Prelude.{ℕ, ◌+◌, ◌≤◌, ◌<◌, ◌≡◌, List, [], length, Result, Ok, Err}
use Rattle.std.specs.Borrow.{Bor}
use Rattle.reading.specs.declared.PayloadPlace.{PayloadPlace}
use Rattle.reading.specs.Part.{IsPart}

-- ---- a place

unfoldable pub place_number : Result PayloadPlace ℕ → ℕ
place_number (Ok p) = 0
place_number (Err n) = n

-- a place that lies in the file gives that part; any other gives nothing
unfoldable pub Hands : Bor (List ℕ) → Bor (List ℕ) → Result PayloadPlace ℕ → Type 0
Hands r f (Ok p) = ((p.start + p.length ≤ length f.now → IsPart r f p.start p.length) × (length f.now < p.start + p.length → r.now ≡ []))
Hands r f (Err n) = r.now ≡ []
