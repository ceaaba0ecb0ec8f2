-- What the search has found, read off the file: the segment's payload is a part of the file, and a value's bytes are a part of that.
-- The laws stand in proofs/vector/Value.antt. Definitions only.
-- Assumes nothing.
use Prim.Native.Nat.{ℕ, ◌+◌, ◌≤◌, ◌<◌}
use Rattle.std.proofs.Math.Path.{◌≡◌}
use Rattle.std.specs.Prelude.{drop, Result, Ok, Err}
use mathlib.Core.List.{List}
use Rattle.std.proofs.Math.ListN.{length, take}
use Rattle.vecseg.specs.Payload.{width}
use Rattle.reading.specs.Answers.{Value, Stored, NoValue}
use Rattle.lookup.specs.declared.vector.ValuePlace.{ValuePlace}
use Rattle.answers.specs.Answer.{refusal_number}
use Rattle.answers.specs.declared.Refusal.{Refusal}

-- where a value lies: the bytes of its width at a place of the file
unfoldable pub PlacedValue : List ℕ → Value → Result ValuePlace Refusal → Type 0
PlacedValue f v (Ok p) = (v ≡ Stored p.dtype (take (width p.dtype) (drop p.at f))) × ((0 < width p.dtype) × (p.at + width p.dtype ≤ length f))
PlacedValue f v (Err e) = v ≡ NoValue (refusal_number e)
