-- How many places are written.
use Rattle.compact.proofs.copies.PlaceLaws.{PlacedAt}
use Rattle.compact.proofs.copies.put_places.Given as goal

abbrev pub invariant-loop-i : goal.invariant-loop-i
invariant-loop-i l = PlacedAt l.base l.places l.initial.buf l.buf l.i
