-- How many segments are copied, and their places stored.
use Rattle.compact.proofs.copies.CopyLaws.{CopyAt}
use Rattle.compact.proofs.copies.copy_segments.Given as goal

abbrev pub invariant-loop-offset : goal.invariant-loop-offset
invariant-loop-offset l = CopyAt l.file l.initial.buf l.buf l.initial.offsets l.offsets l.at l.offset-index
