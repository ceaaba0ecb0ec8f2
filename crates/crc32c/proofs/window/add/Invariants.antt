-- The message's register so far is the sum of the two, and what is behind is as it was.
use Rattle.crc32c.proofs.Span.{Adds}
use Rattle.crc32c.proofs.window.add.Given as goal

abbrev pub invariant-loop-i : goal.invariant-loop-i
invariant-loop-i l = Adds l.fn.m l.x-items l.w l.d l.i
