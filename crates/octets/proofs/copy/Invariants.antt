-- The first i bytes are laid over the buffer's front.
use Rattle.std.proofs.Common.{◌≡◌, take}
use Rattle.octets.specs.Over.{over}
use Rattle.octets.proofs.copy.Given as goal

abbrev pub invariant-loop-i : goal.invariant-loop-i
invariant-loop-i l = l.buf ≡ over l.initial.buf 0 (take l.i l.body)
