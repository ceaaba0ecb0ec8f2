-- Where the loop stands: each state before this one may be its link's.
use Rattle.std.proofs.Common.{length}
use Rattle.confirm.proofs.states.Steps.{HeldAt}
use Rattle.confirm.proofs.states_held.Given as goal

abbrev pub invariant-loop-offset : goal.invariant-loop-offset
invariant-loop-offset l = HeldAt l.file l.offsets l.states (length l.yielded)
