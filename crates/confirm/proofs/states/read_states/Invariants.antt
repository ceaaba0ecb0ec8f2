-- Where the loop stands: the states before this one are read.
use Rattle.confirm.proofs.states.Steps.{StatesRead}
use Rattle.confirm.proofs.states.read_states.Given as goal

abbrev pub invariant-loop-i : goal.invariant-loop-i
invariant-loop-i l = StatesRead l.initial.state-items l.state-items l.payload l.n l.i
