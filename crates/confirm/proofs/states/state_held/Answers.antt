use Rattle.std.proofs.Common.{eq-eqb, ne_eqb}
use Rattle.confirm.specs.states.At.{state_of}
use Rattle.confirm.proofs.states.state_held.Goals as goal

pub returns-then-kind-eq-KIND : goal.returns-then-kind-eq-KIND
unfolding state_of
returns-then-kind-eq-KIND c = rw (eq-eqb c.args.kind 5 c.if-kind-eq-KIND.true)

pub returns-else-kind-eq-KIND : goal.returns-else-kind-eq-KIND
unfolding state_of
returns-else-kind-eq-KIND c = rw (ne_eqb c.args.kind 5 c.if-kind-eq-KIND.false)
