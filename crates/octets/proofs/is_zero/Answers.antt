use Rattle.std.proofs.Common.{◌∙◌, sym, add-one, arith}
use Rattle.octets.proofs.ZeroLaws.{zero_turn, zero_end}
use Rattle.octets.proofs.is_zero.Goals as goal

pub loop-b-preserved : goal.loop-b-preserved
loop-b-preserved c = rw add-one (zero_turn _ _ c.loop-b.b-index (omega arith) ∙ c.loop-b.invariant)

pub returns : goal.returns
returns c = sym (zero_end _ _ c.loop-b.b-index (omega arith)) ∙ c.loop-b.invariant
