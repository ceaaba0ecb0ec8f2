use Rattle.std.proofs.Common.{ap, arith}
use Rattle.octets.specs.Options.{option_of}
use Rattle.octets.proofs.numbers.NumbersLaws.{index_first, index_here, index_next, index_last}
use Rattle.octets.proofs.numbers.index_of.Goals as goal

pub loop-i-init : goal.loop-i-init
loop-i-init c = index_first _ _

pub loop-i-preserved : goal.loop-i-preserved
loop-i-preserved c = index_next _ _ _ c.loop-i.invariant (omega arith) c.if-y-x.false

pub returns-then-y-x : goal.returns-then-y-x
returns-then-y-x c = ap option_of (index_here _ _ _ c.loop-i.invariant (omega arith) c.if-y-x.true)

pub returns : goal.returns
returns c = ap option_of (index_last _ _ _ c.loop-i.invariant (omega arith))
