-- The front of the buffer comes back as the list.
use Rattle.std.proofs.Common.{sym, length-take-le, arith}
use Rattle.std.proofs.lemmas.List.{take_more}
use Rattle.octets.proofs.OverLaws.{over_none, over_front}
use Rattle.octets.proofs.copy.Goals as goal

pub loop-i-init : goal.loop-i-init
loop-i-init c = sym (over_none _ 0)

pub loop-i-preserved : goal.loop-i-preserved
loop-i-preserved c =
    rw (take_more c.args.body.now c.loop-i.i 0 (omega arith))
    (over_front _ _ _ _ _ c.loop-i.invariant (length-take-le c.loop-i.i c.args.body.now (omega arith)) (omega arith))
