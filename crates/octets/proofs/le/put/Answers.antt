use Rattle.std.proofs.Common.{◌+◌, ◌-◌, arith, drop, length-drop, length-take-le, zero-add}
use Rattle.octets.proofs.Parts.{back_whole}
use Rattle.octets.proofs.le.Laws.{writes_first, writes_next, writes_last, length_le_bytes}
use Rattle.octets.proofs.le.put.Goals as goal

pub loop-b-init : goal.loop-b-init
loop-b-init c = writes_first _ _ _ _

pub loop-b-preserved : goal.loop-b-preserved
loop-b-preserved c =
    let long = length-take-le (c.args.at + c.args.k - c.args.at) (drop c.args.at c.args.s.now) (omega (arith, length-drop c.args.at c.args.s.now)) in
    rw zero-add at (writes_next _ _ _ _ _ c.loop-b.b-index _ c.loop-b.invariant (omega arith) (omega arith))

pub returns : goal.returns
returns c =
    let long = length-take-le (c.args.at + c.args.k - c.args.at) (drop c.args.at c.args.s.now) (omega (arith, length-drop c.args.at c.args.s.now)) in
    back_whole _ _ c.args.k _ _ _
    (writes_last _ _ _ _ _ c.loop-b.b-index _ c.loop-b.invariant (omega arith))
    (length_le_bytes _ _) (omega arith) c.requires
