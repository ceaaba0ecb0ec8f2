use Rattle.std.proofs.Common.{◌-◌, arith, length, drop, length-drop, length-take-le}
use Rattle.crc32c.proofs.Span.{adds_first, adds_next, adds_last}
use Rattle.crc32c.proofs.window.add.Goals as goal

pub loop-i-init : goal.loop-i-init
loop-i-init c = adds_first _ _ _

pub loop-i-preserved : goal.loop-i-preserved
loop-i-preserved c = adds_next _ _ _ _ _ (omega arith) (omega arith) c.loop-i.invariant

pub returns : goal.returns
returns c =
    let m = c.args.m.now in
    let d = length m - c.args.k in
    let long = length-take-le (length m - d) (drop d m) (omega (arith, length-drop d m)) in
    adds_last _ _ _ _ c.loop-i.i _ (omega arith) (omega arith) (omega arith) c.loop-i.invariant
