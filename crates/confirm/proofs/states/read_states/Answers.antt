-- Each turn reads the next state; the loop goes over the front of the list, and what stands behind it stays.
use Rattle.std.proofs.Common.{arith, length-take-le}
use Rattle.confirm.proofs.states.Steps.{read_first, read_next, read_last, read_front}
use Rattle.confirm.proofs.states.read_states.Goals as goal

pub loop-i-init : goal.loop-i-init
loop-i-init c = read_first _ _ _

pub loop-i-preserved : goal.loop-i-preserved
loop-i-preserved c =
    let n = length-take-le c.args.n c.args.states.now c.requires.0 in
    read_next _ _ _ _ c.loop-i.i c.loop-i.invariant (omega arith) (omega arith)

pub returns : goal.returns
returns c =
    let n = length-take-le c.args.n c.args.states.now c.requires.0 in
    read_front c.args.states.now _ c.args.payload.now c.args.n c.requires.0 (read_last _ _ _ _ c.loop-i.i c.loop-i.invariant (omega arith))
