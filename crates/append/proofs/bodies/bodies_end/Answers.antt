-- `append::bodies::bodies_end` meets its contract, by where the loop over the bodies stands.
use Rattle.std.proofs.Common.{arith, ap, ◌∙◌}
use Rattle.octets.specs.Round.{round64}
use Rattle.octets.proofs.RoundLaws.{round64_lt}
use Rattle.std.specs.Prelude.{length}
use Rattle.batch.specs.Lines.{no_body}
use Rattle.batch.proofs.Lines.{bodies_count}
use Rattle.append.proofs.bodies.Bodies.{end_first, end_next, end_last}
use Rattle.append.proofs.bodies.bodies_end.Goals as goal

pub loop-j-init : goal.loop-j-init
loop-j-init c = end_first _ _

pub overflow_add-at : goal.overflow_add-at
overflow_add-at c = omega (arith, c.count-j-end.ensures.bound, round64_lt (length c.body.result.now), c.body.ensures.bound, c.loop-j.invariant.small, c.round_up.ensures)

pub overflow_add-at-in-loop-j : goal.overflow_add-at-in-loop-j
overflow_add-at-in-loop-j c = omega (arith, c.count-j-end.ensures.bound, round64_lt (length c.body.result.now), c.body.ensures.bound, c.loop-j.invariant.small, c.round_up.ensures, c.requires)

pub loop-j-preserved : goal.loop-j-preserved
loop-j-preserved c =
    let p = ap length c.body.ensures.bytes in
    end_next _ _ _ _ no_body c.loop-j.invariant (omega (arith, c.count-j-end.ensures.count, bodies_count c.args.batch.now.bytes.now)) (omega (arith, p, c.body.ensures.bound)) _ (c.round_up.ensures ∙ ap round64 p)
    (omega (arith, p, c.round_up.ensures, round64_lt (length c.body.result.now)))

pub returns : goal.returns
returns c = end_last _ _ _ _ c.loop-j.invariant (omega (arith, c.count-j-end.ensures.count, bodies_count c.args.batch.now.bytes.now))
