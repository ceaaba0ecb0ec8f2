-- `append::vectors::check_vectors` meets its contract, by where its loop over the bodies stands.
use Rattle.std.proofs.Common.{arith, sym, refl, ◌∙◌}
use Rattle.answers.proofs.HandedOn.{handed_number}
use Rattle.batch.specs.Form.{body_count}
use Rattle.batch.proofs.Lines.{bodies_count}
use Rattle.append.proofs.vectors.Vectors.{sums_first, sums_next, sums_stop, sums_last}
use Rattle.append.proofs.vectors.check_vectors.Goals as goal

pub loop-j-init : goal.loop-j-init
loop-j-init c = sums_first _ _

pub returns-in_err-sums-clause-answer : goal.returns-in_err-sums-clause-answer
returns-in_err-sums-clause-answer c =
    handed_number _ _ c.from_residual.ensures.1
    ∙ (sums_stop _ _ _ _ c.loop-j.invariant (omega (arith, c.count-j-end.ensures.count, bodies_count c.args.batch.now.bytes.now)) _ (body_count c.args.batch.now.bytes.now) (sym c.in_err-sums.ensures)).0

pub loop-j-preserved : goal.loop-j-preserved
loop-j-preserved c =
    let n = bodies_count c.args.batch.now.bytes.now in
    sums_next _ _ _ _ c.loop-j.invariant (omega (arith, c.count-j-end.ensures.count, n)) (omega (arith, c.count-j-end.ensures.count, n, c.count-j-end.ensures.bound)) _ (sym c.in_ok-sums.ensures)

pub returns-clause-answer : goal.returns-clause-answer
returns-clause-answer c = (sums_last _ _ _ _ _ c.loop-j.invariant (bodies_count c.args.batch.now.bytes.now) (omega (arith, c.count-j-end.ensures.count))).0

pub returns-clause-sums : goal.returns-clause-sums
returns-clause-sums c = (sums_last _ _ _ _ _ c.loop-j.invariant (bodies_count c.args.batch.now.bytes.now) (omega (arith, c.count-j-end.ensures.count))).1 refl
