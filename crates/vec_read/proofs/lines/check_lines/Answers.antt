use Rattle.std.proofs.Common.{sym, ◌∙◌, arith}
use Rattle.answers.proofs.HandedOn.{handed_number, number_some}
use Rattle.vecseg.proofs.LineLaws.{lines_first, lines_stop, lines_next, lines_last}
use Rattle.vec_read.proofs.lines.check_lines.Goals as goal

pub loop-i-init : goal.loop-i-init
loop-i-init c = lines_first _ _

pub returns-in_err-check_line : goal.returns-in_err-check_line
returns-in_err-check_line c =
    let n = number_some c.in_err-check_line.field-0.0 in
    handed_number _ _ c.from_residual.ensures.1 ∙ lines_stop _ _ _ c.loop-i.invariant (omega arith) _ c.in_err-check_line.ensures (λ z. omega arith)

pub loop-i-preserved : goal.loop-i-preserved
loop-i-preserved c = lines_next _ _ _ c.loop-i.invariant (omega arith) (sym c.in_ok-check_line.ensures)

pub returns : goal.returns
returns c = lines_last _ _ _ c.loop-i.invariant (omega arith)
