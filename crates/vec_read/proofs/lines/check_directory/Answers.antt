use Rattle.std.proofs.Common.{sym, ◌∙◌, arith}
use Rattle.answers.proofs.HandedOn.{handed_number, number_some}
use Rattle.vecseg.specs.Payload.{block_count}
use Rattle.vec_read.proofs.lines.Directory.{directory_short, directory_many, directory_cut, directory_lines, directory_fill, directory_good}
use Rattle.vec_read.proofs.lines.check_directory.Goals as goal

pub returns-then-s-lt4 : goal.returns-then-s-lt4
returns-then-s-lt4 c = directory_short _ (omega arith)

pub returns-then-blocks-gt-MAX_BLOCKS : goal.returns-then-blocks-gt-MAX_BLOCKS
unfolding block_count
returns-then-blocks-gt-MAX_BLOCKS c = directory_many _ (omega arith) _ c.u32_at-blocks.ensures (omega arith)

pub returns-then-s-end : goal.returns-then-s-end
unfolding block_count
returns-then-s-end c = directory_cut _ (omega arith) _ c.u32_at-blocks.ensures (omega arith) (omega arith)

pub returns-in_err-check_lines : goal.returns-in_err-check_lines
unfolding block_count
returns-in_err-check_lines c =
    let n = number_some c.in_err-check_lines.field-0.0 in
    rw (handed_number _ _ c.from_residual.ensures.1)
    (directory_lines _ (omega arith) _ c.u32_at-blocks.ensures (omega arith) (omega arith) _ c.in_err-check_lines.ensures (λ z. omega arith))

pub returns-then-not-is_filled : goal.returns-then-not-is_filled
unfolding block_count
returns-then-not-is_filled c =
    directory_fill _ (omega arith) _ c.u32_at-blocks.ensures (omega arith) (omega arith) (sym c.in_ok-check_lines.ensures)
    (sym c.is_filled.ensures ∙ c.if-not-is_filled.true)

pub returns : goal.returns
unfolding block_count
returns c =
    directory_good _ (omega arith) _ c.u32_at-blocks.ensures (omega arith) (omega arith) (sym c.in_ok-check_lines.ensures)
    (sym c.is_filled.ensures ∙ c.if-not-is_filled.false)
