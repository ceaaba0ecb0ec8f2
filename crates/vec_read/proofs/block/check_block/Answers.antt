use Rattle.std.proofs.Common.{sym, ◌∙◌, [], arith}
use Rattle.answers.proofs.HandedOn.{handed_on}
use Rattle.vecseg.proofs.LineLaws.{width_most, columns_fit}
use Rattle.vec_read.proofs.block.BlockLaws.{columns_are, check_columns, check_broken, check_fits, check_end, check_checksum, check_padding, check_sound}
use Rattle.vec_read.proofs.block.check_block.Goals as goal

pub overflow_mul-columns-2 : goal.overflow_mul-columns-2
overflow_mul-columns-2 c =
    omega (
      arith,
      (columns_fit c.args.count c.args.dim c.width_of.result (omega arith) (omega arith)
          (omega (arith, c.width_of.ensures, width_most c.args.dtype))).1,
    )

pub returns-then-s-columns : goal.returns-then-s-columns
returns-then-s-columns c = check_columns _ _ _ _ _ _ (columns_are _ _ _ _ c.width_of.ensures) (omega arith)

pub returns-in_err-end : goal.returns-in_err-end
returns-in_err-end c =
    rw (handed_on _ _ c.from_residual.ensures.1)
    (check_broken _ _ _ _ _ _ (columns_are _ _ _ _ c.width_of.ensures) (omega arith) _ (sym c.in_err-end.ensures.answer))

pub overflow_add-end : goal.overflow_add-end
overflow_add-end c =
    omega (
      arith,
      check_fits c.args.s.now [] c.args.count c.args.dim c.args.dtype _ (columns_are _ _ _ _ c.width_of.ensures) (omega arith)
          c.in_ok-end.field-0 (sym c.in_ok-end.ensures.answer),
    )

pub overflow_sub-s : goal.overflow_sub-s
overflow_sub-s c =
    check_fits c.args.s.now [] c.args.count c.args.dim c.args.dtype _ (columns_are _ _ _ _ c.width_of.ensures) (omega arith)
    c.in_ok-end.field-0 (sym c.in_ok-end.ensures.answer)

pub returns-then-s-end-lt4 : goal.returns-then-s-end-lt4
returns-then-s-end-lt4 c =
    check_end _ _ _ _ _ _ (columns_are _ _ _ _ c.width_of.ensures) (omega arith) _ (sym c.in_ok-end.ensures.answer) (omega arith)

pub returns-then-u32_at-checksum : goal.returns-then-u32_at-checksum
returns-then-u32_at-checksum c =
    check_checksum _ _ _ _ _ _ (columns_are _ _ _ _ c.width_of.ensures) (omega arith) _ (sym c.in_ok-end.ensures.answer) (omega arith)
    (λ e. c.if-u32_at-checksum.true (c.u32_at.ensures ∙ e ∙ sym c.checksum.ensures))

pub returns-then-not-is_filled : goal.returns-then-not-is_filled
returns-then-not-is_filled c =
    check_padding _ _ _ _ _ _ (columns_are _ _ _ _ c.width_of.ensures) (omega arith) _ (sym c.in_ok-end.ensures.answer) (omega arith)
    (sym c.u32_at.ensures ∙ c.if-u32_at-checksum.false ∙ c.checksum.ensures) (sym c.is_filled.ensures ∙ c.if-not-is_filled.true)

pub returns : goal.returns
returns c =
    check_sound _ _ _ _ _ _ (columns_are _ _ _ _ c.width_of.ensures) (omega arith) _ (sym c.in_ok-end.ensures.answer) (omega arith)
    (sym c.u32_at.ensures ∙ c.if-u32_at-checksum.false ∙ c.checksum.ensures) (sym c.is_filled.ensures ∙ c.if-not-is_filled.false) c.in_ok-end.ensures.ids
