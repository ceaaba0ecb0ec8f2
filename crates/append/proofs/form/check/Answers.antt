-- `append::form::check` meets its contract, by its ways out and by where its loop over the lines stands.
use Rattle.std.proofs.Common.{arith, sym, ◌∙◌}
use Rattle.batch.proofs.Lines.{batch_short, batch_long, batch_many, batch_zeros, batch_room, batch_lines, lines_stop, lines_next, lines_last}
use Rattle.append.proofs.form.check.Goals as goal

pub returns-then-batch-lt16 : goal.returns-then-batch-lt16
returns-then-batch-lt16 c = batch_short _ (omega arith)

pub returns-then-batch-gt-MAX_BATCH : goal.returns-then-batch-gt-MAX_BATCH
returns-then-batch-gt-MAX_BATCH c = batch_long _ (omega arith)

pub returns-then-bodies-gt-MAX_BODIES : goal.returns-then-bodies-gt-MAX_BODIES
returns-then-bodies-gt-MAX_BODIES c = batch_many _ _ c.u32_at-bodies.ensures (omega arith)

pub returns-then-not-is_zero : goal.returns-then-not-is_zero
returns-then-not-is_zero c = batch_zeros _ (sym c.is_zero.ensures ∙ c.if-not-is_zero.true)

pub returns-then-batch-at : goal.returns-then-batch-at
returns-then-batch-at c = batch_room _ _ c.u32_at-bodies.ensures (omega arith)

pub returns-then-not-line_held : goal.returns-then-not-line_held
returns-then-not-line_held c =
    lines_stop _ _ _ _ c.loop-i.invariant (omega arith) (sym c.line_held.ensures ∙ c.if-not-line_held.true)
    ∙ batch_lines c.args.batch.now c.u32_at-bodies.result c.u32_at-bodies.ensures (omega arith) (omega arith) (omega arith)
    (sym c.is_zero.ensures ∙ c.if-not-is_zero.false) (omega arith)

pub loop-i-preserved : goal.loop-i-preserved
loop-i-preserved c = lines_next _ _ _ _ c.loop-i.invariant (omega arith) _ c.u32_at.ensures (omega arith) (sym c.line_held.ensures ∙ c.if-not-line_held.false)

pub returns : goal.returns
returns c =
    lines_last _ _ _ _ c.loop-i.invariant (omega arith)
    ∙ batch_lines c.args.batch.now c.u32_at-bodies.result c.u32_at-bodies.ensures (omega arith) (omega arith) (omega arith)
    (sym c.is_zero.ensures ∙ c.if-not-is_zero.false) (omega arith)
