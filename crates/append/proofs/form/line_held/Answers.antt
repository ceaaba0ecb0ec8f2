-- `append::form::line_held` meets its contract, by its ways out.
use Rattle.std.proofs.Common.{sym, ap, ◌∙◌}
use Rattle.segment.specs.Header.{flags_held}
use Rattle.batch.proofs.Lines.{line_kind, line_reserved, line_manifest, line_zero, line_flags, line_offset, line_holds}
use Rattle.append.proofs.form.line_held.Goals as goal

pub returns-then-not-kind_held : goal.returns-then-not-kind_held
returns-then-not-kind_held c = line_kind _ _ (sym c.kind_held.ensures ∙ c.if-not-kind_held.true)

pub returns-then-kind_reserved : goal.returns-then-kind_reserved
returns-then-kind_reserved c = line_reserved _ _ (sym c.kind_reserved.ensures ∙ c.if-kind_reserved.true)

pub returns-then-line-eq-KIND : goal.returns-then-line-eq-KIND
returns-then-line-eq-KIND c = line_manifest _ _ c.if-line-eq-KIND.true

pub returns-then-line-ne0 : goal.returns-then-line-ne0
returns-then-line-ne0 c = line_zero _ _ c.if-line-ne0.true

pub returns-then-not-flags_held : goal.returns-then-not-flags_held
returns-then-not-flags_held c = line_flags _ _ (ap flags_held (sym c.u16_at.ensures) ∙ sym c.flags_held.ensures ∙ c.if-not-flags_held.true)

pub returns-then-u32_at-at : goal.returns-then-u32_at-at
returns-then-u32_at-at c = line_offset _ _ _ c.u32_at.ensures c.if-u32_at-at.true

pub returns : goal.returns
returns c =
    line_holds _ _ _ (sym c.kind_held.ensures ∙ c.if-not-kind_held.false) (sym c.kind_reserved.ensures ∙ c.if-kind_reserved.false)
    c.if-line-eq-KIND.false c.if-line-ne0.false (ap flags_held (sym c.u16_at.ensures) ∙ sym c.flags_held.ensures ∙ c.if-not-flags_held.false)
    (sym c.u32_at.ensures ∙ c.if-u32_at-at.false) c.is_zero.ensures
