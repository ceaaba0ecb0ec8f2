use Rattle.std.proofs.Common.{sym, ◌∙◌, arith}
use Rattle.idmap.proofs.DecodeLaws.{low_some}
use Rattle.idmap_read.proofs.delta.Next.{next_place, next_start, next_low, next_none, next_over, next_sum}
use Rattle.idmap_read.proofs.delta.next_id.Goals as goal

pub returns-then-u32_at-at : goal.returns-then-u32_at-at
returns-then-u32_at-at c = next_place _ _ _ _ _ c.if-left-eq0.true (λ e. c.if-u32_at-at.true (c.u32_at.ensures ∙ e))

pub returns-then-not-follows : goal.returns-then-not-follows
returns-then-not-follows c =
    next_low _ _ _ _ _ c.if-left-eq0.true (sym c.u32_at.ensures ∙ c.if-u32_at-at.false) (sym c.follows.ensures ∙ c.if-not-follows.true)

pub returns-then-left-eq0 : goal.returns-then-left-eq0
returns-then-left-eq0 c =
    next_start _ _ _ _ _ c.if-left-eq0.true (sym c.u32_at.ensures ∙ c.if-u32_at-at.false) (sym c.follows.ensures ∙ c.if-not-follows.false)

pub returns-then-value-eq0 : goal.returns-then-value-eq0
returns-then-value-eq0 c = next_none _ _ _ _ _ (omega arith) c.if-value-eq0.true

pub returns-then-value-before : goal.returns-then-value-before
returns-then-value-before c =
    let low = low_some c.args.prev c.unwrap-before.result c.unwrap-before.ensures in
    next_over _ _ _ _ _ (omega arith) (omega arith) (omega arith)

pub returns : goal.returns
returns c =
    let low = low_some c.args.prev c.unwrap-before.result c.unwrap-before.ensures in
    next_sum _ _ _ _ _ (omega arith) (omega arith) (omega arith) _ (omega arith)
