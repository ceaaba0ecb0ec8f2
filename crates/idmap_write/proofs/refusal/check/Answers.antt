use Rattle.std.proofs.Common.{sym, ◌∙◌, arith}
use Rattle.idmap_write.proofs.refusal.RefusalLaws.{bad_none, bad_many, bad_interval, bad_ids, bad_not}
use Rattle.idmap_write.proofs.refusal.check.Goals as goal

pub returns-then-ids-lt1 : goal.returns-then-ids-lt1
returns-then-ids-lt1 c = bad_none _ _ _ (omega arith)

pub returns-then-ids-gt-MAX_VECTORS : goal.returns-then-ids-gt-MAX_VECTORS
returns-then-ids-gt-MAX_VECTORS c = bad_many _ _ _ (omega arith)

pub returns-then-not-interval_held : goal.returns-then-not-interval_held
returns-then-not-interval_held c = bad_interval _ _ _ (omega arith) (omega arith) (sym c.interval_held.ensures ∙ c.if-not-interval_held.true)

pub returns-then-not-rising : goal.returns-then-not-rising
returns-then-not-rising c =
    bad_ids _ _ _ (omega arith) (omega arith) (sym c.interval_held.ensures ∙ c.if-not-interval_held.false) (sym c.rising.ensures ∙ c.if-not-rising.true)

pub returns : goal.returns
returns c =
    bad_not _ _ _ (omega arith) (omega arith) (sym c.interval_held.ensures ∙ c.if-not-interval_held.false) (sym c.rising.ensures ∙ c.if-not-rising.false)
