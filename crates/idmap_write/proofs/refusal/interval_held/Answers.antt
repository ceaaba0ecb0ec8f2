use Rattle.idmap_write.proofs.refusal.RefusalLaws.{held_raw, held_delta, held_not}
use Rattle.idmap_write.proofs.refusal.interval_held.Goals as goal

pub returns-then-encoding-eq0 : goal.returns-then-encoding-eq0
returns-then-encoding-eq0 c = held_raw _ _ c.if-encoding-eq0.true

pub returns-then-encoding-eq1 : goal.returns-then-encoding-eq1
returns-then-encoding-eq1 c = held_delta _ _ c.if-encoding-eq1.true

pub returns : goal.returns
returns c = held_not _ _ c.if-encoding-eq0.false c.if-encoding-eq1.false
