use Rattle.std.proofs.Common.{sym, ◌∙◌, arith}
use Rattle.idmap_write.proofs.refusal.RefusalLaws.{rise_first, rise_next, rise_stop, rise_last}
use Rattle.idmap_write.proofs.refusal.rising.Goals as goal

pub loop-x-init : goal.loop-x-init
loop-x-init c = rise_first _

pub returns-then-not-follows : goal.returns-then-not-follows
returns-then-not-follows c = rise_stop _ _ _ c.loop-x.invariant (omega arith) (sym c.follows.ensures ∙ c.if-not-follows.true)

pub loop-x-preserved : goal.loop-x-preserved
loop-x-preserved c = rise_next _ _ _ c.loop-x.invariant (omega arith) (sym c.follows.ensures ∙ c.if-not-follows.false)

pub returns : goal.returns
returns c = rise_last _ _ _ c.loop-x.invariant (omega arith)
