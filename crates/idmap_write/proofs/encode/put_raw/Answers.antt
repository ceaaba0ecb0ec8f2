use Rattle.std.proofs.Common.{arith}
use Rattle.idmap_write.proofs.encode.Put.{raw_first, raw_next, raw_last}
use Rattle.idmap_write.proofs.encode.put_raw.Goals as goal

pub loop-i-init : goal.loop-i-init
loop-i-init c = raw_first _ _

pub loop-i-preserved : goal.loop-i-preserved
loop-i-preserved c = raw_next _ _ _ _ _ c.loop-i.invariant (omega arith) c.requires c.put.ensures c.put.auto.s

pub returns : goal.returns
returns c = raw_last _ _ _ _ c.loop-i.invariant (omega arith)
