use Rattle.std.proofs.Common.{arith}
use Rattle.idmap.proofs.EncodeLaws.{ids_first, ids_above}
use Rattle.idmap_write.proofs.encode.Put.{len_first, len_next, len_last}
use Rattle.idmap_write.proofs.encode.deltas_len.Goals as goal

pub loop-x-init : goal.loop-x-init
loop-x-init c = len_first _ _ (ids_first _ c.requires.1.1)

pub delta_len-total-requires : goal.delta_len-total-requires
delta_len-total-requires c = ids_above _ _ _ _ c.loop-x.invariant.at (omega arith)

pub overflow_add-total : goal.overflow_add-total
overflow_add-total c = omega (arith, c.loop-x.invariant.small)

pub loop-x-preserved : goal.loop-x-preserved
loop-x-preserved c =
    rw c.left_after-left.ensures
    (len_next _ _ _ _ _ _ _ c.loop-x.invariant (omega arith) c.delta_len-total.ensures.0 c.delta_len-total.ensures.1)

pub returns : goal.returns
returns c = len_last _ _ _ _ _ _ c.loop-x.invariant (omega arith)
