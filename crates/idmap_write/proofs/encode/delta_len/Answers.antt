use Rattle.std.proofs.Common.{arith}
use Rattle.idmap_write.proofs.encode.Put.{begins_len, differs_len, one_byte, two_bytes}
use Rattle.idmap_write.proofs.encode.delta_len.Goals as goal

pub returns-then-left-eq0 : goal.returns-then-left-eq0
returns-then-left-eq0 c = begins_len _ _ _ _ c.if-left-eq0.true c.encoded_len.ensures

pub overflow_sub-d : goal.overflow_sub-d
overflow_sub-d c = c.requires c.if-left-eq0.false

pub returns-then-d-ge16384 : goal.returns-then-d-ge16384
returns-then-d-ge16384 c = differs_len _ _ _ _ (omega arith) c.encoded_len-then-d-ge16384.ensures

pub returns-then-d-lt128 : goal.returns-then-d-lt128
returns-then-d-lt128 c = differs_len _ _ _ _ (omega arith) (one_byte _ (omega arith))

pub returns-else-d-lt128 : goal.returns-else-d-lt128
returns-else-d-lt128 c = differs_len _ _ _ _ (omega arith) (two_bytes _ (omega arith) (omega arith))
