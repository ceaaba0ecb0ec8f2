use Rattle.std.proofs.Common.{arith}
use Rattle.varint.proofs.WriteLaws.{stands_first, stands_more, stands_last, last_length}
use Rattle.varint.proofs.write.encoded_len.Goals as goal

pub loop-rest-init : goal.loop-rest-init
loop-rest-init c = (stands_first _ (omega arith), omega arith)

pub loop-rest-preserved : goal.loop-rest-preserved
loop-rest-preserved c =
    let s = stands_more _ _ _ c.loop-rest.invariant.0 c.loop-rest-test.true in
    (s, s.at_most)

pub returns : goal.returns
returns c = (last_length _ _ _ (stands_last _ _ _ c.loop-rest.invariant.0 c.loop-rest-test.false), omega arith)
