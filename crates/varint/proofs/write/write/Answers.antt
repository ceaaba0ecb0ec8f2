use Rattle.std.proofs.Common.{refl, arith}
use Rattle.varint.specs.Varint.{varint_of}
use Rattle.answers.proofs.WriteLaws.{write_short, write_done}
use Rattle.varint.proofs.write.write.Goals as goal

pub returns-then-out-encoded_len : goal.returns-then-out-encoded_len
returns-then-out-encoded_len c =
    let w = write_short (varint_of c.args.x) c.args.out.now 0 refl (omega arith) in
    record { answer = w.0; out = w.1 }

pub returns : goal.returns
returns c =
    let w = write_done (varint_of c.args.x) c.args.out.now 0 c.put.result c.put.new.out refl (omega arith) (omega arith) c.put.ensures.out in
    record { answer = w.0; out = w.1 }
