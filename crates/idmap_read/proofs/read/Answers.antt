use Rattle.std.proofs.Common.{arith}
use Rattle.idmap_read.proofs.ReadLaws.{read_none, read_over}
use Rattle.idmap_read.proofs.read.Goals as goal

pub returns-then-count-lt1 : goal.returns-then-count-lt1
returns-then-count-lt1 c =
    let w = read_none c.args.count c.args.s.now c.args.ids.now (omega arith) in
    record { answer = w.0; ids = w.1 }

pub returns-then-count : goal.returns-then-count
returns-then-count c =
    let w = read_over c.args.count c.args.s.now c.args.ids.now (omega arith) in
    record { answer = w.0; ids = w.1 }
