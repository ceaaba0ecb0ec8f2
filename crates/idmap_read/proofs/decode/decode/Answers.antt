use Rattle.std.proofs.Common.{arith}
use Rattle.idmap.proofs.DecodeLaws.{broken}
use Rattle.idmap_read.proofs.decode.Head.{head_short, head_count, head_raw, head_raw_interval, head_delta, head_delta_interval, head_other}
use Rattle.idmap_read.proofs.decode.decode.Goals as goal

pub returns-then-s-lt7 : goal.returns-then-s-lt7
returns-then-s-lt7 c =
    let w = broken _ c.args.ids.now (head_short c.args.count c.args.s.now (omega arith) (omega arith) (omega arith)) in
    record { answer = w.0; ids = w.1 }

pub returns-then-u32_at-count : goal.returns-then-u32_at-count
returns-then-u32_at-count c =
    let w = broken _ c.args.ids.now (head_count c.args.count c.args.s.now (omega arith) (omega arith) (omega arith) (omega arith)) in
    record { answer = w.0; ids = w.1 }

pub returns-then-r-ne0 : goal.returns-then-r-ne0
returns-then-r-ne0 c =
    let w = broken _ c.args.ids.now (head_raw_interval c.args.count c.args.s.now (omega arith) (omega arith) (omega arith) (omega arith) (omega arith) (omega arith)) in
    record { answer = w.0; ids = w.1 }

pub returns-then-s-eq0 : goal.returns-then-s-eq0
returns-then-s-eq0 c =
    let e = head_raw c.args.count c.args.s.now (omega arith) (omega arith) (omega arith) (omega arith) (omega arith) (omega arith) in
    record { answer = rw e c.decode_raw.ensures.answer; ids = rw e c.decode_raw.ensures.ids }

pub returns-then-r-eq0 : goal.returns-then-r-eq0
returns-then-r-eq0 c =
    let w = broken _ c.args.ids.now (head_delta_interval c.args.count c.args.s.now (omega arith) (omega arith) (omega arith) (omega arith) (omega arith) (omega arith)) in
    record { answer = w.0; ids = w.1 }

pub returns-then-s-eq1 : goal.returns-then-s-eq1
returns-then-s-eq1 c =
    let e = head_delta c.args.count c.args.s.now (omega arith) (omega arith) (omega arith) (omega arith) (omega arith) (omega arith) in
    record { answer = rw (e, ← c.u16_at-r.ensures) c.decode_delta.ensures.answer; ids = rw (e, ← c.u16_at-r.ensures) c.decode_delta.ensures.ids }

pub returns : goal.returns
returns c =
    let w = broken _ c.args.ids.now (head_other c.args.count c.args.s.now (omega arith) (omega arith) (omega arith) (omega arith) (omega arith) (omega arith)) in
    record { answer = w.0; ids = w.1 }
