use Rattle.std.proofs.Common.{◌≡◌, ◌+◌, ◌*◌, ◌/◌, sym, ◌∙◌, arith}
use Rattle.idmap.proofs.DecodeLaws.{raw_first, raw_next, raw_stop, raw_last, raw_short, raw_room, broken, whole}
use Rattle.idmap_read.proofs.decode.decode_raw.Goals as goal

pub returns-then-s-end : goal.returns-then-s-end
returns-then-s-end c =
    let w = broken _ c.args.ids.now (raw_short c.args.count c.args.s.now (omega arith)) in
    record { answer = w.0; ids = w.1 }

pub loop-t-init : goal.loop-t-init
loop-t-init c = raw_first _ _ _

pub loop-k-init : goal.loop-k-init
loop-k-init c =
    let e : 4 * c.loop-t.t + 0 ≡ 4 * c.loop-t.t = omega arith in
    rw e c.loop-t.invariant

pub returns-then-not-follows : goal.returns-then-not-follows
returns-then-not-follows c =
    let w = broken _ c.loop-k.ids
    (raw_room c.args.count c.args.s.now (omega arith) ∙ raw_stop _ _ _ _ _ c.loop-k.invariant (omega arith) _ c.u64_at-id.ensures
    (sym c.follows.ensures ∙ c.if-not-follows.true)) in
    record { answer = w.0; ids = w.1 }

pub loop-k-preserved : goal.loop-k-preserved
loop-k-preserved c =
    let e : 4 * c.loop-t.t + (c.loop-k.k + 1) ≡ 4 * c.loop-t.t + c.loop-k.k + 1 = omega arith in
    rw e
    (raw_next _ _ _ _ _ c.loop-k.invariant (omega arith) _ c.u64_at-id.ensures (sym c.follows.ensures ∙ c.if-not-follows.false) (omega arith))

pub loop-t-preserved : goal.loop-t-preserved
loop-t-preserved c =
    let e : 4 * c.loop-t.t + c.loop-k.k ≡ 4 * (c.loop-t.t + 1) = omega arith in
    rw e at c.loop-k.invariant

pub loop-i-init : goal.loop-i-init
loop-i-init c =
    let e : 4 * c.loop-t.t ≡ 4 * (c.args.count / 4) = omega arith in
    rw e at c.loop-t.invariant

pub returns-then-not-follows-2 : goal.returns-then-not-follows-2
returns-then-not-follows-2 c =
    let w = broken _ c.loop-i.ids
    (raw_room c.args.count c.args.s.now (omega arith) ∙ raw_stop _ _ _ _ _ c.loop-i.invariant (omega arith) _ c.u64_at-x.ensures
    (sym c.follows-in-loop-i.ensures ∙ c.if-not-follows-2.true)) in
    record { answer = w.0; ids = w.1 }

pub loop-i-preserved : goal.loop-i-preserved
loop-i-preserved c =
    raw_next _ _ _ _ _ c.loop-i.invariant (omega arith) _ c.u64_at-x.ensures (sym c.follows-in-loop-i.ensures ∙ c.if-not-follows-2.false) (omega arith)

pub returns : goal.returns
returns c =
    let w = whole _ _ c.args.count c.loop-i.ids
    (raw_room c.args.count c.args.s.now (omega arith) ∙ raw_last _ _ _ _ _ c.loop-i.invariant (omega arith)) (omega arith) in
    record { answer = w.0; ids = w.1 }
