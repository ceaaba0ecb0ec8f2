use Rattle.std.proofs.Common.{add-zero, arith, refl, suc, sym, ◌-◌, ◌≡◌}
use Rattle.octets.proofs.OverLaws.{over_none}
use Rattle.octets.proofs.le.Laws.{length_le_bytes}
use Rattle.idmap.specs.Encode.{restart_of}
use Rattle.idmap_write.proofs.encode.put_restart.Goals as goal

pub put-requires : goal.put-requires
unfolding restart_of
put-requires c =
    omega (arith, rw (c.if-left-eq0.true, length_le_bytes 4 c.args.at) at c.requires)

pub overflow_add-result : goal.overflow_add-result
unfolding restart_of
overflow_add-result c =
    omega (arith, rw (c.if-left-eq0.true, length_le_bytes 4 c.args.at) at c.requires)

pub returns-then-left-eq0 : goal.returns-then-left-eq0
unfolding restart_of
returns-then-left-eq0 c =
    rw c.if-left-eq0.true (record { answer = rw (length_le_bytes 4 c.args.at) refl; buf = c.put.ensures })

pub returns : goal.returns
unfolding restart_of
returns c =
    let e : c.args.left ≡ suc (c.args.left - 1) = omega arith in
    rw e (record { answer = sym (add-zero c.args.place); buf = sym (over_none c.args.buf.now c.args.place) })
