use Rattle.std.proofs.Common.{◌≡◌, ◌-◌, suc, arith}
use Rattle.idmap.specs.Encode.{left_after}
use Rattle.idmap_read.proofs.delta.left_after.Goals as goal

pub returns-then-left-eq0 : goal.returns-then-left-eq0
unfolding left_after
returns-then-left-eq0 c = rw c.if-left-eq0.true

pub returns-else-left-eq0 : goal.returns-else-left-eq0
unfolding left_after
returns-else-left-eq0 c =
    let e : c.args.left ≡ suc (c.args.left - 1) = omega arith in
    rw e (omega arith)
