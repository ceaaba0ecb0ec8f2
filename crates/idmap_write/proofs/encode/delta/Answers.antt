use Rattle.std.proofs.Common.{arith, suc, ◌-◌, ◌≡◌}
use Rattle.idmap.specs.Encode.{delta_of}
use Rattle.idmap_write.proofs.encode.delta.Goals as goal

pub returns-then-left-eq0 : goal.returns-then-left-eq0
unfolding delta_of
returns-then-left-eq0 c = rw c.if-left-eq0.true

pub overflow_sub-result : goal.overflow_sub-result
overflow_sub-result c = c.requires c.if-left-eq0.false

pub returns : goal.returns
unfolding delta_of
returns c =
    let e : c.args.left ≡ suc (c.args.left - 1) = omega arith in
    rw e
