use mathlib.Core.Path.{◌≡◌, sym, ◌∙◌}
use Prim.Native.Nat.{◌-◌}
use native.Mathlib.Omega.{arith}
use Rattle.crc32c.proofs.Product.{digits_turn, digits_end, digits_all}
use Rattle.crc_join.proofs.times.Goals as goal

pub loop-init : goal.loop-init
loop-init c = digits_all c.args.k c.args.x

pub loop-preserved : goal.loop-preserved
loop-preserved c = digits_turn c.args.k c.loop.counter c.loop.left c.loop.sum (omega arith) ∙ c.loop.invariant

pub returns : goal.returns
returns c =
    let z : 32 - c.loop.counter ≡ 0 = omega arith in
    sym (digits_end c.args.k c.loop.counter c.loop.left c.loop.sum z) ∙ c.loop.invariant
