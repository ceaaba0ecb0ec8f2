use Rattle.std.proofs.Common.{◌+◌, ◌-◌, arith}
use Rattle.octets.proofs.le.Laws.{back_first, back_next}
use Rattle.octets.proofs.le.number_at.Goals as goal

pub loop-b-init : goal.loop-b-init
loop-b-init c = back_first _ c.args.at _ (c.args.at + c.args.k - c.args.at) _ c.requires.0 (omega arith) (cc)

pub overflow_mul-r : goal.overflow_mul-r
overflow_mul-r c =
    let t = back_next _ _ _ _ _ _ _ c.loop-b.invariant c.requires.0 c.requires.1 (λ i. omega (arith, c.type_inv.s i)) c.in-Some.ensures.steps in
    record { fits = omega (arith, t.0) }

pub overflow_add-r : goal.overflow_add-r
overflow_add-r c =
    let t = back_next _ _ _ _ _ _ _ c.loop-b.invariant c.requires.0 c.requires.1 (λ i. omega (arith, c.type_inv.s i)) c.in-Some.ensures.steps in
    record { fits = omega (arith, t.0) }

pub loop-b-preserved : goal.loop-b-preserved
loop-b-preserved c =
    rw c.from.ensures (back_next _ _ _ _ _ _ _ c.loop-b.invariant c.requires.0 c.requires.1 (λ i. omega (arith, c.type_inv.s i)) c.in-Some.ensures.steps).1
