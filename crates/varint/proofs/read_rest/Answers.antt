use Rattle.std.proofs.Common.{ne_eqb, ◌≡◌, ◌+◌, ◌-◌, ◌^◌, ◌≤◌, refl, sym, ◌∙◌, arith, get_or}
use Rattle.varint.proofs.ReadLaws.{Left, starts, stands_fits, stands_next, left_none, left_zero, left_value, left_next, tenth_one, tenth_bad}
use Rattle.varint.proofs.read_rest.Goals as goal

pub loop-i-init : goal.loop-i-init
unfolding Left
loop-i-init c = (starts _ c.requires.1, refl)

pub returns-then-s-at : goal.returns-then-s-at
returns-then-s-at c = left_none _ _ _ _ _ c.loop-i.invariant.0.at_most (omega arith) ∙ c.loop-i.invariant.1

pub returns-then-b-eq0 : goal.returns-then-b-eq0
returns-then-b-eq0 c =
    left_zero _ _ _ _ _ c.loop-i.invariant.0.at_most _ c.wide-b.ensures.0 (omega arith) c.if-b-eq0.true ∙ c.loop-i.invariant.1

pub overflow_mul-result : goal.overflow_mul-result
overflow_mul-result c = omega (arith, (stands_fits _ _ _ c.wide-b.result c.loop-i.invariant.0 (omega arith) (omega arith)).0)

pub overflow_add-result : goal.overflow_add-result
overflow_add-result c = omega (arith, (stands_fits _ _ _ c.wide-b.result c.loop-i.invariant.0 (omega arith) (omega arith)).0)

pub returns-then-b-lt128 : goal.returns-then-b-lt128
returns-then-b-lt128 c =
    rw (ne_eqb (c.loop-i.i + 1) 0 (omega arith))
    (left_value _ _ _ _ _ c.loop-i.invariant.0.at_most _ c.wide-b.ensures.0 (omega arith) c.if-b-lt128.true c.if-b-eq0.false
    (stands_fits _ _ _ _ c.loop-i.invariant.0 (omega arith) (omega arith)).0 ∙ c.loop-i.invariant.1)

pub overflow_mul-acc : goal.overflow_mul-acc
overflow_mul-acc c = omega (arith, (stands_fits _ _ _ (c.wide-b.result - 128) c.loop-i.invariant.0 (omega arith) (omega arith)).0)

pub overflow_add-acc : goal.overflow_add-acc
overflow_add-acc c = omega (arith, (stands_fits _ _ _ (c.wide-b.result - 128) c.loop-i.invariant.0 (omega arith) (omega arith)).0)

pub overflow_mul-p : goal.overflow_mul-p
overflow_mul-p c = omega (arith, (stands_fits _ _ _ (c.wide-b.result - 128) c.loop-i.invariant.0 (omega arith) (omega arith)).1)

pub loop-i-preserved : goal.loop-i-preserved
loop-i-preserved c =
    let k : 128 ≤ get_or c.args.s.now (c.args.at + c.loop-i.i) 0 = omega arith in (
      stands_next _ _ _ _ c.loop-i.invariant.0 (omega arith) (omega arith) c.if-b-lt128.false,
      rw c.wide-b.ensures.0 (sym (left_next _ _ _ _ _ c.loop-i.invariant.0.at_most (omega arith) k) ∙ c.loop-i.invariant.1),
    )

pub returns-then-s-at-le9 : goal.returns-then-s-at-le9
returns-then-s-at-le9 c = left_none _ _ _ _ _ c.loop-i.invariant.0.at_most (omega arith) ∙ c.loop-i.invariant.1

pub returns-then-b-eq1 : goal.returns-then-b-eq1
returns-then-b-eq1 c =
    let at_most = c.loop-i.invariant.0.at_most in
    let nine : c.loop-i.i ≡ 9 = omega arith in
    let q : c.args.at + 9 ≡ c.args.at + c.loop-i.i = omega arith in
    let is : c.wide-b-2.result ≡ get_or c.args.s.now (c.args.at + c.loop-i.i) 0 = rw q at c.wide-b-2.ensures.0 in
    tenth_one _ _ _ _ _ at_most _ is (omega arith) nine c.loop-i.invariant.0 c.if-b-eq1.true ∙ c.loop-i.invariant.1

pub returns : goal.returns
returns c =
    let at_most = c.loop-i.invariant.0.at_most in
    let nine : c.loop-i.i ≡ 9 = omega arith in
    let q : c.args.at + 9 ≡ c.args.at + c.loop-i.i = omega arith in
    let is : c.wide-b-2.result ≡ get_or c.args.s.now (c.args.at + c.loop-i.i) 0 = rw q at c.wide-b-2.ensures.0 in
    tenth_bad _ _ _ _ _ at_most _ is (omega arith) nine c.loop-i.invariant.0 c.if-b-eq1.false ∙ c.loop-i.invariant.1

pub overflow_add-result-then-b-eq1 : goal.overflow_add-result-then-b-eq1
overflow_add-result-then-b-eq1 c =
    let at_most = c.loop-i.invariant.0.at_most in
    let low = c.loop-i.invariant.0.low in
    let nine : c.loop-i.i ≡ 9 = omega arith in
    let w : c.loop-i.p ≡ 2 ^ 63 = (rw nine at c.loop-i.invariant.0.weight) in
    omega arith
