-- `lookup::vector::value_place` meets its contract, by what the search has found.
use Rattle.std.proofs.Common.{arith, sym, ap, ◌∙◌}
use Rattle.std.specs.Prelude.{Ok}
use Rattle.lookup.proofs.in_segment.LocatedLaws.{not_some}
use Rattle.lookup.proofs.vector.Value.{value_refused, value_handed_on, value_nowhere, value_past, value_inside, value_here}
use Rattle.lookup.proofs.vector.value_place.Goals as goal

pub returns-in_err-located : goal.returns-in_err-located
returns-in_err-located c = value_handed_on _ _ _ _ c.from_residual.ensures.1 (value_refused _ _ _ _ (sym c.in_err-located.ensures))

pub returns-in_default : goal.returns-in_default
returns-in_default c = value_nowhere _ _ _ (sym c.in_ok-located.ensures ∙ ap Ok (not_some _ c.in_default.not-Some))

pub returns-then-component-place : goal.returns-then-component-place
returns-then-component-place c = value_past _ _ _ (sym c.in_ok-located.ensures ∙ ap Ok c.in-Some.is) _ (omega arith)

pub overflow_mul-result : goal.overflow_mul-result
overflow_mul-result c =
    omega (arith, value_inside _ _ _ (sym c.in_ok-located.ensures ∙ ap Ok c.in-Some.is) c.args.component (omega arith) _ c.width_of-width.ensures)

pub overflow_add-result : goal.overflow_add-result
overflow_add-result c =
    omega (arith, value_inside _ _ _ (sym c.in_ok-located.ensures ∙ ap Ok c.in-Some.is) c.args.component (omega arith) _ c.width_of-width.ensures)

pub overflow_mul-result-2 : goal.overflow_mul-result-2
overflow_mul-result-2 c =
    omega (arith, value_inside _ _ _ (sym c.in_ok-located.ensures ∙ ap Ok c.in-Some.is) c.args.component (omega arith) _ c.width_of-width.ensures)

pub overflow_add-result-2 : goal.overflow_add-result-2
overflow_add-result-2 c =
    omega (arith, value_inside _ _ _ (sym c.in_ok-located.ensures ∙ ap Ok c.in-Some.is) c.args.component (omega arith) _ c.width_of-width.ensures)

pub overflow_add-result-3 : goal.overflow_add-result-3
overflow_add-result-3 c =
    omega (arith, value_inside _ _ _ (sym c.in_ok-located.ensures ∙ ap Ok c.in-Some.is) c.args.component (omega arith) _ c.width_of-width.ensures)

pub returns : goal.returns
returns c = value_here _ _ _ (sym c.in_ok-located.ensures ∙ ap Ok c.in-Some.is) _ (omega arith) _ c.width_of-width.ensures
