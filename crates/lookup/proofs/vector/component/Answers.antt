-- `lookup::vector::component` meets its contract.
use Rattle.std.proofs.Common.{◌∙◌, refl}
use Rattle.answers.proofs.HandedOn.{handed_on}
use Rattle.reading.proofs.ComponentLaws.{kind_number}
use Rattle.lookup.proofs.vector.Value.{lies_not, value_room_at, component_is, component_not}
use Rattle.lookup.proofs.vector.component.Goals as goal

pub returns-in_err-place-clause-kind : goal.returns-in_err-place-clause-kind
returns-in_err-place-clause-kind c =
    (kind_number _ _ (handed_on _ _ c.from_residual.ensures.1 ∙ (component_not _ _ (lies_not _ _ _ c.in_err-place.ensures _ refl)).0)).0

pub returns-in_err-place-clause-number : goal.returns-in_err-place-clause-number
returns-in_err-place-clause-number c =
    (kind_number _ _ (handed_on _ _ c.from_residual.ensures.1 ∙ (component_not _ _ (lies_not _ _ _ c.in_err-place.ensures _ refl)).0)).1

pub component_at-requires : goal.component_at-requires
component_at-requires c = value_room_at _ _ _ c.in_ok-place.ensures _ _ refl

pub returns-clause-kind : goal.returns-clause-kind
returns-clause-kind c = (kind_number _ _ (component_is _ _ _ c.in_ok-place.ensures _ _ refl _ c.component_at.ensures)).0

pub returns-clause-number : goal.returns-clause-number
returns-clause-number c = (kind_number _ _ (component_is _ _ _ c.in_ok-place.ensures _ _ refl _ c.component_at.ensures)).1
