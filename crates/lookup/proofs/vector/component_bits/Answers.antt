-- `lookup::vector::component_bits` meets its contract.
use Rattle.std.proofs.Common.{arith, ◌∙◌, refl}
use Rattle.answers.proofs.HandedOn.{handed_on}
use Rattle.lookup.proofs.vector.Value.{lies_not, value_room_at, four_wide, bits_float, bits_byte, component_not}
use Rattle.lookup.proofs.vector.component_bits.Goals as goal

pub returns-in_err-place : goal.returns-in_err-place
returns-in_err-place c = handed_on _ _ c.from_residual.ensures.1 ∙ (component_not _ _ (lies_not _ _ _ c.in_err-place.ensures _ refl)).1

pub u32_at-bits-requires : goal.u32_at-bits-requires
u32_at-bits-requires c = four_wide _ _ _ c.in_ok-place.ensures _ _ refl c.if-place-eq0.true

pub bounds-file-place : goal.bounds-file-place
bounds-file-place c =
    let r = value_room_at _ _ _ c.in_ok-place.ensures _ _ refl in
    omega (arith, r.0, r.1)

pub returns-then-place-eq0 : goal.returns-then-place-eq0
returns-then-place-eq0 c = bits_float _ _ _ c.in_ok-place.ensures _ _ refl _ c.if-place-eq0.true c.u32_at-bits.ensures

pub returns-else-place-eq0 : goal.returns-else-place-eq0
returns-else-place-eq0 c = bits_byte _ _ _ c.in_ok-place.ensures _ _ refl c.if-place-eq0.false
