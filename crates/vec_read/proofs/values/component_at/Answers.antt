use Rattle.std.proofs.Common.{◌≡◌, ap, ◌∙◌, rules, arith, to_z, of_z}
use Rattle.std.specs.Int.{w8}
use Rattle.vecseg.specs.Payload.{width}
use Rattle.vecseg.specs.declared.Component.TheVariants.{Float, Signed}
use Rattle.vec_read.proofs.values.Bytes.{signed_is}
use Rattle.vec_read.proofs.values.Component.{component_float, component_signed, component_unsigned}
use Rattle.vec_read.proofs.values.component_at.Goals as goal

pub u32_at-requires : goal.u32_at-requires
unfolding width
u32_at-requires c = rw c.if-dtype-eq0.true at c.requires.1

pub returns-then-dtype-eq0 : goal.returns-then-dtype-eq0
returns-then-dtype-eq0 c =
    ap Float c.f32_from_bits_with_nan.ensures ∙ component_float c.args.s.now c.args.at _ _ c.if-dtype-eq0.true c.u32_at.ensures

pub returns-then-dtype-eq3 : goal.returns-then-dtype-eq3
returns-then-dtype-eq3 c =
    let e : to_z w8 (of_z w8 c.cast_signed.result) ≡ c.cast_signed.result = search rules in
    ap Signed (e ∙ c.cast_signed.ensures ∙ signed_is _ (omega arith)) ∙ component_signed c.args.s.now c.args.at _ c.if-dtype-eq3.true

pub returns : goal.returns
returns c = component_unsigned c.args.s.now c.args.at _ c.if-dtype-eq0.false c.if-dtype-eq3.false c.requires.0
