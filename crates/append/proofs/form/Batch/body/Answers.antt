-- A body is the part of the batch that its line says.
use Rattle.std.proofs.Common.{arith, ap}
use Rattle.batch.proofs.Lines.{body_at}
use Rattle.std.specs.Prelude.{length}
use Rattle.batch.proofs.Lines.{held_bounds}
use Rattle.append.proofs.bodies.Laid.{body_part}
use Rattle.append.proofs.form.Batch.body.Goals as goal

pub overflow_mul-line : goal.overflow_mul-line
overflow_mul-line c = omega (arith, (body_at c.args.self.now.bytes.now c.args.self.now.held c.args.j c.requires).line_room)

pub overflow_add-line : goal.overflow_add-line
overflow_add-line c = omega (arith, (body_at c.args.self.now.bytes.now c.args.self.now.held c.args.j c.requires).line_room)

pub overflow_add-line-2 : goal.overflow_add-line-2
overflow_add-line-2 c = omega (arith, (body_at c.args.self.now.bytes.now c.args.self.now.held c.args.j c.requires).line_room)

pub u32_at-from-requires : goal.u32_at-from-requires
u32_at-from-requires c = omega (arith, (body_at c.args.self.now.bytes.now c.args.self.now.held c.args.j c.requires).line_room)

pub overflow_add-line-3 : goal.overflow_add-line-3
overflow_add-line-3 c = omega (arith, (body_at c.args.self.now.bytes.now c.args.self.now.held c.args.j c.requires).line_room)

pub u32_at-requires : goal.u32_at-requires
u32_at-requires c = omega (arith, (body_at c.args.self.now.bytes.now c.args.self.now.held c.args.j c.requires).line_room)

pub slice_bounds-result-end : goal.slice_bounds-result-end
slice_bounds-result-end c = omega (arith, (body_at c.args.self.now.bytes.now c.args.self.now.held c.args.j c.requires).room, c.u32_at-from.ensures, c.u32_at.ensures)

pub returns-clause-bytes : goal.returns-clause-bytes
returns-clause-bytes c = body_part _ _ (body_at c.args.self.now.bytes.now c.args.self.now.held c.args.j c.requires) _ _ c.u32_at-from.ensures c.u32_at.ensures

pub returns-clause-bound : goal.returns-clause-bound
returns-clause-bound c =
    let a = body_at c.args.self.now.bytes.now c.args.self.now.held c.args.j c.requires in
    omega (arith, ap length (body_part _ _ a _ _ c.u32_at-from.ensures c.u32_at.ensures), a.payload_length_is, a.room, held_bounds c.args.self.now.bytes.now c.args.self.now.held)
