-- The flags stand in the line.
use Rattle.std.proofs.Common.{arith, sym, ◌∙◌}
use Rattle.batch.proofs.Lines.{body_at}
use Rattle.append.proofs.form.Batch.flags.Goals as goal

pub overflow_mul-j : goal.overflow_mul-j
overflow_mul-j c = omega (arith, (body_at c.args.self.now.bytes.now c.args.self.now.held c.args.j c.requires).line_room)

pub overflow_add-j : goal.overflow_add-j
overflow_add-j c = omega (arith, (body_at c.args.self.now.bytes.now c.args.self.now.held c.args.j c.requires).line_room)

pub overflow_add-j-2 : goal.overflow_add-j-2
overflow_add-j-2 c = omega (arith, (body_at c.args.self.now.bytes.now c.args.self.now.held c.args.j c.requires).line_room)

pub u16_at-requires : goal.u16_at-requires
u16_at-requires c = omega (arith, (body_at c.args.self.now.bytes.now c.args.self.now.held c.args.j c.requires).line_room)

pub returns : goal.returns
returns c = c.u16_at.ensures ∙ sym (body_at c.args.self.now.bytes.now c.args.self.now.held c.args.j c.requires).flags_is
