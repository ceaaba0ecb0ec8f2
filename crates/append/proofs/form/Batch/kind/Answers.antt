-- The type stands in the line.
use Rattle.std.proofs.Common.{arith, sym}
use Rattle.batch.proofs.Lines.{body_at}
use Rattle.append.proofs.form.Batch.kind.Goals as goal

pub overflow_mul-result : goal.overflow_mul-result
overflow_mul-result c = omega (arith, (body_at c.args.self.now.bytes.now c.args.self.now.held c.args.j c.requires).line_room)

pub overflow_add-result : goal.overflow_add-result
overflow_add-result c = omega (arith, (body_at c.args.self.now.bytes.now c.args.self.now.held c.args.j c.requires).line_room)

pub bounds-self-j : goal.bounds-self-j
bounds-self-j c = omega (arith, (body_at c.args.self.now.bytes.now c.args.self.now.held c.args.j c.requires).line_room)

pub returns : goal.returns
returns c = sym (body_at c.args.self.now.bytes.now c.args.self.now.held c.args.j c.requires).kind_is
