-- The number of bodies stands at the front.
use Rattle.std.proofs.Common.{arith}
use Rattle.batch.proofs.Lines.{count_is, held_bounds}
use Rattle.append.proofs.form.Batch.count.Goals as goal

pub u32_at-requires : goal.u32_at-requires
u32_at-requires c = omega (arith, held_bounds c.args.self.now.bytes.now c.args.self.now.held)

pub returns-clause-count : goal.returns-clause-count
returns-clause-count c = count_is c.args.self.now.bytes.now _ c.u32_at.ensures

pub returns-clause-bound : goal.returns-clause-bound
returns-clause-bound c = omega (arith, count_is c.args.self.now.bytes.now _ c.u32_at.ensures, held_bounds c.args.self.now.bytes.now c.args.self.now.held)
