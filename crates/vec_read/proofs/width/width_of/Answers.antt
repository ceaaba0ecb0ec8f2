use Rattle.std.proofs.Common.{arith}
use Rattle.vecseg.proofs.LineLaws.{width_f32, width_byte, width_unsigned, width_none}
use Rattle.vec_read.proofs.width.width_of.Goals as goal

pub returns-in-0 : goal.returns-in-0
returns-in-0 c = width_f32 _ c.in-0.is

pub returns-in-3 : goal.returns-in-3
returns-in-3 c = width_byte _ c.in-3.is

pub returns-in-4 : goal.returns-in-4
returns-in-4 c = width_unsigned _ c.in-4.is

pub returns-in_default : goal.returns-in_default
returns-in_default c = width_none _ (λ e. omega arith) (λ e. omega arith) (λ e. omega arith)
