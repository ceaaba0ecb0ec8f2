use Rattle.std.proofs.Common.{refl}
use Rattle.vec_read.proofs.walk.SumLaws.{sum_not, sum_last}
use Rattle.vec_read.proofs.walk.sum_all.Goals as goal

pub returns-then-not-summed : goal.returns-then-not-summed
returns-then-not-summed c = sum_not _ _ c.if-not-summed.true

pub returns : goal.returns
returns c = sum_last _ _ _ _ _ c.requires c.if-not-summed.false refl _ c.extend.ensures
