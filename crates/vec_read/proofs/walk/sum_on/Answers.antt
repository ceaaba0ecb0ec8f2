use Rattle.vec_read.proofs.walk.SumLaws.{sum_joined}
use Rattle.vec_read.proofs.walk.sum_on.Goals as goal

pub returns : goal.returns
returns c = sum_joined _ _ _ _ _ c.requires.0 c.if-not-summed.false _ _ _ c.requires.1.begins c.extend-before.ensures c.extend_by.ensures
