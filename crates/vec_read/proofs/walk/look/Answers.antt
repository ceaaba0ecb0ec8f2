use Rattle.vec_read.proofs.walk.WalkLaws.{asked_not, asked_so}
use Rattle.vec_read.proofs.walk.look.Goals as goal

pub returns-in-None : goal.returns-in-None
returns-in-None c = asked_not _ _ c.in-None.is

pub returns-in-Some : goal.returns-in-Some
returns-in-Some c = asked_so _ _ _ _ c.in-Some.is c.index_of.ensures
