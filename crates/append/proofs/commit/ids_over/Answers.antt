-- `append::commit::ids_over` meets its contract, by whether an id is before.
use Rattle.std.proofs.Common.{arith}
use Rattle.append.proofs.commit.CommitLaws.{over_first, over_later}
use Rattle.append.proofs.commit.ids_over.Goals as goal

pub returns-in-None : goal.returns-in-None
returns-in-None c = over_first _ _ c.in-None.is c.requires

pub returns-in-Some : goal.returns-in-Some
returns-in-Some c = over_later _ _ _ c.in-Some.is (omega arith)
