-- `append::commit::next_id` meets its contract, by whether an id is before.
use Rattle.std.proofs.Common.{arith}
use Rattle.append.proofs.commit.CommitLaws.{next_first, next_later}
use Rattle.append.proofs.commit.next_id.Goals as goal

pub returns-in-None : goal.returns-in-None
returns-in-None c = next_first _ c.in-None.is

pub overflow_add-result : goal.overflow_add-result
overflow_add-result c = omega (arith, next_later c.args.last _ c.in-Some.is, c.requires)

pub returns-in-Some : goal.returns-in-Some
returns-in-Some c = next_later _ _ c.in-Some.is
