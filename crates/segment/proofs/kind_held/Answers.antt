use Rattle.std.proofs.Common.{arith}
use Rattle.segment.proofs.HeaderLaws.{kind_byte}
use Rattle.segment.proofs.kind_held.Goals as goal

pub returns : goal.returns
returns c = kind_byte c.args.kind (omega arith)
