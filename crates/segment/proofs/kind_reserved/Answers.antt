use Rattle.std.proofs.Common.{rules}
use Rattle.segment.specs.Header.{type_reserved}
use Rattle.segment.proofs.kind_reserved.Goals as goal

pub returns : goal.returns
unfolding type_reserved
returns c = search rules
