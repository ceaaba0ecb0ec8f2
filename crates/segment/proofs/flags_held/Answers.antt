use Rattle.std.proofs.Common.{refl}
use Rattle.segment.specs.Header.{flags_held}
use Rattle.segment.proofs.flags_held.Goals as goal

pub returns : goal.returns
unfolding flags_held
returns c = refl
