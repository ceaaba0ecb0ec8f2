use mathlib.Core.Path.{refl}
use Rattle.octets.specs.Round.{round64}
use Rattle.octets.proofs.round_up.Goals as goal

pub returns : goal.returns
unfolding round64
returns c = refl
