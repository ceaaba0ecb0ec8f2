-- A part of the buffer comes back as zeros.
use Rattle.octets.proofs.Parts.{cleared}
use Rattle.octets.proofs.clear_part.Goals as goal

pub returns : goal.returns
returns c = cleared _ _ _ _ c.requires.0 c.requires.1 c.clear.ensures
