-- The part of the buffer comes back with the bytes at its front.
use Rattle.std.proofs.Common.{refl}
use Rattle.octets.proofs.Parts.{back}
use Rattle.octets.proofs.text.put_bytes.Goals as goal

pub returns : goal.returns
returns c = record { room = c.requires; ends = refl; holds = back _ _ _ _ c.copy.ensures c.requires }
