-- The checksum before goes on as over zeros, and the slice's own is added.
use mathlib.Core.Path.{refl}
use Rattle.crc_join.proofs.Join.{extended_joined}
use Rattle.crc_join.proofs.extend_by.Goals as goal

pub returns : goal.returns
returns c = extended_joined c.args.sum c.args.known c.args.«data».now c.zeros.result _ c.requires c.zeros.ensures.0 refl
