-- The check of one body by its type, with its checksum; the ways out of it; and where a loop over the bodies stands.
-- The laws stand in proofs/vectors/Vectors.antt. Definitions only.
-- Assumes nothing.
use Rattle.std.specs.Prelude.{ℕ, List, map, Result, Ok}
use Rattle.std.proofs.Math.Bool.{cond}
use Rattle.std.proofs.Math.Dec.{eqb}
use Rattle.crc32c.specs.Crc.{crc_of}
use Rattle.vecseg.specs.Payload.{vec_kind}
use Rattle.vec_read.specs.walk.Walk.{summed_of}
use Rattle.batch.specs.Form.{Body}

-- what the check of a body answers: its checksum, or the number that refuses it
unfoldable pub body_summed : Body → Result ℕ ℕ
body_summed b = cond (eqb b.kind vec_kind) (summed_of b.payload) (Ok (crc_of b.payload))

-- the checksums of bodies
unfoldable pub body_sums : List Body → List ℕ
body_sums bs = map (λ b. crc_of b.payload) bs
