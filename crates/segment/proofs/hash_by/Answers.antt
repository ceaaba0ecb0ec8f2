-- The checksum is laid over zeros.
use Rattle.segment.proofs.HeaderLaws.{hash_laid}
use Rattle.segment.proofs.hash_by.Goals as goal

pub returns : goal.returns
returns c = hash_laid _ _ c.put.ensures
