-- The header's hash is compared with the one that the checksum makes.
use Rattle.segment.proofs.HeaderLaws.{hash_of}
use Rattle.segment.proofs.StepLaws.{whole_by}
use Rattle.segment.proofs.is_whole_by.Goals as goal

pub returns : goal.returns
returns c = whole_by _ _ _ _ _ c.same.ensures (hash_of _ _ _ c.requires.sum_value c.hash_by-hash.ensures)
