use Rattle.std.proofs.Common.{refl}
use Rattle.crc32c.specs.Start.{size_of}
use Rattle.crc32c.proofs.window.NearMultiple.LONG.Goals as goal

pub returns : goal.returns
unfolding size_of
returns c = refl
