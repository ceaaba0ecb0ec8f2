use Rattle.std.proofs.Common.{sym}
use Rattle.crc32c.proofs.Ahead.{one_word_factors}
use Rattle.crc32c.proofs.OneWordDistance.FACTORS.Goals as goal

pub returns : goal.returns
returns c = sym one_word_factors
