use Rattle.std.proofs.Common.{sym}
use Rattle.crc32c.proofs.Ahead.{four_words_factors}
use Rattle.crc32c.proofs.FourWordsDistance.FACTORS.Goals as goal

pub returns : goal.returns
returns c = sym four_words_factors
