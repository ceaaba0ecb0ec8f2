-- By each of the three ways.
use mathlib.Core.Path.{refl, ◌∙◌}
use Rattle.crc32c.proofs.Words.{crc_of_by}
use Rattle.crc32c.proofs.checksum.Goals as goal

pub returns-then-data-lt-LONG : goal.returns-then-data-lt-LONG
returns-then-data-lt-LONG c = c.by_lanes.ensures ∙ crc_of_by c.args.«data».now _ refl

pub returns-then-data-lt-LONGEST : goal.returns-then-data-lt-LONGEST
returns-then-data-lt-LONGEST c = c.by_near.ensures ∙ crc_of_by c.args.«data».now _ refl

pub returns : goal.returns
returns c = c.by_far.ensures ∙ crc_of_by c.args.«data».now _ refl
