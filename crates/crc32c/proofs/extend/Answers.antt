-- By each of the three ways.
use mathlib.Core.Path.{refl, ◌∙◌}
use Rattle.crc32c.proofs.ExtendLaws.{extended_by}
use Rattle.crc32c.proofs.extend.Goals as goal

pub returns-then-data-lt-LONG : goal.returns-then-data-lt-LONG
returns-then-data-lt-LONG c = c.by_lanes.ensures ∙ extended_by c.args.sum c.args.«data».now _ _ refl refl

pub returns-then-data-lt-LONGEST : goal.returns-then-data-lt-LONGEST
returns-then-data-lt-LONGEST c = c.by_near.ensures ∙ extended_by c.args.sum c.args.«data».now _ _ refl refl

pub returns : goal.returns
returns c = c.by_far.ensures ∙ extended_by c.args.sum c.args.«data».now _ _ refl refl
