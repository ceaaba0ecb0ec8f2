use Rattle.std.proofs.Common.{sym, ◌∙◌}
use Rattle.answers.proofs.HandedOn.{handed_number}
use Rattle.vec_read.proofs.walk.WalkLaws.{was_bad, was_sound}
use Rattle.vec_read.proofs.check.check.Goals as goal

pub returns-in_err-walk : goal.returns-in_err-walk
returns-in_err-walk c = handed_number _ _ c.from_residual.ensures.1 ∙ (was_bad _ _ _ _ (sym c.in_err-walk.ensures)).0

pub returns : goal.returns
returns c = sym (was_sound _ _ _ _ (sym c.in_ok-walk.ensures)).0
