use Rattle.std.proofs.Common.{sym, ◌∙◌}
use Rattle.answers.proofs.HandedOn.{handed_on}
use Rattle.vec_read.proofs.walk.WalkLaws.{summed_bad, summed_sound}
use Rattle.vec_read.proofs.walk.check_summed.Goals as goal

pub returns-in_err-searched : goal.returns-in_err-searched
returns-in_err-searched c = handed_on _ _ c.from_residual.ensures.1 ∙ summed_bad _ _ (sym c.in_err-searched.ensures)

pub returns : goal.returns
returns c = summed_sound _ _ (sym c.in_ok-searched.ensures)
