use Rattle.std.proofs.Common.{sym, ◌∙◌}
use Rattle.answers.proofs.HandedOn.{handed_on}
use Rattle.idmap_read.proofs.delta.Next.{at_bad, at_refused, at_id}
use Rattle.idmap_read.proofs.delta.id_at.Goals as goal

pub returns-in_err-v : goal.returns-in_err-v
returns-in_err-v c = handed_on _ _ c.from_residual.ensures.1 ∙ at_bad _ _ _ _ _ _ (sym c.in_err-v.ensures)

pub returns-in_err-id : goal.returns-in_err-id
returns-in_err-id c =
    handed_on _ _ c.from_residual-in_err-id.ensures.1 ∙ at_refused _ _ _ _ _ _ _ (sym c.in_ok-v.ensures) _ (sym c.in_err-id.ensures)

pub returns : goal.returns
returns c = at_id _ _ _ _ _ _ _ (sym c.in_ok-v.ensures) _ (sym c.in_ok-id.ensures)
