-- `lookup::payload::payload` meets its contract: the number of the place, and the part that lies there.
use Rattle.std.proofs.Common.{subst, sym, ◌∙◌}
use Rattle.answers.proofs.HandedOn.{handed_number}
use Rattle.reading.specs.PartLaws.{Hands}
use Rattle.reading.proofs.PartLaws.{number_same, number_not, number_at, hands_part}
use Rattle.lookup.proofs.payload.payload.Goals as goal

pub returns-in_err-place-clause-number : goal.returns-in_err-place-clause-number
returns-in_err-place-clause-number c =
    handed_number _ _ c.from_residual.ensures.1 ∙ number_not _ _ (sym c.in_err-place.ensures) ∙ number_same _

pub returns-clause-number : goal.returns-clause-number
returns-clause-number c = number_at _ _ _ (sym c.in_ok-place.ensures) ∙ number_same _

pub returns-clause-part : goal.returns-clause-part
returns-clause-part c =
    hands_part c.part_at.result c.args.file c.args.id (subst (Hands c.part_at.result c.args.file) c.in_ok-place.ensures c.part_at.ensures)
