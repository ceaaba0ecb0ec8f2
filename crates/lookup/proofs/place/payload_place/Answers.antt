-- `lookup::place::payload_place` meets its contract, by what opening answers.
use Rattle.std.proofs.Common.{◌∙◌}
use Rattle.answers.proofs.HandedOn.{handed_on}
use Rattle.lookup.proofs.place.Find.{place_refused}
use Rattle.lookup.proofs.place.payload_place.Goals as goal

pub returns-in_err-directory : goal.returns-in_err-directory
returns-in_err-directory c = handed_on _ _ c.from_residual.ensures.1 ∙ place_refused _ _ _ c.in_err-directory.ensures.err
