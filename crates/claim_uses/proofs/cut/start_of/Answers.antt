-- `start_of` meets its contract, by what opening answers.
use Rattle.std.proofs.Common.{sym, ap, ◌∙◌}
use Rattle.std.specs.Prelude.{Ok}
use Rattle.claim_uses.proofs.cut.CutReadLaws.{start_refused, start_none, start_at}
use Rattle.claim_uses.proofs.cut.start_of.Goals as goal

pub returns-in-Ok-At : goal.returns-in-Ok-At
returns-in-Ok-At c = λ h. start_at _ _ _ _ _ _ (sym c.in-Ok-At.ensures ∙ ap Ok c.in-Ok-At.field-0-is)

pub returns-in-Ok-NoManifest : goal.returns-in-Ok-NoManifest
returns-in-Ok-NoManifest c = λ h. start_none _ _ (sym c.in-Ok-NoManifest.ensures ∙ ap Ok c.in-Ok-NoManifest.field-0-is)

pub returns-in-Err : goal.returns-in-Err
returns-in-Err c = λ h. start_refused _ _ (sym c.in-Err.ensures) h
