-- Whether the bytes have the form is what the check says.
use Rattle.std.proofs.Common.{sym, refl, ◌∙◌}
use Rattle.append.specs.form.Number.{form_number}
use Rattle.append.proofs.form.Batch.read.Goals as goal

pub returns-then-not-check-clause-answer : goal.returns-then-not-check-clause-answer
unfolding form_number
returns-then-not-check-clause-answer c = rw (sym c.check.ensures ∙ c.if-not-check.true) refl

pub returns-clause-answer : goal.returns-clause-answer
unfolding form_number
returns-clause-answer c = rw (sym c.check.ensures ∙ c.if-not-check.false) refl
