-- `append::read_batch` meets its contract: the form, then the vector bodies.
use Rattle.std.proofs.Common.{subst, ◌∙◌}
use Rattle.std.specs.Prelude.{ℕ, ◌≡◌, List, take}
use Rattle.answers.proofs.HandedOn.{handed_number, number_some}
use Rattle.batch.specs.Form.{body_count, bodies_of}
use Rattle.append.specs.vectors.Vectors.{body_sums}
use Rattle.append.proofs.commit.Answer.{number_unread, number_read}
use Rattle.append.proofs.read_batch.Goals as goal

pub returns-in_err-batch-clause-answer : goal.returns-in_err-batch-clause-answer
returns-in_err-batch-clause-answer c = handed_number _ _ c.from_residual.ensures.1 ∙ number_unread _ _ c.in_err-batch.ensures.answer (number_some _)

pub returns-in_err-check_vectors-clause-answer : goal.returns-in_err-check_vectors-clause-answer
returns-in_err-check_vectors-clause-answer c =
    handed_number _ _ c.from_residual-in_err-check_vectors.ensures.1
    ∙ number_read _ _ _ c.in_ok-batch.batch.held c.in_ok-batch.ensures.bytes c.in_err-check_vectors.ensures.answer

pub returns-clause-answer : goal.returns-clause-answer
returns-clause-answer c = number_read _ _ _ c.in_ok-batch.batch.held c.in_ok-batch.ensures.bytes c.in_ok-check_vectors.ensures.answer

pub returns-clause-sums : goal.returns-clause-sums
returns-clause-sums c = subst (λ (s : List ℕ). take (body_count s) c.check_vectors.new.sums ≡ body_sums (bodies_of s)) c.in_ok-batch.ensures.bytes c.in_ok-check_vectors.ensures.sums
