-- The laws of specs/commit/Answer.antt.
-- Assumes nothing.
use Rattle.std.specs.Prelude.{ℕ, ◌≡◌, true, false, List}
use Rattle.batch.specs.Form.{batch_held, bodies_of}
use Rattle.appending.specs.Append.{vectors_bad}
use Rattle.append.specs.commit.Answer.{batch_number}
use Rattle.append.specs.form.Number.{form_number}
use Rattle.std.specs.Prelude.{Bool, cond, ◌<◌}
use Rattle.std.proofs.Common.{sym, ap, refl, arith, ◌∙◌}

pub number_form : (batch : List ℕ) → batch_held batch ≡ false → 10 ≡ batch_number batch
unfolding batch_number
number_form batch e = rw e

pub number_vectors : (batch : List ℕ) (v : ℕ) → batch_held batch ≡ true → v ≡ vectors_bad (bodies_of batch) → v ≡ batch_number batch
unfolding batch_number
number_vectors batch v e q = rw e q

-- a batch that is not read is refused for its form, and one that is read for its bodies
pub number_unread : (batch : List ℕ) (n : ℕ) → n ≡ form_number batch → 0 < n → n ≡ batch_number batch
unfolding form_number
number_unread batch n e h = go (batch_held batch) refl e
  where
    go : (t : Bool) → batch_held batch ≡ t → n ≡ cond t 0 10 → n ≡ batch_number batch
    go true q z = absurd (omega arith)
    go false q z = z ∙ number_form batch q

pub number_read : (batch read : List ℕ) (n : ℕ) → batch_held read ≡ true → read ≡ batch → n ≡ vectors_bad (bodies_of read) → n ≡ batch_number batch
number_read batch read n held e v = number_vectors batch n (ap batch_held (sym e) ∙ held) (v ∙ ap (λ (s : List ℕ). vectors_bad (bodies_of s)) e)
