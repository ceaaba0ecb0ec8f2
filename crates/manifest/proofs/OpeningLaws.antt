-- What a reading call answers on two files that open alike, and the cases of opening.
-- Assumes nothing.
use Rattle.std.specs.Prelude.{ℕ, ◌≤◌, ◌<◌, ◌≡◌, List, length, Ok, Err}
use Rattle.std.proofs.Common.{sym, ap, ◌∙◌, le-leb}
use Rattle.std.proofs.Math.Option.{Option}
use Rattle.std.proofs.lemmas.Bool.{lt-leb}
use Rattle.answers.specs.limits.Limits.{max_file}
use Rattle.segment.specs.chain.Chain.{Found}
use Rattle.segment.specs.Header.{Link}
use Rattle.manifest.specs.Opening.{opened, at_opened, found_case, opened_case, opened_answer, open_answer}

-- a reading call answers alike on two files that open alike

module _ {A : Type 0} (one : A) (g : Option (Found Link) → A) where
  pub at_long : (f : List ℕ) → max_file < length f → at_opened one g f ≡ one
  unfolding at_opened
  at_long f h = rw (lt-leb (length f) max_file h)

  pub at_within : (f : List ℕ) → length f ≤ max_file → at_opened one g f ≡ g (opened f)
  unfolding at_opened
  at_within f h = rw (le-leb (length f) max_file h)

  pub answers_alike : (f f' : List ℕ) → length f ≤ max_file → length f' ≤ max_file → opened f ≡ opened f' → at_opened one g f ≡ at_opened one g f'
  answers_alike f f' h h' e = at_within f h ∙ ap g e ∙ sym (at_within f' h')

-- opening's answer within the limit
pub open_within : (f : List ℕ) → length f ≤ max_file → open_answer f ≡ opened_answer (Ok (found_case f (opened f)))
unfolding open_answer opened_case
open_within f h = ap opened_answer (at_within (Err 1) (λ o. Ok (found_case f o)) f h)
