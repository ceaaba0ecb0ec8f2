-- The exported opening's number and array, case by case.
-- Assumes nothing.
use Rattle.std.specs.Prelude.{ℕ, ◌≡◌, refl, List, [], ◌∷◌, set, Ok, Err}
use Rattle.std.proofs.lemmas.List.Edits.{sets}
use Rattle.answers.specs.Answer.{number}
use Rattle.manifest.specs.Opening.{open_answer, opened_answer, opened_case, open_out}
use Rattle.manifest.specs.declared.Opened.TheVariants.{At, NoManifest}

-- ---- the exported call's number and array, case by case

pub out_opened : (f out : List ℕ) (offset end id count t : ℕ) → Ok (At offset end id count t) ≡ opened_case f
    → (0 ≡ number (open_answer f)) × (sets out 0 (offset ∷ end ∷ id ∷ count ∷ t ∷ []) ≡ open_out out (open_answer f))
unfolding open_answer opened_answer number open_out
out_opened f out offset end id count t e = rw (← e) (refl, refl)

pub out_none : (f out : List ℕ) (t : ℕ) → Ok (NoManifest t) ≡ opened_case f → (2 ≡ number (open_answer f)) × (set out 4 t ≡ open_out out (open_answer f))
unfolding open_answer opened_answer number open_out
out_none f out t e = rw (← e) (refl, refl)

pub out_refused : (f out : List ℕ) (n : ℕ) → Err n ≡ opened_case f → (n ≡ number (open_answer f)) × (out ≡ open_out out (open_answer f))
unfolding open_answer opened_answer number open_out
out_refused f out n e = rw (← e) (refl, refl)
