-- What is promised of a vector that is read out of a file whose last append was cut short.
-- Assumes nothing.
use Rattle.std.specs.Prelude.{ℕ, ◌-◌, ◌≤◌, ◌<◌, ◌≡◌, List, [], take, get_or}
use Rattle.answers.specs.Answer.{Accepted, Refusal, refusal_number, numbered}
use Rattle.manifest.specs.Opening.{opened}
use Rattle.reading.specs.Answers.{vector_case, vector_after}
use Rattle.appending.specs.Append.{start_of, append_answer}
use Rattle.claim_uses.specs.declared.cut.CutRead.{CutRead}
use Rattle.claim_uses.specs.declared.cut.CutRead.TheVariants.{Read, NotAppended, NotCut}

-- what is promised: a vector is read where the append was accepted and k leaves not all of its bytes; it is the one of the file before the append, and
-- the buffer for it is what reading that file leaves. Else that buffer is as it was: the append has refused with this number; or it was accepted, and k
-- leaves all of its bytes
unfoldable pub CutReadPromise : List ℕ → ℕ → List ℕ → List ℕ → ℕ → ℕ → List ℕ → List ℕ → CutRead → Type 0
CutReadPromise old n batch ids k id out exit (Read v) =
    ((vs : List ℕ) × ((Accepted vs ≡ append_answer old n batch ids) × (k < get_or vs 0 0 - start_of (opened (take n old)))))
    × ((numbered v ≡ vector_case (take n old) id out) × (exit ≡ vector_after (take n old) id out))
CutReadPromise old n batch ids k id out exit (NotAppended e) = (Refusal (refusal_number e) [] ≡ append_answer old n batch ids) × (exit ≡ out)
CutReadPromise old n batch ids k id out exit NotCut =
    (vs : List ℕ) × ((Accepted vs ≡ append_answer old n batch ids) × ((get_or vs 0 0 - start_of (opened (take n old)) ≤ k) × (exit ≡ out)))
