-- What is promised of two appends to an empty file and an opening: what the model holds after them. Definitions only.
-- Assumes nothing.
use Rattle.std.specs.Prelude.{ℕ, ◌≡◌, true, List, [], ◌∷◌, length, get_or}
use Rattle.std.proofs.Math.Option.{some}
use Rattle.answers.specs.Answer.{Answer, Accepted, Refusal, refusal_number}
use Rattle.appending.specs.Append.{append_answer, append_buffer}
use Rattle.claim.specs.Model.{Entry, Model, empty_model, feed_all}
use Rattle.claim_uses.specs.declared.twice.Twice.{Twice}
use Rattle.answers.specs.declared.Refusal.{Refusal as RefusalName}
use Rattle.std.specs.Prelude.{Result, Ok, Err, Some, None}
use Rattle.std.specs.Prelude.{Option as Maybe}

-- the model after the two calls, both accepted
unfoldable pub twice_model : List ℕ → List ℕ → List ℕ → ℕ → Model
twice_model first second ids ts =
    feed_all
    (record { batch = first; retiring = []; timestamp = ts; accepted = true } ∷ record { batch = second; retiring = ids; timestamp = ts; accepted = true } ∷ [])
    empty_model

-- what the second append answers and leaves, where the first was accepted; else what the first does
unfoldable pub later_answer : List ℕ → Answer → List ℕ → List ℕ → Answer
later_answer new (Accepted vs) second ids = append_answer new (get_or vs 0 0) second ids
later_answer new (Refusal n us) second ids = Refusal n us

unfoldable pub later_buffer : List ℕ → Answer → List ℕ → List ℕ → ℕ → List ℕ
later_buffer new (Accepted vs) second ids ts = append_buffer new (get_or vs 0 0) second ids ts
later_buffer new (Refusal n us) second ids ts = new

unfoldable pub twice_answer : List ℕ → List ℕ → List ℕ → List ℕ → ℕ → Answer
twice_answer old first second ids ts = later_answer (append_buffer old 0 first [] ts) (append_answer old 0 first []) second ids

unfoldable pub twice_buffer : List ℕ → List ℕ → List ℕ → List ℕ → ℕ → List ℕ
twice_buffer old first second ids ts = later_buffer (append_buffer old 0 first [] ts) (append_answer old 0 first []) second ids ts

-- what is promised: where both appends are accepted, opening answers what the second reported, and that is the model's manifest and end and the number
-- of its entries; it is never without a manifest; a refusal is an append's
unfoldable pub TwicePromise : List ℕ → List ℕ → List ℕ → List ℕ → ℕ → Result (Maybe Twice) RefusalName → Type 0
TwicePromise old first second ids ts (Ok (Some a)) =
    (Accepted (a.end ∷ a.id ∷ a.count ∷ []) ≡ twice_answer old first second ids ts)
    × ((m : Entry)
    × (((twice_model first second ids ts).manifest ≡ some m)
    × ((a.offset ≡ m.link.offset) × ((a.end ≡ (twice_model first second ids ts).end) × ((a.id ≡ m.link.id) × (a.count ≡ length (twice_model first second ids ts).entries))))))
TwicePromise old first second ids ts (Ok None) = ⊥
TwicePromise old first second ids ts (Err e) = Refusal (refusal_number e) [] ≡ twice_answer old first second ids ts
