-- What is promised of a compaction, an append to the fresh file and an opening: what the model holds that starts anew from the fresh file. Definitions
-- only.
-- Assumes nothing.
use Rattle.std.specs.Prelude.{ℕ, ◌≡◌, true, List, [], ◌∷◌, length}
use Rattle.std.proofs.Math.Option.{some}
use Rattle.answers.specs.Answer.{Answer, Accepted, Refusal, refusal_number}
use Rattle.segment.specs.chain.Chain.{Found}
use Rattle.segment.specs.Header.{Link}
use Rattle.manifest.specs.Opening.{opened}
use Rattle.manifest.specs.declared.Opened.{Opened}
use Rattle.manifest.specs.declared.Opened.TheVariants.{At, NoManifest}
use Rattle.answers.specs.declared.Refusal.{Refusal as RefusalName}
use Rattle.std.specs.Prelude.{Result, Ok, Err}
use Rattle.compacting.specs.Compact.{fresh_found, compact_case, compacted_answer, compact_buffer}
use Rattle.claim.specs.Model.{Entry, Model, model_of, feed_all}
use Rattle.claim_uses.specs.twice.Twice.{later_answer, later_buffer}

-- the model of the fresh file after the call, accepted
unfoldable pub anew_model : Found Link → List ℕ → List ℕ → ℕ → Model
anew_model r batch ids ts = feed_all (record { batch = batch; retiring = ids; timestamp = ts; accepted = true } ∷ []) (model_of (fresh_found r))

-- what the append answers and leaves, where compaction was accepted; else what compaction does
unfoldable pub anew_answer : List ℕ → List ℕ → List ℕ → List ℕ → Answer
anew_answer f buf batch ids = later_answer (compact_buffer f buf) (compacted_answer (compact_case f buf)) batch ids

unfoldable pub anew_buffer : List ℕ → List ℕ → List ℕ → List ℕ → ℕ → List ℕ
anew_buffer f buf batch ids ts = later_buffer (compact_buffer f buf) (compacted_answer (compact_case f buf)) batch ids ts

-- where both are accepted, opening answers what the append reported, and that is the model's manifest and end and the number of its entries; it is
-- never without a manifest; a refusal is compaction's or the append's
unfoldable pub AnewPromise : List ℕ → List ℕ → List ℕ → List ℕ → ℕ → Result Opened RefusalName → Type 0
AnewPromise f buf batch ids ts (Ok (At offset end id count tried)) =
    (Accepted (end ∷ id ∷ count ∷ []) ≡ anew_answer f buf batch ids)
    × ((r : Found Link)
    × ((opened f ≡ some r)
    × ((m : Entry)
    × (((anew_model r batch ids ts).manifest ≡ some m)
    × ((offset ≡ m.link.offset) × ((end ≡ (anew_model r batch ids ts).end) × ((id ≡ m.link.id) × (count ≡ length (anew_model r batch ids ts).entries))))))))
AnewPromise f buf batch ids ts (Ok (NoManifest tried)) = ⊥
AnewPromise f buf batch ids ts (Err e) = Refusal (refusal_number e) [] ≡ anew_answer f buf batch ids
