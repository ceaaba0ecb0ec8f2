-- What document 02's §11 promises of later appends: lists of appends run on a file and on the one that compaction wrote of it. Definitions only; the
-- theorem stands in LaterHolds.antt.
-- Assumes nothing.
use Rattle.std.specs.Prelude.{ℕ, ◌≤◌, ◌≡◌, List, [], ◌∷◌, length, get_or}
use Rattle.std.proofs.Math.Option.{some}
use Rattle.answers.specs.limits.Limits.{max_file}
use Rattle.answers.specs.Answer.{Answer, Accepted, Refusal}
use Rattle.segment.specs.chain.Chain.{Found}
use Rattle.segment.specs.Header.{Link}
use Rattle.manifest.specs.Opening.{opened}
use Rattle.compacting.specs.Compact.{copied}
use Rattle.compacting.specs.Promise.{unplaced, SameAnswers}
use Rattle.claim.specs.Demand3.{Call, is_accepted}

-- two lists of calls, one by one
unfoldable pub Each : (Call → Call → Type 0) → List Call → List Call → Type 0
Each P [] [] = Unit {0}
Each P [] (d ∷ ds) = ⊥
Each P (c ∷ cs) [] = ⊥
Each P (c ∷ cs) (d ∷ ds) = P c d × Each P cs ds

-- two calls with the same arguments, both accepted or both refused
pub record SameCall (c d : Call) : Type 0 where
  pub batch : c.batch ≡ d.batch
  pub retiring : c.retiring ≡ d.retiring
  pub timestamp : c.timestamp ≡ d.timestamp
  pub accepted : is_accepted c.answer ≡ is_accepted d.answer

-- 'as long as both files accept and refuse the same ones'
abbrev pub SameCalls : List Call → List Call → Type 0
SameCalls = Each SameCall

-- the manifest's id that an accepted append answers
unfoldable pub id_answered : Answer → ℕ
id_answered (Accepted vs) = get_or vs 1 0
id_answered (Refusal n vs) = 0

-- 'gets the ids it would have got on the old file'
abbrev pub SameIds : List Call → List Call → Type 0
SameIds = Each (λ c d. id_answered c.answer ≡ id_answered d.answer)

-- two files in step: their manifests have one id, from which the next append's ids go on; their live segments other than manifests are alike, ids
-- and all, but for their places; and so every vector answer is the same
pub record InStep (f g : List ℕ) : Type 0 where
  pub found : Found Link
  pub found' : Found Link
  pub opens : opened f ≡ some found
  pub opens' : opened g ≡ some found'
  pub within : length f ≤ max_file
  pub within' : length g ≤ max_file
  pub manifest : found.link.id ≡ found'.link.id
  pub segments : unplaced (copied found) ≡ unplaced (copied found')
  pub answers : SameAnswers f g (copied found)
