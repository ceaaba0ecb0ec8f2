-- THE THEOREM about later appends: run on a file and on the one that compaction wrote of it they get the same ids and leave the same answers; and demand
-- 3 starts anew from the written file.
-- Assumes nothing.
use Rattle.std.specs.Prelude.{ℕ, ◌≡◌, refl, List}
use Rattle.octets.specs.le.Le.{Bytes}
use Rattle.segment.specs.Written.{link_of}
use Rattle.compacting.specs.Compact.{fresh_found, fresh_manifest, compact_case}
use Rattle.std.specs.Prelude.{Ok}
use Rattle.compacting.specs.Promise.{Compaction, written_file}
use Rattle.compacting.proofs.Theorem.{compacted}
use Rattle.claim.specs.Model.{model_of}
use Rattle.claim.specs.Demand3.{Call, Run, Starts, opens}
use Rattle.claim.specs.Later.{SameCalls, SameIds, InStep}
use Rattle.claim.proofs.InStepHolds.{later}

in_step : (f buf : List ℕ) (end id count : ℕ) → Compaction f buf end id count → InStep f (written_file f buf end)
unfolding fresh_manifest link_of
in_step f buf end id count c =
    record {
      found = c.found;
      found' = fresh_found c.found;
      opens = c.opens;
      opens' = c.reopens;
      within = c.in_limit;
      within' = c.within;
      manifest = refl;
      segments = c.alike;
      answers = c.answers;
    }

-- 'Demand 3 then starts anew from the written file'
pub starts_anew : (f buf : List ℕ) (end id count : ℕ) → (c : Compaction f buf end id count) → Starts (written_file f buf end) (model_of (fresh_found c.found))
starts_anew f buf end id count c = opens c.within c.reopens

-- 'A list of later appends gets the ids it would have got on the old file, as long as both files accept and refuse the same ones'; every prefix of
-- the lists is such a pair too, so it holds after each call
pub later_appends : {f f' g' : List ℕ} {cs ds : List Call} (buf : List ℕ) (end id count : ℕ) → Bytes f → compact_case f buf ≡ Ok (record { end = end; id = id; count = count })
    → Run f cs f' → Run (written_file f buf end) ds g' → SameCalls cs ds → SameIds cs ds × InStep f' g'
later_appends {f = f} buf end id count t e r r' s = later r r' s (in_step f buf end id count (compacted f buf end id count t e))
