-- The rest of an append, behind the tests of the file, the batch and the ids to retire: its tests and what it writes, as definitions, and its ways out.
-- The laws stand in proofs/commit/CommitLaws.antt. Definitions only.
-- Assumes nothing.
use Rattle.std.specs.Prelude.{ℕ, ◌+◌, ◌-◌, ◌^◌, List, [], ◌∷◌, ◌++◌, ltb, length, take, Some, None}
use Rattle.std.specs.Prelude.{Option as Maybe}
use Rattle.std.proofs.Math.Option.{Option}
use Rattle.octets.specs.Over.{over}
use Rattle.answers.specs.limits.Limits.{max_file, max_entries}
use Rattle.answers.specs.Answer.{Answer, Accepted, Refusal}
use Rattle.segment.specs.chain.Chain.{Found}
use Rattle.segment.specs.Header.{Link}
use Rattle.segment.specs.Written.{segment}
use Rattle.manifest.specs.Payload.{manifest_kind, manifest_payload}
use Rattle.batch.specs.Form.{Body}
use Rattle.appending.specs.Append.{start_of, next_id, body_bytes, manifest_at, manifest_id, new_count, new_end, new_links, Check, checked}

-- ids go on from the last one, or from 0
unfoldable pub next_id_of : Maybe ℕ → ℕ
next_id_of None = 0
next_id_of (Some last) = last + 1

-- 'entries above 1,024 12; ids 13; new end above the limit 1; above the buffer 9'
unfoldable pub commit_checks : ℕ → Option (Found Link) → List Body → List Check
commit_checks room o bs =
    record { bad = ltb max_entries (new_count o bs); number = 12 }
    ∷ record { bad = ltb (2 ^ 64 - 1) (manifest_id o bs); number = 13 }
    ∷ record { bad = ltb max_file (new_end o bs); number = 1 }
    ∷ record { bad = ltb room (new_end o bs); number = 9 }
    ∷ []

unfoldable pub commit_answer : ℕ → Option (Found Link) → List Body → Answer
commit_answer room o bs = checked (commit_checks room o bs) (Accepted (new_end o bs ∷ manifest_id o bs ∷ new_count o bs ∷ []))

-- what is written, for entries with some states
unfoldable pub bytes_with : Option (Found Link) → List Body → List ℕ → ℕ → List ℕ
bytes_with o bs ss ts =
    body_bytes (next_id o) ts bs ++ segment manifest_kind 0 (manifest_id o bs) ts (manifest_payload (new_links o bs ts) ss (manifest_at o bs) (manifest_id o bs))

unfoldable pub buffer_with : Option (Found Link) → List ℕ → List Body → List ℕ → ℕ → Answer → List ℕ
buffer_with o old bs ss ts (Accepted vs) = over old (start_of o) (bytes_with o bs ss ts)
buffer_with o old bs ss ts (Refusal n vs) = old

unfoldable pub commit_buffer : Option (Found Link) → List ℕ → List Body → List ℕ → ℕ → List ℕ
commit_buffer o old bs states ts = buffer_with o old bs (take (new_count o bs) states) ts (commit_answer (length old) o bs)
