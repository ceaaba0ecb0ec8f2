-- Appending as document 01 has it ('The batch sheet and appending'): the answer for all input, with every refusal in 01's order, and the whole
-- buffer after the call. Definitions only.
-- Assumes nothing.
use Rattle.std.specs.Prelude.{ℕ, ◌+◌, ◌-◌, ◌^◌, ◌≤◌, ◌≡◌, Bool, true, false, cond, not, ◌&&◌, List, [], ◌∷◌, ◌++◌, eqb, ltb, length, take, replicate, Result, Ok, Err}
use Rattle.std.proofs.Math.Option.{Option, none, some}
use Rattle.octets.specs.Round.{round64}
use Rattle.octets.specs.Over.{over}
use Rattle.answers.specs.limits.Limits.{max_file, max_entries}
use Rattle.answers.specs.Answer.{Answer, Accepted, Refusal}
use Rattle.segment.specs.chain.Chain.{Found, up_to}
use Rattle.segment.specs.Header.{Link, size}
use Rattle.segment.specs.Written.{segment, link_of}
use Rattle.manifest.specs.Payload.{manifest_kind, confirmed, manifest_payload, payload_length}
use Rattle.manifest.specs.Opening.{opened, states}
use Rattle.vecseg.specs.Payload.{vec_kind, check_of, first_of}
use Rattle.batch.specs.Form.{Body, batch_held, bodies_of}
use Rattle.appending.specs.Retire.{retire_held, retired}
use Rattle.appending.specs.declared.Appended.{Appended}

-- ---- what an append goes on from: the file's manifest, or none

-- the links that are kept: the old directory's, and the old manifest
abbrev pub kept_links : Option (Found Link) → List Link
kept_links o = up_to confirmed o

-- 'It starts at the manifest's end, or at 0 if N is 0'
unfoldable pub start_of : Option (Found Link) → ℕ
start_of none = 0
start_of (some r) = r.link.offset + size r.link

-- 'Ids go on from the manifest's id + 1; in an empty file from 0'
unfoldable pub next_id : Option (Found Link) → ℕ
next_id none = 0
next_id (some r) = r.link.id + 1

-- the old directory
unfoldable pub old_links : Option (Found Link) → List Link
old_links none = []
old_links (some r) = r.before

unfoldable pub old_states : Option (Found Link) → List ℕ
old_states none = []
old_states (some r) = states r

-- 'the old one with its states, the old manifest': the states of what is kept, some ids retired
unfoldable pub kept_states : Option (Found Link) → List ℕ → List ℕ
kept_states none ids = []
kept_states (some r) ids = retired r.before (states r) ids ++ (0 ∷ [])

-- ---- what is written: 'the bodies as segments and then a manifest, all with that timestamp; the manifest's flags are 0'

-- a body takes so many bytes
abbrev pub body_size : Body → ℕ
body_size b = 64 + round64 (length b.payload)

unfoldable pub body_links : ℕ → ℕ → ℕ → List Body → List Link
body_links at id ts [] = []
body_links at id ts (b ∷ bs) = link_of at b.kind b.flags id ts b.payload ∷ body_links (at + body_size b) (id + 1) ts bs

unfoldable pub body_bytes : ℕ → ℕ → List Body → List ℕ
body_bytes id ts [] = []
body_bytes id ts (b ∷ bs) = segment b.kind b.flags id ts b.payload ++ body_bytes (id + 1) ts bs

unfoldable pub bodies_end : ℕ → List Body → ℕ
bodies_end at [] = at
bodies_end at (b ∷ bs) = bodies_end (at + body_size b) bs

module _ (o : Option (Found Link)) (bs : List Body) where
  -- where the new manifest stands, its id, and the number of its entries
  unfoldable pub manifest_at : ℕ
  manifest_at = bodies_end (start_of o) bs

  unfoldable pub manifest_id : ℕ
  manifest_id = next_id o + length bs

  unfoldable pub new_count : ℕ
  new_count = length (kept_links o) + length bs

  unfoldable pub new_end : ℕ
  new_end = manifest_at + (64 + round64 (payload_length new_count))

  -- 'The new directory is the old one with its states, the old manifest, then the bodies, live'
  unfoldable pub new_links : ℕ → List Link
  new_links ts = kept_links o ++ body_links (start_of o) (next_id o) ts bs

  unfoldable pub new_states : List ℕ → List ℕ
  new_states ids = kept_states o ids ++ replicate (length bs) 0

  unfoldable pub new_payload : List ℕ → ℕ → List ℕ
  new_payload ids ts = manifest_payload (new_links ts) (new_states ids) manifest_at manifest_id

  unfoldable pub new_bytes : List ℕ → ℕ → List ℕ
  new_bytes ids ts = body_bytes (next_id o) ts bs ++ segment manifest_kind 0 manifest_id ts (new_payload ids ts)

-- ---- the answer

-- 'each 0x01 body by the check above (not hash) 5, 6, 7': the first number that refuses, 0 where none does
unfoldable pub vectors_bad : List Body → ℕ
vectors_bad [] = 0
vectors_bad (b ∷ bs) = first_of (cond (eqb b.kind vec_kind) (check_of b.payload) 0) (vectors_bad bs)

-- tests in order: the first that holds refuses with its number
pub record Check : Type 0 where
  pub bad : Bool
  pub number : ℕ

unfoldable pub checked : List Check → Answer → Answer
checked [] a = a
checked (c ∷ cs) a = cond c.bad (Refusal c.number []) (checked cs a)

unfoldable pub is_none : Option (Found Link) → Bool
is_none none = true
is_none (some r) = false

-- 'N above the buffer 9; N limit 1; no manifest with N > 0 2; sheet 10; each 0x01 body 5, 6, 7; retirement 11; entries above 1,024 12; ids 13; new
-- end above the limit 1; above the buffer 9', for a buffer of so many bytes
unfoldable pub append_checks : ℕ → ℕ → Option (Found Link) → List ℕ → List ℕ → List Check
append_checks room n o batch ids =
    let bs = bodies_of batch in
    record { bad = ltb room n; number = 9 }
    ∷ record { bad = ltb max_file n; number = 1 }
    ∷ record { bad = ltb 0 n && is_none o; number = 2 }
    ∷ record { bad = not (batch_held batch); number = 10 }
    ∷ record { bad = ltb 0 (vectors_bad bs); number = vectors_bad bs }
    ∷ record { bad = not (retire_held (old_links o) (old_states o) ids); number = 11 }
    ∷ record { bad = ltb max_entries (new_count o bs); number = 12 }
    ∷ record { bad = ltb (2 ^ 64 - 1) (manifest_id o bs); number = 13 }
    ∷ record { bad = ltb max_file (new_end o bs); number = 1 }
    ∷ record { bad = ltb room (new_end o bs); number = 9 }
    ∷ []

-- 'It answers the new end, manifest id and c'
unfoldable pub answer_on : ℕ → ℕ → Option (Found Link) → List ℕ → List ℕ → Answer
answer_on room n o batch ids =
    let bs = bodies_of batch in
    checked (append_checks room n o batch ids) (Accepted (new_end o bs ∷ manifest_id o bs ∷ new_count o bs ∷ []))

-- a call gets a buffer, whose first n bytes are the file, a batch, ids to retire and a timestamp
unfoldable pub append_answer : List ℕ → ℕ → List ℕ → List ℕ → Answer
append_answer old n batch ids = answer_on (length old) n (opened (take n old)) batch ids

-- ---- the buffer after it: 'Bytes before the start and from the new end on keep their values'; on a refusal all do

unfoldable pub buffer_on : Option (Found Link) → List ℕ → List Body → List ℕ → ℕ → Answer → List ℕ
buffer_on o old bs ids ts (Accepted vs) = over old (start_of o) (new_bytes o bs ids ts)
buffer_on o old bs ids ts (Refusal n vs) = old

unfoldable pub append_buffer : List ℕ → ℕ → List ℕ → List ℕ → ℕ → List ℕ
append_buffer old n batch ids ts = buffer_on (opened (take n old)) old (bodies_of batch) ids ts (append_answer old n batch ids)

-- what the contract of an append says of one call
pub record Appends (old : List ℕ) (n : ℕ) (batch ids : List ℕ) (ts : ℕ) (answer : Answer) (new : List ℕ) : Type 0 where
  pub answers : answer ≡ append_answer old n batch ids
  pub leaves : new ≡ append_buffer old n batch ids ts

-- document 01's number and values for each case
unfoldable pub appended_answer : Result Appended ℕ → Answer
appended_answer (Ok a) = Accepted (a.end ∷ a.id ∷ a.count ∷ [])
appended_answer (Err n) = Refusal n []

-- ---- on a buffer

-- the buffer's first bytes are the file, where it is long enough
abbrev pub Holds : List ℕ → List ℕ → Type 0
Holds old f = length f ≤ length old → take (length f) old ≡ f
