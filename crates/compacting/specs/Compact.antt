-- Compaction as document 02 has it (§11, 'Getting room back'): a fresh file of a file's live segments, written into a buffer. The answer for all
-- input and the whole buffer after the call, in the order of §11's sentences. Definitions only.
-- Assumes nothing.
use Rattle.std.specs.Prelude.{ℕ, ◌+◌, Bool, cond, List, [], ◌∷◌, ◌++◌, eqb, length, replicate, Result, Ok, Err}
use Rattle.std.proofs.Math.Option.{Option, none, some}
use Rattle.answers.specs.Answer.{Answer, Accepted, Refusal}
use Rattle.answers.specs.Write.{write_answer, write_buffer}
use Rattle.segment.specs.chain.Chain.{Found}
use Rattle.segment.specs.Header.{Link, size, whole}
use Rattle.segment.specs.Written.{segment, link_of}
use Rattle.manifest.specs.Payload.{manifest_kind, manifest_payload}
use Rattle.manifest.specs.Opening.{at_opened}
use Rattle.reading.specs.Live.{live}
use Rattle.compacting.specs.declared.Compacted.{Compacted}

-- ---- what is written

-- 'live segments except those of type 0x05, in directory order'
unfoldable pub is_manifest : Link → Bool
is_manifest l = eqb l.kind manifest_kind

unfoldable pub without_manifests : List Link → List Link
without_manifests [] = []
without_manifests (l ∷ ls) = cond (is_manifest l) (without_manifests ls) (l ∷ without_manifests ls)

unfoldable pub copied : Found Link → List Link
copied r = without_manifests (live r)

-- 'headers unchanged': the segments with the fields and payloads that they have, one behind the other
unfoldable pub segments_of : List Link → List ℕ
segments_of [] = []
segments_of (l ∷ ls) = segment l.kind l.flags l.id l.timestamp l.payload ++ segments_of ls

-- the links that they are from a place on: the offset alone is new
unfoldable pub moved_to : ℕ → Link → Link
moved_to at l =
    record { offset = at; id = l.id; kind = l.kind; flags = l.flags; timestamp = l.timestamp; hash = l.hash; payload = l.payload }

unfoldable pub moved_from : ℕ → List Link → List Link
moved_from at [] = []
moved_from at (l ∷ ls) = moved_to at l ∷ moved_from (at + size l) ls

-- the manifest's payload: their entries, all live, and the root of a manifest right behind them with the old manifest's id
unfoldable pub fresh_payload : Found Link → List ℕ
fresh_payload r = manifest_payload (moved_from 0 (copied r)) (replicate (length (copied r)) 0) (length (segments_of (copied r))) r.link.id

-- 'then one manifest .. with the old manifest's id, timestamp .., flags 0'
unfoldable pub fresh_file : Found Link → List ℕ
fresh_file r = segments_of (copied r) ++ segment manifest_kind 0 r.link.id r.link.timestamp (fresh_payload r)

-- the manifest as a link, and what opening finds in the fresh file
unfoldable pub fresh_manifest : Found Link → Link
fresh_manifest r = link_of (length (segments_of (copied r))) manifest_kind 0 r.link.id r.link.timestamp (fresh_payload r)

abbrev pub fresh_found : Found Link → Found Link
fresh_found r = record { before = moved_from 0 (copied r); link = fresh_manifest r }

-- ---- the answer

-- '4 if any segment to be copied is not whole'
unfoldable pub damaged : List Link → ℕ
damaged [] = 0
damaged (l ∷ ls) = cond (whole l) (damaged ls) 4

-- 'It answers as appending does': the new end, the manifest's id, the number of its entries
unfoldable pub compacted_by : Found Link → Result ℕ ℕ → Result Compacted ℕ
compacted_by r (Ok n) = Ok (record { end = n; id = r.link.id; count = length (copied r) })
compacted_by r (Err n) = Err n

-- 'Refusals: 1, 2, then 4 .., then 9'
unfoldable pub compact_found : List ℕ → Option (Found Link) → Result Compacted ℕ
compact_found buf none = Err 2
compact_found buf (some r) = compacted_by r (write_answer (damaged (copied r)) (fresh_file r) buf)

unfoldable pub compact_case : List ℕ → List ℕ → Result Compacted ℕ
compact_case f buf = at_opened (Err 1) (compact_found buf) f

-- its number and values
unfoldable pub compacted_answer : Result Compacted ℕ → Answer
compacted_answer (Ok c) = Accepted (c.end ∷ c.id ∷ c.count ∷ [])
compacted_answer (Err n) = Refusal n []

-- ---- the buffer after it: 'The buffer behind it keeps its values'; on a refusal all of it does

unfoldable pub buffer_found : List ℕ → Option (Found Link) → List ℕ
buffer_found buf none = buf
buffer_found buf (some r) = write_buffer (damaged (copied r)) (fresh_file r) buf

unfoldable pub compact_buffer : List ℕ → List ℕ → List ℕ
compact_buffer f buf = at_opened buf (buffer_found buf) f
