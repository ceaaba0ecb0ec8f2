-- What §11 of document 02 promises of an accepted compaction: of the file that was read, and of the file that was written. Definitions only, in the
-- order of §11's sentences; the theorem stands in Theorem.antt.
-- Assumes nothing.
use Rattle.std.specs.Prelude.{ℕ, ◌+◌, ◌-◌, ◌/◌, ◌≤◌, ◌≡◌, List, [], ◌∷◌, map, length, take, drop, replicate, Ok}
use Rattle.std.proofs.Math.Option.{none, some}
use Rattle.octets.specs.Over.{over}
use Rattle.answers.specs.limits.Limits.{max_file}
use Rattle.answers.specs.Answer.{Accepted}
use Rattle.segment.specs.chain.Chain.{All, Found}
use Rattle.segment.specs.Header.{Link, size}
use Rattle.segment.specs.Written.{segment}
use Rattle.manifest.specs.Payload.{manifest_kind}
use Rattle.manifest.specs.Opening.{opened, states, open_answer}
use Rattle.reading.specs.Live.{live, with_id}
use Rattle.reading.specs.Answers.{Part, Handed, NotHanded, part_in, vector_case, vector_after, value_in}
use Rattle.compacting.specs.Compact.{copied, moved_to, fresh_found, compact_case, compact_buffer}

-- segments alike but for their places
abbrev pub unplaced : List Link → List Link
unplaced ls = map (moved_to 0) ls

-- 'length and bytes, not the place'
unfoldable pub without_place : Part → Part
without_place (Handed start bytes) = Handed 0 bytes
without_place (NotHanded n) = NotHanded n

-- 'All vector answers, and payload answers for segments kept .., equal the old file's': the answers of g and of f, refusals included. Each later
-- reading call that goes by the kept segments joins here.
pub record SameAnswers (f g : List ℕ) (kept : List Link) : Type 0 where
  pub vector : (id : ℕ) (buf : List ℕ) → vector_case g id buf ≡ vector_case f id buf
  pub buffer : (id : ℕ) (buf : List ℕ) → vector_after g id buf ≡ vector_after f id buf
  pub component : (id i : ℕ) → value_in g id i ≡ value_in f id i
  pub payload : (id : ℕ) (l : Link) → with_id id kept ≡ some l → without_place (part_in g id) ≡ without_place (part_in f id)

-- the file that was written, by the end that was answered
unfoldable pub written_file : List ℕ → List ℕ → ℕ → List ℕ
written_file f buf end = take end (compact_buffer f buf)

pub record Compaction (f buf : List ℕ) (end id count : ℕ) : Type 0 where
  -- what opening the old file finds
  pub found : Found Link
  pub opens : opened f ≡ some found
  pub in_limit : length f ≤ max_file
  -- 'headers unchanged': each segment is written as it stands in the old file, header, payload and padding
  pub unchanged : All (λ l. segment l.kind l.flags l.id l.timestamp l.payload ≡ take (size l) (drop l.offset f)) (copied found)
  -- 'one manifest .. with the old manifest's id, timestamp ..'
  pub manifest : ((fresh_found found).link.id ≡ found.link.id) × ((fresh_found found).link.timestamp ≡ found.link.timestamp)
  -- opening the written file finds the manifest with these segments before it, all live, and answers what compaction answered
  pub reopens : opened (written_file f buf end) ≡ some (fresh_found found)
  pub all_live : states (fresh_found found) ≡ replicate count 0
  pub reports : open_answer (written_file f buf end)
      ≡ Accepted ((fresh_found found).link.offset ∷ end ∷ id ∷ count ∷ (length (written_file f buf end) / 64 - (fresh_found found).link.offset / 64) ∷ [])
  -- its live segments are the old file's but for their places and the manifests
  pub alike : unplaced (copied found) ≡ unplaced (copied (fresh_found found))
  pub answers : SameAnswers f (written_file f buf end) (copied found)
  -- 'Ids of type 0x05 now answer 3', and ids that no live segment has still do
  pub manifests : (x : ℕ) (l : Link) → with_id x (live found) ≡ some l → l.kind ≡ manifest_kind → part_in (written_file f buf end) x ≡ NotHanded 3
  pub missing : (x : ℕ) → with_id x (live found) ≡ none → part_in (written_file f buf end) x ≡ NotHanded 3
  -- 'The result never ends later than the old manifest'
  pub ends : length (written_file f buf end) ≡ end
  pub never_later : end ≤ found.link.offset + size found.link
  pub within : length (written_file f buf end) ≤ max_file
  -- compacted again it gives the same bytes
  pub again : (buf' : List ℕ) → end ≤ length buf'
      → (compact_case (written_file f buf end) buf' ≡ Ok (record { end = end; id = id; count = count })) × (compact_buffer (written_file f buf end) buf' ≡ over buf' 0 (written_file f buf end))
