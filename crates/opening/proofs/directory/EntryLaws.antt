-- The entry with an index, read off the file.
-- Assumes nothing.
use Rattle.std.specs.Prelude.{ℕ, ◌+◌, ◌≤◌, ◌<◌, ◌≡◌, refl, List, length, take, drop, get_or, Ok, Some, None}
use Rattle.std.proofs.Common.{ap, ◌∙◌, arith, drop-drop}
use borrow.Author.Tests.{le-leb, lt-leb}
use Rattle.octets.proofs.Parts.{part_front}
use Rattle.octets.specs.le.Le.{le_of, le_at, Bytes}
use Rattle.answers.specs.limits.Limits.{max_file}
use Rattle.segment.specs.index.Offsets.{most, link_no}
use Rattle.manifest.specs.declared.DirectoryEntry.{DirectoryEntry}
use Rattle.manifest.specs.Opening.{opened_case}
use Rattle.opening.specs.declared.FileManifest.{FileManifest}
use Rattle.opening.specs.FileManifest.{manifest_of}
use Rattle.opening.proofs.FileManifestLaws.{manifest_at}
use Rattle.opening.specs.Indexed.{ManifestAt, Indexed}
use Rattle.opening.proofs.Indexed.{EntryAt, opened_at, entry_at}
use Rattle.manifest.specs.Directory.{entry_in, entry_of, entry_case}
use Rattle.opening.specs.directory.Entry.{entry_read_at}
use Rattle.opening.proofs.directory.EntryLemmas.{entry_within}
use Rattle.manifest.specs.Payload.{state_place}

module _ (f : List ℕ) (offset count : ℕ) (m : ManifestAt f offset count) (i : ℕ) where
  -- above the count
  pub entry_past : count ≤ i → Ok None ≡ entry_case f i
  unfolding entry_in
  entry_past h = entry_within f i (Ok None) m.within (rw (m.opens, m.count_is, le-leb count i h))

  module _ (offsets : List ℕ) (h : i < count) (a : EntryAt f offsets m.found offset i) where
    -- the two numbers of the hash
    hash-part : (k p : ℕ) → k ≤ 8 → get_or offsets i 0 + 0x28 + k ≡ p → le_at 8 (link_no f i).hash k ≡ le_at 8 f p
    hash-part k p j e =
        ap (λ (x : List ℕ). le_at 8 x k) a.numbered.hash_is
        ∙ ap le_of (part_front k 8 16 (drop (get_or offsets i 0 + 0x28) f) (omega arith))
        ∙ ap (λ (x : List ℕ). le_of (take 8 x)) (drop-drop k (get_or offsets i 0 + 0x28) f)
        ∙ ap (le_at 8 f) e

    pub entry_is : (o : DirectoryEntry) → o ≡ entry_read_at f (get_or offsets i 0) (state_place offset i) → Ok (Some o) ≡ entry_case f i
    unfolding entry_in entry_of entry_read_at
    entry_is o e =
        let n = a.numbered in
        entry_within f i (Ok (Some o)) m.within
        (ap (λ (x : DirectoryEntry). Ok (Some x)) e ∙ rw (
          m.opens,
          m.count_is,
          lt-leb count i h,
          a.link_is,
          a.state_is,
          n.offset_is,
          n.id_is,
          n.length_is,
          hash-part 0 (get_or offsets i 0 + 0x28) (omega arith) (omega arith),
          hash-part 8 (get_or offsets i 0 + 0x30) (omega arith) (omega arith),
          n.kind_is,
          n.flags_is,
        ) refl)

-- the same where the file's manifest was found
module _ (f : List ℕ) (m : FileManifest) (e : manifest_of (opened_case f) ≡ Ok m) where
  abbrev pub manifest_read : ManifestAt f m.offset m.count
  manifest_read = let w = manifest_at f m e in opened_at f m.offset m.end w.0 m.count m.tried w.1

  pub entry_stands : (offsets : List ℕ) (i : ℕ) → Bytes f → (length f ≤ max_file → Indexed f offsets) → most ≤ length offsets → i < m.count
      → EntryAt f offsets manifest_read.found m.offset i
  entry_stands offsets i t s room h = entry_at f offsets m.offset m.count t (s manifest_read.within) room manifest_read i h
