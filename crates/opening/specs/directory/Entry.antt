-- The entry with an index in the directory of the file's manifest.
-- The laws stand in proofs/directory/EntryLemmas.antt. Definitions only.
-- Assumes nothing.
use Rattle.std.specs.Prelude.{ℕ, ◌+◌, List, get_or}
use Rattle.octets.specs.le.Le.{le_at}
use Rattle.manifest.specs.declared.DirectoryEntry.{DirectoryEntry}
use Rattle.segment.specs.Header.{flags_at, id_at, kind_at, length_at}

-- the same off the file: the header of the link at p, and the state at s
unfoldable pub entry_read_at : List ℕ → ℕ → ℕ → DirectoryEntry
entry_read_at f p s =
    record {
      offset = p;
      id = id_at f p;
      length = length_at f p;
      hash_low = le_at 8 f (p + 0x28);
      hash_high = le_at 8 f (p + 0x30);
      kind = kind_at f p;
      state = get_or f s 0;
      flags = flags_at f p;
    }
