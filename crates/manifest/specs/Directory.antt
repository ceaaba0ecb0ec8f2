-- The entry with an index in the directory of the file's manifest. Definitions only.
-- Assumes nothing.
use Rattle.std.specs.Prelude.{ℕ, cond, List, [], ◌∷◌, leb, length, get_or, Result, Ok, Err, Some, None}
use Rattle.std.specs.Prelude.{Option as Maybe}
use Rattle.std.proofs.Math.Option.{Option, none, some}
use Rattle.std.proofs.lemmas.List.Edits.{sets}
use Rattle.octets.specs.le.Le.{le_at}
use Rattle.segment.specs.chain.Chain.{Found}
use Rattle.segment.specs.Header.{Link, no_link}
use Rattle.manifest.specs.Opening.{states, at_opened}
use Rattle.manifest.specs.declared.DirectoryEntry.{DirectoryEntry}

-- offset, id, payload length, hash bytes 0 to 7 and 8 to 15 as two numbers, type, state, flags
unfoldable pub entry_of : Link → ℕ → DirectoryEntry
entry_of l state =
    record {
      offset = l.offset;
      id = l.id;
      length = length l.payload;
      hash_low = le_at 8 l.hash 0;
      hash_high = le_at 8 l.hash 8;
      kind = l.kind;
      state = state;
      flags = l.flags;
    }

-- 'the directory is that manifest's entries': the entry with an index is that of the link with this index; at or above the count there is none
unfoldable pub entry_in : ℕ → Option (Found Link) → Result (Maybe DirectoryEntry) ℕ
entry_in i none = Err 2
entry_in i (some r) = Ok (cond (leb (length r.before) i) None (Some (entry_of (get_or r.before i no_link) (get_or (states r) i 0))))

-- 1 for a file above the limit, then 2, then the entry
unfoldable pub entry_case : List ℕ → ℕ → Result (Maybe DirectoryEntry) ℕ
entry_case f i = at_opened (Err 1) (entry_in i) f

-- the number of each case. An index without an entry is no refusal, and 255 is no number of document 01.
unfoldable pub entry_number : Result (Maybe DirectoryEntry) ℕ → ℕ
entry_number (Ok (Some e)) = 0
entry_number (Ok None) = 255
entry_number (Err n) = n

-- the values of each case, as an array for them holds them after the call
unfoldable pub entry_out : List ℕ → Result (Maybe DirectoryEntry) ℕ → List ℕ
entry_out out (Ok (Some e)) = sets out 0 (e.offset ∷ e.id ∷ e.length ∷ e.hash_low ∷ e.hash_high ∷ e.kind ∷ e.state ∷ e.flags ∷ [])
entry_out out (Ok None) = out
entry_out out (Err n) = out
