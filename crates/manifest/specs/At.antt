-- A manifest's payload by the file alone: a link's header stands in the file, so its entry is copied from there, and the places of the links with
-- their states say the whole payload. And how long each part is.
-- The laws stand in proofs/At.antt. Definitions only.
-- Assumes nothing.
use Rattle.std.specs.Prelude.{ℕ, ◌+◌, ◌-◌, ◌*◌, ◌≤◌, ◌<◌, List, [], ◌∷◌, ◌++◌, length, take, drop, get_or, replicate}
use Rattle.octets.specs.le.Le.{le_bytes}
use Rattle.manifest.specs.Sized.{entries_of}
use Rattle.manifest.specs.Payload.{entry_size, record_end, root, entries_end}
use Rattle.segment.specs.Header.{kind_at}

-- every place has a header's bytes behind it
abbrev pub Inside : List ℕ → List ℕ → Type 0
Inside f os = (i : ℕ) → i < length os → get_or os i 0 + 64 ≤ length f

-- the entry of the link whose header stands at a place: id and payload length stand side by side there
unfoldable pub entry_at : List ℕ → ℕ → ℕ → List ℕ
entry_at f o state =
    le_bytes 8 o
    ++ (take 16 (drop (o + 0x08) f)
    ++ (take 16 (drop (o + 0x28) f) ++ ((kind_at f o ∷ []) ++ ((state ∷ []) ++ (take 2 (drop (o + 0x06) f) ++ le_bytes 4 0)))))

-- the entries of links at some places; the first state is the first link's
abbrev pub entries_at : List ℕ → List ℕ → List ℕ → List ℕ
entries_at f = entries_of (entry_at f)

-- the record's eight bytes before the entries
unfoldable pub record_head : ℕ → List ℕ
record_head c = le_bytes 2 1 ++ (le_bytes 4 (entry_size * c) ++ le_bytes 2 0)

unfoldable pub fill : ℕ → List ℕ
fill c = replicate (record_end c - (entries_end c)) 0

unfoldable pub payload_at : List ℕ → List ℕ → List ℕ → ℕ → ℕ → List ℕ
payload_at f os ss offset id = ((record_head (length os) ++ entries_at f os ss) ++ fill (length os)) ++ root (length os) offset id
