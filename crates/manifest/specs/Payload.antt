-- The manifest of document 01's 'The manifest': one record of directory entries, zero fill, and the root of 4,096 bytes. A
-- manifest is confirmed by writing it anew: the states are read off its payload, the payload of the links before it with
-- those states is written, and the two are compared byte for byte.
-- Assumes nothing.
use Rattle.std.specs.Prelude.{ℕ, ◌+◌, ◌-◌, ◌*◌, Bool, true, cond, ◌&&◌, List, [], ◌∷◌, ◌++◌, eqb, leb, length, drop, replicate}
use Rattle.octets.specs.Round.{round64}
use Rattle.octets.specs.Zero.{same_bytes}
use Rattle.octets.specs.le.Le.{le_bytes}
use Rattle.answers.specs.limits.Limits.{max_entries}
use Rattle.crc32c.specs.Crc.{crc_of}
use Rattle.segment.specs.Header.{Link, whole}
use Rattle.manifest.specs.Sized.{entries_of, states_by, record_by}

-- the type of a manifest
abbrev pub manifest_kind : ℕ
manifest_kind = 0x05

-- ---- an entry

-- how many bytes an entry takes
abbrev pub entry_size : ℕ
entry_size = 48

-- where c entries end in the payload, behind the record's eight bytes
abbrev pub entries_end : ℕ → ℕ
entries_end c = 8 + entry_size * c

-- where the state of entry i stands in the file, of the manifest at an offset: behind its header and those eight bytes
abbrev pub state_place : ℕ → ℕ → ℕ
state_place offset i = offset + 72 + entry_size * i + 41

-- offset u64, id u64, payload length u64, content_hash 16 bytes, type u8, state u8, flags u16, zero u32
unfoldable pub entry_bytes : Link → ℕ → List ℕ
entry_bytes l state =
    le_bytes 8 l.offset
    ++ (le_bytes 8 l.id ++ (le_bytes 8 (length l.payload) ++ (l.hash ++ ((l.kind ∷ state ∷ []) ++ (le_bytes 2 l.flags ++ le_bytes 4 0)))))

-- 0 live, 1 retired; 'type 0x05 is never retired'
unfoldable pub state_held : Link → ℕ → Bool
state_held l state = cond (eqb l.kind manifest_kind) (eqb state 0) (leb state 1)

-- ---- a directory: links, and the state of each

abbrev pub entries : List Link → List ℕ → List ℕ
entries = entries_of entry_bytes

unfoldable pub states_held : List Link → List ℕ → Bool
states_held [] ss = true
states_held (l ∷ ls) [] = true
states_held (l ∷ ls) (s ∷ ss) = state_held l s && states_held ls ss

-- the states of n entries, read off the bytes of a directory
abbrev pub states_in : ℕ → List ℕ → List ℕ
states_in = states_by entry_size

-- ---- the payload

-- the record of c entries takes so many bytes, its fill included
abbrev pub record_end : ℕ → ℕ
record_end = record_by entry_size

-- tag 1 as u16, length as u32, zero u16, then the entries; zero fill to a multiple of 64
unfoldable pub record_bytes : List Link → List ℕ → List ℕ
record_bytes ls ss =
    (le_bytes 2 1 ++ (le_bytes 4 (entry_size * length ls) ++ (le_bytes 2 0 ++ entries ls ss)))
    ++ replicate (record_end (length ls) - entries_end (length ls)) 0

unfoldable pub payload_length : ℕ → ℕ
payload_length c = record_end c + 4096

-- the root's first 4,092 bytes: `RVM0`, version u16 = 1, c as u16, manifest offset u64, manifest id u64, 8 + 48c as u64,
-- manifest end u64, zeros from 40
unfoldable pub root_bytes : ℕ → ℕ → ℕ → List ℕ
root_bytes c offset id =
    (0x52 ∷ 0x56 ∷ 0x4D ∷ 0x30 ∷ [])
    ++ (le_bytes 2 1
    ++ (le_bytes 2 c ++ (le_bytes 8 offset ++ (le_bytes 8 id ++ (le_bytes 8 (entries_end c) ++ (le_bytes 8 (offset + 64 + round64 (payload_length c)) ++ replicate 4052 0))))))

-- the root: these, and their CRC32C
unfoldable pub root : ℕ → ℕ → ℕ → List ℕ
root c offset id = root_bytes c offset id ++ le_bytes 4 (crc_of (root_bytes c offset id))

unfoldable pub manifest_payload : List Link → List ℕ → ℕ → ℕ → List ℕ
manifest_payload ls ss offset id = record_bytes ls ss ++ root (length ls) offset id

-- ---- confirmed

-- a whole link of type 0x05 whose payload has exactly the form above for all links before it
unfoldable pub confirmed : List Link → Link → Bool
confirmed before l =
    eqb l.kind manifest_kind && leb (length before) max_entries && whole l
    && states_held before (states_in (length before) (drop 8 l.payload))
    && same_bytes l.payload (manifest_payload before (states_in (length before) (drop 8 l.payload)) l.offset l.id)
