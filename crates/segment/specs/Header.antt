-- A segment as document 01 has it ('The chain from byte 0'): a header of 64 bytes, the payload, zeros to a multiple of 64.
-- The fields stand where document 002, section 3, has them. Definitions only.
-- Assumes nothing.
use Rattle.std.specs.Prelude.{Bool, cond, ◌&&◌, true, List, [], ◌∷◌, ◌++◌, ℕ, ◌+◌, eqb, leb, length, take, drop, get_or, replicate}
use Rattle.std.proofs.Math.Option.{Option, none, some}
use Rattle.std.specs.Int.Bits.{bit_and}
use Rattle.octets.specs.Round.{round64}
use Rattle.octets.specs.Zero.{all_zero, same_bytes}
use Rattle.octets.specs.le.Le.{le_at, le_bytes}
use Rattle.crc32c.specs.Crc.{crc_of}
use Rattle.segment.specs.chain.Chain.{Reader, framed}

-- ---- a header's fields

-- 'The magic': its bytes in file order
abbrev pub magic : List ℕ
magic = 0x52 ∷ 0x56 ∷ 0x46 ∷ 0x53 ∷ []

abbrev pub kind_in : List ℕ → ℕ
kind_in h = get_or h 0x05 0

abbrev pub flags_in : List ℕ → ℕ
flags_in h = le_at 2 h 0x06

abbrev pub id_in : List ℕ → ℕ
id_in h = le_at 8 h 0x08

abbrev pub length_in : List ℕ → ℕ
length_in h = le_at 8 h 0x10

abbrev pub timestamp_in : List ℕ → ℕ
timestamp_in h = le_at 8 h 0x18

abbrev pub hash_in : List ℕ → List ℕ
hash_in h = take 16 (drop 0x28 h)

-- the same of a header at a place of a file
abbrev pub kind_at : List ℕ → ℕ → ℕ
kind_at f p = get_or f (p + 0x05) 0

abbrev pub flags_at : List ℕ → ℕ → ℕ
flags_at f p = le_at 2 f (p + 0x06)

abbrev pub id_at : List ℕ → ℕ → ℕ
id_at f p = le_at 8 f (p + 0x08)

abbrev pub length_at : List ℕ → ℕ → ℕ
length_at f p = le_at 8 f (p + 0x10)

-- 'Sound headers shall allow 0x01 to 0xFF' (document 02, §4)
unfoldable pub type_held : ℕ → Bool
type_held t = leb 0x01 t && leb t 0xFF

-- '0x0E to 0xEF are walked past, listed in directories, never handed out and never taken in a sheet' (document 02, §4)
unfoldable pub type_reserved : ℕ → Bool
type_reserved t = leb 0x0E t && leb t 0xEF

-- 'flags only from 0x03C8'
unfoldable pub flags_held : ℕ → Bool
flags_held g = eqb (bit_and g 0x03C8) g

-- what a header's own bytes must be, with the least id that it may have: magic; version 1; type; flags; checksum_algo 0; compression and both
-- reserved fields 0; uncompressed_len and alignment_pad 0; 'id above the id of the link before'
abbrev pub head_tests : ℕ → List ℕ → List Bool
head_tests least h =
    same_bytes (take 4 h) magic
    ∷ eqb (get_or h 0x04 0) 1
    ∷ type_held (kind_in h)
    ∷ flags_held (flags_in h)
    ∷ eqb (get_or h 0x20 0) 0
    ∷ all_zero (take 7 (drop 0x21 h))
    ∷ all_zero (take 8 (drop 0x38 h))
    ∷ leb least (id_in h)
    ∷ []

-- every test holds
unfoldable pub all : List Bool → Bool
all [] = true
all (t ∷ ts) = t && all ts

unfoldable pub head_sound : ℕ → List ℕ → Bool
unfolding all
head_sound least h = all (head_tests least h)

-- ---- links

-- a sound header with its payload: every field that a directory entry copies, and the timestamp. The length is the payload's.
pub record Link : Type 0 where
  pub offset : ℕ
  pub id : ℕ
  pub kind : ℕ
  pub flags : ℕ
  pub timestamp : ℕ
  pub hash : List ℕ
  pub payload : List ℕ

-- what stands past a list's end; no law depends on it
abbrev pub no_link : Link
no_link = record { offset = 0; id = 0; kind = 0; flags = 0; timestamp = 0; hash = []; payload = [] }

-- what a link is read with: where it stands, and the least id that it may have
pub record State : Type 0 where
  pub at : ℕ
  pub least : ℕ

-- 'The chain begins at 0', 'the first link: any id'
abbrev pub start : State
start = record { at = 0; least = 0 }

-- 'ends at p + 64 + L rounded up to a multiple of 64', from p: what a header says of it, and what it is
unfoldable pub size_at : List ℕ → ℕ
size_at h = 64 + round64 (length_in h)

unfoldable pub size : Link → ℕ
size l = 64 + round64 (length l.payload)

-- 'sound', of bytes as many as the header says: the header's own bytes, and 'padding zero'
unfoldable pub sound : ℕ → List ℕ → Bool
sound least x = head_sound least (take 64 x) && all_zero (drop (64 + length_in (take 64 x)) x)

unfoldable pub link_in : ℕ → List ℕ → Link
link_in at x =
    let h = take 64 x in
    record {
      offset = at;
      id = id_in h;
      kind = kind_in h;
      flags = flags_in h;
      timestamp = timestamp_in h;
      hash = hash_in h;
      payload = take (length_in h) (drop 64 x);
    }

unfoldable pub read : State → List ℕ → Option Link
read st x = cond (sound st.least x) (some (link_in st.at x)) none

-- the link at the front of some bytes: 'p + 64 is at most N', 'the end at most N', and sound
abbrev pub link_at : State → List ℕ → Option Link
link_at = framed 64 size_at read

-- the next link stands at this one's end, and its id is above this one's
abbrev pub after : State → Link → State
after st l = record { at = st.at + size l; least = l.id + 1 }

abbrev pub reader : Reader State Link
reader = record { link_at = link_at; size = size; after = after }

-- ---- content

-- 'content_hash is the CRC32C of the payload (u32, then 12 zeros)'
unfoldable pub content_hash : List ℕ → List ℕ
content_hash payload = le_bytes 4 (crc_of payload) ++ replicate 12 0

-- 'A link is whole'
unfoldable pub whole : Link → Bool
whole l = same_bytes l.hash (content_hash l.payload)
