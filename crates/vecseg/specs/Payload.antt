-- The VEC_SEG payload of document 01's 'Vector blocks and id maps': a block directory, then blocks of columns, id map and
-- checksum. `check_of` says of every list of bytes which number the check gives: 5, 6, 7, or 0 where it is sound. The tests
-- stand in 01's check order (without the hash, which belongs to the file).
-- Assumes nothing.
use Rattle.std.specs.Prelude.{ℕ, zero, suc, ◌+◌, ◌-◌, ◌*◌, Bool, cond, ◌&&◌, ◌||◌, List, eqb, leb, ltb, length, get_or, take, drop}
use Rattle.octets.specs.Round.{round64}
use Rattle.octets.specs.Zero.{all_zero}
use Rattle.octets.specs.le.Le.{le_of, le_at}
use Rattle.answers.specs.limits.Limits.{max_vectors, max_blocks, max_dim}
use Rattle.crc32c.specs.Crc.{crc_of}
use Rattle.idmap.specs.Decode.{MapRead, Whole, Broken, map_of}

-- the type of a segment with such a payload
abbrev pub vec_kind : ℕ
vec_kind = 0x01

-- ---- a line of the block directory

pub record Line : Type 0 where
  pub offset : ℕ
  pub count : ℕ
  pub dim : ℕ
  pub dtype : ℕ
  pub tier : ℕ

-- the line at the front of a list: 12 bytes
unfoldable pub line_of : List ℕ → Line
line_of s = record { offset = le_of (take 4 s); count = le_at 4 s 4; dim = le_at 2 s 8; dtype = get_or s 10 0; tier = get_or s 11 0 }

-- bytes of a value by its dtype: 0 f32, 3 i8, 4 u8; 0 where the dtype is not held
unfoldable pub width : ℕ → ℕ
width dtype = cond (eqb dtype 0) 4 (cond (eqb dtype 3 || eqb dtype 4) 1 0)

-- counts and dim 5, dtype 6
unfoldable pub line_bad : Line → ℕ
line_bad l =
    cond (leb 1 l.count && leb l.count max_vectors && leb 1 l.dim && leb l.dim max_dim) (cond (ltb 0 (width l.dtype)) 0 6) 5

-- the first of two numbers that refuses
unfoldable pub first_of : ℕ → ℕ → ℕ
first_of zero b = b
first_of (suc a) b = suc a

-- of n lines
unfoldable pub lines_bad : ℕ → List ℕ → ℕ
lines_bad zero s = 0
lines_bad (suc n) s = first_of (line_bad (line_of s)) (lines_bad n (drop 12 s))

-- ---- a block

-- all values of dimension 0 first, then of dimension 1, ..
unfoldable pub columns_length : Line → ℕ
columns_length l = l.count * l.dim * width l.dtype

-- zeros from a place to the next multiple of 64, which is there
unfoldable pub filled : ℕ → List ℕ → Bool
filled at s = leb (round64 at) (length s) && all_zero (take (round64 at - at) (drop at s))

-- what a check of a block finds: how many bytes it takes with its padding, or the number that refuses it
pub data BlockRead : Type 0 where
  SoundBlock : ℕ → BlockRead
  BadBlock : ℕ → BlockRead

-- behind columns and map, which end at n: checksum present 5, equal 7, padding 5
unfoldable pub block_end : ℕ → List ℕ → BlockRead
block_end n s =
    cond (leb (n + 4) (length s)) (cond (eqb (le_at 4 s n) (crc_of (take n s))) (cond (filled (n + 4) s) (SoundBlock (round64 (n + 4))) (BadBlock 5)) (BadBlock 7))
    (BadBlock 5)

-- the map's rules 5, then what is behind it
unfoldable pub block_map : ℕ → List ℕ → MapRead → BlockRead
block_map columns s (Whole n ids) = block_end (columns + n) s
block_map columns s Broken = BadBlock 5

-- the block of a line at the front of what is left of the payload: room for the columns 5, the map, the end
unfoldable pub block_of : Line → List ℕ → BlockRead
block_of l s = cond (leb (columns_length l) (length s)) (block_map (columns_length l) s (map_of l.count (drop (columns_length l) s))) (BadBlock 5)

-- n blocks of the lines from the front of `lines` on, the next of which is to begin at `at` of the payload s: offset 5, the
-- block; behind the last the payload ends 5
unfoldable pub blocks_bad : ℕ → ℕ → List ℕ → List ℕ → ℕ
blocks_bad zero at lines s = cond (eqb (length s) at) 0 5
blocks_bad (suc n) at lines s =
    cond (eqb (line_of lines).offset at) (elim (block_of (line_of lines) (drop at s)) [ BadBlock e ↦ e | SoundBlock k ↦ blocks_bad n (at + k) (drop 12 lines) s ]) 5

-- ---- the whole payload

-- block count, and where the directory's lines end
unfoldable pub block_count : List ℕ → ℕ
block_count s = le_of (take 4 s)

abbrev pub lines_end : List ℕ → ℕ
lines_end s = 4 + 12 * block_count s

-- lines; fill 5; blocks
unfoldable pub body_bad : List ℕ → ℕ
body_bad s =
    first_of (lines_bad (block_count s) (drop 4 s)) (cond (filled (lines_end s) s) (blocks_bad (block_count s) (round64 (lines_end s)) (drop 4 s) s) 5)

-- block count, room for its lines 5; then the rest
unfoldable pub check_of : List ℕ → ℕ
check_of s = cond (leb 4 (length s) && leb (block_count s) max_blocks && leb (lines_end s) (length s)) (body_bad s) 5
