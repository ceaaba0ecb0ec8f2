-- The form of a batch (document 01's 'sheet'): the number of bodies, a line for each, then the bodies. Definitions only.
-- Assumes nothing.
use Rattle.std.specs.Prelude.{ℕ, zero, suc, ◌+◌, ◌*◌, Bool, false, not, ◌&&◌, ◌||◌, List, [], ◌∷◌, eqb, leb, length, take, drop, get_or}
use Rattle.octets.specs.Zero.{all_zero}
use Rattle.octets.specs.le.Le.{le_at}
use Rattle.answers.specs.limits.Limits.{max_bodies, max_batch}
use Rattle.segment.specs.Header.{type_held, type_reserved, flags_held}
use Rattle.manifest.specs.Payload.{manifest_kind}

-- what a batch says of a body: its segment's type and flags, and its bytes
pub record Body : Type 0 where
  pub kind : ℕ
  pub flags : ℕ
  pub payload : List ℕ

-- ---- a line: type u8, zero u8, flags u16, offset u32 from the batch's start, length u32, zero u32

-- how many bytes the head and a line take
abbrev pub line_size : ℕ
line_size = 16

abbrev pub line_length : List ℕ → ℕ
line_length x = le_at 4 x 8

-- 'Types as sound headers allow, but never 0x05', and of those '0x0E to 0xEF .. never' (document 02, §4): 0x01 to 0x0D and 0xF0 to 0xFF but 0x05
unfoldable pub body_kind_held : ℕ → Bool
body_kind_held kind = type_held kind && not (type_reserved kind) && not (eqb kind manifest_kind)

-- the line at the front of some bytes, whose body is to begin at `at`
unfoldable pub line_held : ℕ → List ℕ → Bool
line_held at x =
    body_kind_held (get_or x 0 0) && eqb (get_or x 1 0) 0 && flags_held (le_at 2 x 2) && eqb (le_at 4 x 4) at && all_zero (take 4 (drop 12 x))

-- n lines, whose bodies are to begin at `at`, 'in line order, without gaps, to the sheet's end'
unfoldable pub lines_held : ℕ → ℕ → List ℕ → ℕ → Bool
lines_held zero at lines end = eqb at end
lines_held (suc n) at lines end = line_held at lines && lines_held n (at + line_length lines) (drop line_size lines) end

-- ---- the whole

-- 'body count m u32, 12 zero bytes'
unfoldable pub body_count : List ℕ → ℕ
body_count s = le_at 4 s 0

-- where the bodies begin
abbrev pub bodies_at : ℕ → ℕ
bodies_at m = line_size + line_size * m

-- 16 to 1,048,576 bytes, 0 to 16 bodies, room for their lines
unfoldable pub batch_held : List ℕ → Bool
batch_held s =
    leb line_size (length s) && leb (length s) max_batch && leb (body_count s) max_bodies && all_zero (take 12 (drop 4 s))
    && leb (bodies_at (body_count s)) (length s)
    && lines_held (body_count s) (bodies_at (body_count s)) (drop line_size s) (length s)

-- the bodies of n lines, the first of which begins at `at` of the batch s
unfoldable pub bodies_from : ℕ → ℕ → List ℕ → List ℕ → List Body
bodies_from zero at lines s = []
bodies_from (suc n) at lines s =
    record { kind = get_or lines 0 0; flags = le_at 2 lines 2; payload = take (line_length lines) (drop at s) }
    ∷ bodies_from n (at + line_length lines) (drop line_size lines) s

unfoldable pub bodies_of : List ℕ → List Body
bodies_of s = bodies_from (body_count s) (bodies_at (body_count s)) (drop line_size s) s

-- ---- the list of ids to retire

-- whether a number stands in a list
unfoldable pub member : ℕ → List ℕ → Bool
member x [] = false
member x (y ∷ ys) = eqb y x || member x ys
