-- What a block of a sound payload is: its id map is whole, and its checksum is that of its bytes before it. Definitions only.
-- Assumes nothing.
use Rattle.std.specs.Prelude.{ℕ, ◌+◌, ◌≤◌, ◌≡◌, List, length, take, drop}
use Rattle.octets.specs.le.Le.{le_at}
use Rattle.crc32c.specs.Crc.{crc_of}
use Rattle.idmap.specs.Decode.{Whole, map_of, ids_of}
use Rattle.vecseg.specs.Payload.{Line, columns_length}

-- a block of a line at the front of some bytes, which takes k of them
pub record BlockGood (l : Line) (s : List ℕ) (k : ℕ) : Type 0 where
  pub map_length : ℕ
  pub room : columns_length l ≤ length s
  pub whole : map_of l.count (drop (columns_length l) s) ≡ Whole map_length (ids_of (map_of l.count (drop (columns_length l) s)))
  pub checksum : le_at 4 s (columns_length l + map_length) ≡ crc_of (take (columns_length l + map_length) s)
  pub fits : k ≤ length s
