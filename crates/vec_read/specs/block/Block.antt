-- What the check of a block answers: by document 01's number, or of a sound block where its columns and map end, with its ids at hand; and the line that a
-- call hands over by its numbers.
-- The laws stand in proofs/block/BlockLaws.antt. Definitions only.
-- Assumes nothing.
use Rattle.std.specs.Prelude.{ℕ, ◌+◌, ◌≤◌, ◌≡◌, List, length, drop, Result, Ok, Err}
use Rattle.std.proofs.Math.ListN.{take}
use Rattle.octets.specs.Round.{round64}
use Rattle.octets.specs.le.Le.{le_at}
use Rattle.crc32c.specs.Crc.{crc_of}
use Rattle.idmap.specs.Decode.{map_of, ids_of}
use Rattle.vecseg.specs.Payload.{Line, columns_length, SoundBlock, BadBlock, block_of}

-- the size that a block takes does not depend on where its line says it begins, nor on its tier
unfoldable pub line_with : ℕ → ℕ → ℕ → Line
line_with count dim dtype = record { offset = 0; count = count; dim = dim; dtype = dtype; tier = 0 }

-- a sound block whose columns and map end at `end`: behind them stand their checksum and the padding, and a list of our own begins with the map's ids
pub record SoundTo (l : Line) (s own : List ℕ) (end : ℕ) : Type 0 where
  pub sound : block_of l s ≡ SoundBlock (round64 (end + 4))
  pub room : round64 (end + 4) ≤ length s
  pub checksum : le_at 4 s end ≡ crc_of (take end s)
  pub ids : take l.count own ≡ ids_of (map_of l.count (drop (columns_length l) s))

unfoldable pub BlockSays : Line → List ℕ → List ℕ → Result ℕ ℕ → Type 0
BlockSays l s own (Ok end) = SoundTo l s own end
BlockSays l s own (Err e) = block_of l s ≡ BadBlock e
