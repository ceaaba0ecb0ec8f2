-- The root's checksum: of its first 40 bytes by a pass, and over its 4,052 zeros by one product with a power that is known. And the payload's: the
-- root ends with the checksum of its other bytes, so no pass goes over it.
-- The laws stand in proofs/payload/Sum.antt. Definitions only.
-- Assumes nothing.
use Prim.Native.Nat.{ℕ, ◌-◌, ◌≤◌}
use Rattle.std.specs.Prelude.{◌≡◌, length, drop}
use mathlib.Core.List.{List}
use Rattle.std.proofs.Math.ListN.{take}
use Rattle.octets.specs.le.Le.{le_bytes}
use Rattle.crc32c.specs.Crc.{crc_of}

-- ---- the payload

-- bytes that end with a root: the last four of its 4,096 bytes are the checksum of those before them
abbrev pub Rooted : List ℕ → Type 0
Rooted s = (4096 ≤ length s) × (drop (length s - 4) s ≡ le_bytes 4 (crc_of (take 4092 (drop (length s - 4096) s))))
