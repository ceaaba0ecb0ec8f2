-- The payload's checksum, joined on the way over the blocks: a long block's bytes are taken by the block's own checksum, and the bytes between by a pass.
-- The laws stand in proofs/walk/SumLaws.antt. Definitions only.
-- Assumes nothing.
use Rattle.std.specs.Prelude.{ℕ, ◌+◌, ◌-◌, ◌≤◌, ◌≡◌, Bool, List, length, take, drop}
use Rattle.octets.specs.le.Le.{le_at}
use Rattle.crc32c.specs.Crc.{crc_of}
use Rattle.vec_read.specs.walk.Walk.{sum_of}

-- where a checksum stands: it is of all before `to`, which does not lie behind `at`; 0 where none is asked for
pub record SumTo (summed : Bool) (s : List ℕ) (value to at : ℕ) : Type 0 where
  pub taken : value ≡ sum_of summed (take to s)
  pub behind : to ≤ at

-- a block from `at` on that holds at `end` the checksum of what stands before it
pub record Holds (s : List ℕ) (at end : ℕ) : Type 0 where
  pub begins : at ≤ end
  pub room : end + 4 ≤ length s
  pub known : le_at 4 s end ≡ crc_of (take (end - at) (drop at s))
