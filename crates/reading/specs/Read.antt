-- What is known of a vector that a call has read: what a good segment is, and where in the search's order the answer stands. Definitions only.
-- Assumes nothing.
use Rattle.std.specs.Prelude.{ℕ, ◌<◌, ◌≡◌, drop, List, ◌∷◌, ◌++◌}
use Rattle.segment.specs.Header.{Link, content_hash}
use Rattle.vecseg.specs.Payload.{check_of, block_count}
use Rattle.vecseg.specs.Find.{line_at, find_in, Place}
use Rattle.vecseg.specs.BlockGood.{BlockGood}
use Rattle.std.proofs.Math.Option.{none, some}
use Rattle.segment.specs.chain.Chain.{All, Found}
use Rattle.manifest.specs.Opening.{opened}
use Rattle.reading.specs.Live.{search_order}

-- what a segment is that is looked into: its content hash is its payload's, its payload passes the check, and so each block's
-- checksum is that of the block's bytes before it (`BlockGood`)
pub record Good (l : Link) : Type 0 where
  pub hash : l.hash ≡ content_hash l.payload
  pub checked : check_of l.payload ≡ 0
  pub blocks : (i : ℕ) → i < block_count l.payload → (k : ℕ) × BlockGood (line_at l.payload i) (drop (line_at l.payload i).offset l.payload) k

-- a segment that was looked into, and does not hold the id
pub record Passed (id : ℕ) (l : Link) : Type 0 where
  pub good : Good l
  pub missing : find_in l.payload id ≡ none

-- what is answered: the segment stands in the order behind segments that are all good and do not hold the id; it is good itself, and holds the id
pub record Answered (id : ℕ) (ls : List Link) (l : Link) (p : Place) : Type 0 where
  pub newer : List Link
  pub older : List Link
  pub split : ls ≡ newer ++ l ∷ older
  pub passed : All (Passed id) newer
  pub good : Good l
  pub place : find_in l.payload id ≡ some p

-- the file opens, and in the order of its live VEC segments the search stops at this segment and place (`Answered`)
pub record ReadFrom (f : List ℕ) (id : ℕ) : Type 0 where
  pub found : Found Link
  pub opens : opened f ≡ some found
  pub link : Link
  pub place : Place
  pub search : Answered id (search_order found) link place
