-- The laws of specs/Shape.antt.
-- Assumes nothing.
use Rattle.std.specs.Prelude.{ℕ, ◌^◌, ◌<◌, ◌≡◌, true, List, ◌++◌, length}
use Rattle.std.proofs.Math.Path.{refl}
use Rattle.std.proofs.Common.{append_assoc, arith, lit<, drop_at, le-leb}
use Rattle.std.proofs.Math.ListN.{take, drop, length-append}
use Rattle.std.proofs.Math.Seq.{take_at}
use Rattle.octets.specs.Round.{round64, padding}
use Rattle.octets.proofs.ZeroLaws.{zeros_all}
use Rattle.octets.specs.le.Le.{le_of, le_bytes}
use Rattle.octets.proofs.le.Laws.{le_of_le_bytes}
use Rattle.vecseg.specs.Payload.{line_of, block_count, filled}
use Rattle.vecseg.specs.Writer.{directory}
use Rattle.vecseg.proofs.Laid.{length_directory, length_front}
use Rattle.vec_trip.specs.Shape.{line_for}

-- what stands behind a padded directory
module _ (count dim dtype tier : ℕ) (rest : List ℕ) where
  pub one_block : block_count ((directory count dim dtype tier ++ padding 16) ++ rest) ≡ 1
  unfolding block_count directory le_bytes
  one_block = le_of_le_bytes 4 1 (lit< tt)

  pub line_is : count < 2 ^ 32 → dim < 2 ^ 16 → line_of (drop 4 ((directory count dim dtype tier ++ padding 16) ++ rest)) ≡ line_for count dim dtype tier
  unfolding line_of line_for directory le_bytes
  line_is hc hd =
      let o : le_of (le_bytes 4 64) ≡ 64 = le_of_le_bytes 4 64 (lit< tt) in
      let c : le_of (le_bytes 4 count) ≡ count = le_of_le_bytes 4 count (omega arith) in
      let d : le_of (le_bytes 2 dim) ≡ dim = le_of_le_bytes 2 dim (omega arith) in
      rw (o, c, d)

  pub block_at : drop 64 ((directory count dim dtype tier ++ padding 16) ++ rest) ≡ rest
  block_at = drop_at (directory count dim dtype tier ++ padding 16) rest 64 (length_front count dim dtype tier)

  pub fill_is : filled 16 ((directory count dim dtype tier ++ padding 16) ++ rest) ≡ true
  unfolding filled round64 padding
  fill_is =
      let l = length-append (directory count dim dtype tier ++ padding 16) rest in
      let f = length_front count dim dtype tier in
      let d : drop 16 ((directory count dim dtype tier ++ padding 16) ++ rest) ≡ padding 16 ++ rest =
      rw (append_assoc (directory count dim dtype tier) (padding 16) rest) (drop_at (directory count dim dtype tier) (padding 16 ++ rest) 16 (length_directory count dim dtype tier)) in
      let t : take 48 (padding 16 ++ rest) ≡ padding 16 = take_at (padding 16) rest 48 refl in
      rw (le-leb 64 (length ((directory count dim dtype tier ++ padding 16) ++ rest)) (omega arith), d, t) (zeros_all 48)
