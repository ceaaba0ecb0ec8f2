-- What the vector writer's steps leave in the buffer: padding, directory, block, payload; and how long each is.
-- Assumes nothing.
use Rattle.std.specs.Prelude.{ℕ, ◌+◌, ◌-◌, ◌%◌, ◌≤◌, ◌<◌, ◌≡◌, refl, List, ◌++◌, take, drop, replicate}
use Rattle.std.proofs.Common.{sym, ◌∙◌, arith}
use Rattle.std.proofs.Math.Nat.{zero-add}
use Rattle.std.proofs.Math.ListN.{length, length-append}
use Rattle.std.proofs.lemmas.List.{length-replicate}
use borrow.Rule.Slice.PartMut.{put_mid}
use Rattle.octets.specs.Over.{over}
use Rattle.octets.proofs.OverLaws.{over_then, over_at, length_over}
use Rattle.octets.proofs.Parts.{back}
use Rattle.octets.specs.Round.{round64, padding}
use Rattle.octets.proofs.RoundLaws.{round64_ge}
use Rattle.octets.specs.le.Le.{le_bytes}
use Rattle.octets.proofs.le.Laws.{length_le_bytes}
use Rattle.crc32c.specs.Crc.{crc_of}
use Rattle.idmap.specs.Encode.{map_bytes}
use Rattle.vecseg.specs.Writer.{vec_bytes, block_bytes, directory}

-- ---- lengths

pub length_padding : (n : ℕ) → length (padding n) ≡ round64 n - n
unfolding padding
length_padding n = length-replicate (round64 n - n) 0

pub length_directory : (count dim dtype tier : ℕ) → length (directory count dim dtype tier) ≡ 16
unfolding directory
length_directory count dim dtype tier = simp (length-append, length_le_bytes)

pub length_front : (count dim dtype tier : ℕ) → length (directory count dim dtype tier ++ padding 16) ≡ 64
unfolding round64
length_front count dim dtype tier = simp (length-append, length_directory, length_padding)

pub length_block : (columns map : List ℕ) → length (block_bytes columns map) ≡ length columns + length map + 4
unfolding block_bytes
length_block columns map = simp (length-append, length_le_bytes)

pub length_payload : (ids columns : List ℕ) (dim dtype tier encoding interval : ℕ)
    → length (vec_bytes ids columns dim dtype tier encoding interval) ≡ 64 + round64 (length columns + length (map_bytes ids encoding interval) + 4)
unfolding vec_bytes
length_payload ids columns dim dtype tier encoding interval =
    let n : ℕ = length columns + length (map_bytes ids encoding interval) + 4 in
    simp (length-append (directory (length ids) dim dtype tier ++ padding 16), length_front, length-append, length_block, length_padding) (omega (arith, round64_ge n))

-- the same, as the writer computes it
pub payload_size : (ids columns : List ℕ) (dim dtype tier encoding interval m n : ℕ) → m ≡ length (map_bytes ids encoding interval) → n ≡ round64 (length columns + m + 4)
    → 64 + n ≡ length (vec_bytes ids columns dim dtype tier encoding interval)
payload_size ids columns dim dtype tier encoding interval m n e k = rw (length_payload, k, e)

-- ---- zeros from a place to the next multiple of 64 are the padding

pub padded : (buf b : List ℕ) (at end : ℕ) → end ≡ round64 at → b ≡ over buf at (replicate (end - at) 0) → b ≡ over buf at (padding at)
unfolding padding
padded buf b at end e p = rw e at p

-- ---- the directory, field by field, and its fill

pub directory_laid : (buf b₁ b₂ b₃ b₄ b₅ b₆ b₇ : List ℕ) (count dim dtype tier : ℕ) → 64 ≤ length buf → dtype < 256 → tier < 256
    → b₁ ≡ over buf 0 (le_bytes 4 1) → b₂ ≡ over b₁ 4 (le_bytes 4 64) → b₃ ≡ over b₂ 8 (le_bytes 4 count) → b₄ ≡ over b₃ 12 (le_bytes 2 dim)
    → b₅ ≡ over b₄ 14 (le_bytes 1 dtype) → b₆ ≡ over b₅ 15 (le_bytes 1 tier) → b₇ ≡ over b₆ 16 (padding 16)
    → b₇ ≡ over buf 0 (directory count dim dtype tier ++ padding 16)
unfolding directory le_bytes
directory_laid buf b₁ b₂ b₃ b₄ b₅ b₆ b₇ count dim dtype tier h hd ht p₁ p₂ p₃ p₄ p₅ p₆ p₇ =
    let q₂ = p₂ ∙ over_then buf b₁ 0 (le_bytes 4 1) (le_bytes 4 64) 4 p₁ refl (omega arith) in
    let q₃ = p₃ ∙ over_then buf b₂ 0 _ (le_bytes 4 count) 8 q₂ refl (omega arith) in
    let q₄ = p₄ ∙ over_then buf b₃ 0 _ (le_bytes 2 dim) 12 q₃ refl (omega arith) in
    let q₅ = p₅ ∙ over_then buf b₄ 0 _ (le_bytes 1 dtype) 14 q₄ refl (omega arith) in
    let q₆ = p₆ ∙ over_then buf b₅ 0 _ (le_bytes 1 tier) 15 q₅ refl (omega arith) in
    let q₇ = p₇ ∙ over_then buf b₆ 0 _ (padding 16) 16 q₆ refl (omega arith) in
    let ed : dtype % 256 ≡ dtype = omega arith in
    let et : tier % 256 ≡ tier = omega arith in
    rw (ed, et) at q₇

-- ---- the block: columns, the map in a part that was lent, the checksum of both, the padding

pub map_laid : (buf b₁ ys columns map : List ℕ) (end : ℕ) → end ≡ length columns + length map → round64 (end + 4) ≤ length buf
    → b₁ ≡ over buf 0 columns → ys ≡ over (take (length b₁ - length columns) (drop (length columns) b₁)) 0 map
    → put_mid (length columns) (length b₁ - length columns) b₁ ys ≡ over buf 0 (columns ++ map)
map_laid buf b₁ ys columns map end ends room p q =
    let g = round64_ge (end + 4) in
    let n : length b₁ ≡ length buf = rw p (length_over buf 0 columns (omega arith)) in
    let b : put_mid (length columns) (length b₁ - length columns) b₁ ys ≡ over b₁ (length columns) map = back b₁ (length columns) ys map q (omega arith) in
    b ∙ rw zero-add at (over_then buf b₁ 0 columns map (length columns) p refl (omega arith))

module _ (buf b₂ columns map : List ℕ) (end crc : ℕ) (ends : end ≡ length columns + length map) (room : round64 (end + 4) ≤ length buf)
    (both : b₂ ≡ over buf 0 (columns ++ map)) (sum : crc ≡ crc_of (take end b₂)) where
  -- the checksum is taken of what stands before it
  sum_of : crc ≡ crc_of (columns ++ map)
  sum_of =
      let g = round64_ge (end + 4) in
      let e : end ≡ length (columns ++ map) = simp length-append ends in
      let t : take (length (columns ++ map)) (over buf 0 (columns ++ map)) ≡ columns ++ map = over_at buf 0 (columns ++ map) (omega arith) in
      sum ∙ rw (both, e, t)

  pub block_laid : (b₃ b₄ : List ℕ) → b₃ ≡ over b₂ end (le_bytes 4 crc) → b₄ ≡ over b₃ (end + 4) (padding (end + 4)) → b₄ ≡ over buf 0 (block_bytes columns map ++ padding (end + 4))
  unfolding block_bytes
  block_laid b₃ b₄ p₃ p₄ =
      let g = round64_ge (end + 4) in
      let e : length (columns ++ map) ≡ end = simp length-append (sym ends) in
      let l : length ((columns ++ map) ++ le_bytes 4 crc) ≡ end + 4 = simp (length-append (columns ++ map), length_le_bytes, e) in
      let r₃ : b₃ ≡ over buf 0 ((columns ++ map) ++ le_bytes 4 crc) = p₃ ∙ rw zero-add at (over_then buf b₂ 0 (columns ++ map) (le_bytes 4 crc) end both e (omega arith)) in
      let r₄ : b₄ ≡ over buf 0 (((columns ++ map) ++ le_bytes 4 crc) ++ padding (end + 4)) =
      p₄ ∙ rw zero-add at (over_then buf b₃ 0 ((columns ++ map) ++ le_bytes 4 crc) (padding (end + 4)) (end + 4) r₃ l (omega arith)) in
      rw sum_of at r₄

-- ---- the payload: the block in a part that was lent, right behind the directory

pub payload_laid : (buf b₁ ys ids columns : List ℕ) (dim dtype tier encoding interval end : ℕ) → end ≡ length columns + length (map_bytes ids encoding interval)
    → 64 + round64 (end + 4) ≤ length buf → b₁ ≡ over buf 0 (directory (length ids) dim dtype tier ++ padding 16)
    → ys ≡ over (take (length b₁ - 64) (drop 64 b₁)) 0 (block_bytes columns (map_bytes ids encoding interval) ++ padding (end + 4))
    → put_mid 64 (length b₁ - 64) b₁ ys ≡ over buf 0 (vec_bytes ids columns dim dtype tier encoding interval)
unfolding vec_bytes
payload_laid buf b₁ ys ids columns dim dtype tier encoding interval end ends room p q =
    let front : List ℕ = directory (length ids) dim dtype tier ++ padding 16 in
    let block : List ℕ = block_bytes columns (map_bytes ids encoding interval) in
    let nf : length front ≡ 64 = length_front (length ids) dim dtype tier in
    let nb : length block ≡ end + 4 = rw ends (length_block columns (map_bytes ids encoding interval)) in
    let np : length (block ++ padding (end + 4)) ≡ round64 (end + 4) = simp (length-append, nb, length_padding) (omega (arith, round64_ge (end + 4))) in
    let n : length b₁ ≡ length buf = rw p (length_over buf 0 front (omega arith)) in
    back b₁ 64 ys (block ++ padding (end + 4)) q (omega arith) ∙ rw nb (over_then buf b₁ 0 front (block ++ padding (end + 4)) 64 p nf (omega arith))
