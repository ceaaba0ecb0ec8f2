-- What the vector writer writes passes the check of a payload, for every input that it accepts.
-- Assumes nothing.
use Prim.Native.Nat.{ℕ, ◌+◌, ◌-◌, ◌^◌, ◌≤◌, ◌<◌}
use Rattle.std.specs.Prelude.{◌≡◌, true, take, drop, replicate}
use Rattle.std.proofs.Math.Path.{refl}
use Rattle.std.proofs.Common.{sym, ap, ◌∙◌, arith, length-append, take_at, drop_at, take_all, le-leb, lt-ltb, eq-eqb}
use mathlib.Core.List.{List, ◌++◌, append_assoc}
use Rattle.std.proofs.Math.ListN.{length}
use Rattle.std.proofs.lemmas.List.{length-replicate}
use Rattle.octets.specs.Round.{round64, padding}
use Rattle.octets.proofs.RoundLaws.{round64_ge}
use Rattle.octets.specs.Zero.{all_zero}
use Rattle.octets.proofs.ZeroLaws.{zeros_all}
use Rattle.octets.specs.le.Le.{le_of, le_bytes, Bytes}
use Rattle.octets.proofs.le.Laws.{bytes_append, length_le_bytes, le_of_le_bytes}
use Rattle.crc32c.specs.Crc.{crc_of}
use Rattle.crc32c.proofs.Words.{crc_of_lt}
use Rattle.idmap.specs.Encode.{map_bytes}
use Rattle.idmap.specs.Decode.{Whole, map_of}
use Rattle.idmap.proofs.Accepted.{good}
use Rattle.idmap.proofs.Trip.{Words, read_back}
use Rattle.vecseg.specs.Payload.{Line, line_of, width, line_bad, first_of, lines_bad, columns_length, filled, SoundBlock, block_end, block_map, block_of, blocks_bad, block_count, body_bad, check_of}
use Rattle.vecseg.specs.Writer.{vec_bad, vec_bytes, block_bytes}
use Rattle.vecseg.proofs.WriterLaws.{WriterAccepts, accepted}
use Rattle.vecseg.proofs.Laid.{length_block, length_payload}
use Rattle.vec_trip.proofs.MapBytes.{map_bytes_bytes}
use Rattle.vec_trip.specs.Shape.{line_for}
use Rattle.vec_trip.proofs.Shape.{one_block, line_is, block_at, fill_is}

-- ---- the block: columns and map, the checksum c of both, zeros p to the next multiple of 64

-- the map stands right behind the columns
pub map_at : (columns map c p : List ℕ) (n : ℕ) → length columns ≡ n → drop n (((columns ++ map) ++ c) ++ p) ≡ map ++ (c ++ p)
map_at columns map c p n e =
    ap (drop n) (append_assoc (columns ++ map) c p ∙ append_assoc columns map (c ++ p)) ∙ drop_at columns (map ++ (c ++ p)) n e

-- checksum and padding behind what they stand for
end_sound : (front c p : List ℕ) (n : ℕ) → length front ≡ n → length c ≡ 4 → le_of c ≡ crc_of front → p ≡ replicate (round64 (n + 4) - (n + 4)) 0
    → block_end n ((front ++ c) ++ p) ≡ SoundBlock (round64 (n + 4))
unfolding block_end filled
end_sound front c p n e ec sum z =
    let g = round64_ge (n + 4) in
    let lf : length (front ++ c) ≡ n + 4 = length-append front c ∙ rw (e, ec) in
    let lp : length p ≡ round64 (n + 4) - (n + 4) = ap length z ∙ length-replicate (round64 (n + 4) - (n + 4)) 0 in
    let ls : length ((front ++ c) ++ p) ≡ n + 4 + length p = length-append (front ++ c) p ∙ rw lf in
    let behind : drop n ((front ++ c) ++ p) ≡ c ++ p = ap (drop n) (append_assoc front c p) ∙ drop_at front (c ++ p) n e in
    let before : take n ((front ++ c) ++ p) ≡ front = ap (take n) (append_assoc front c p) ∙ take_at front (c ++ p) n e in
    let read : le_of (take 4 (drop n ((front ++ c) ++ p))) ≡ crc_of front = rw (behind, take_at c p 4 ec) sum in
    let tail : drop (n + 4) ((front ++ c) ++ p) ≡ p = drop_at (front ++ c) p (n + 4) lf in
    let fill : take (round64 (n + 4) - (n + 4)) p ≡ p = take_all (round64 (n + 4) - (n + 4)) p (omega arith) in
    let none : all_zero p ≡ true = rw z (zeros_all (round64 (n + 4) - (n + 4))) in
    rw (
      le-leb (n + 4) (length ((front ++ c) ++ p)) (omega arith),
      before,
      eq-eqb (le_of (take 4 (drop n ((front ++ c) ++ p)))) (crc_of front) read,
      le-leb (round64 (n + 4))
          (length ((front ++ c) ++ p)) (omega arith),
      tail,
      fill,
      none,
    )

-- the block of a line, whose map reads back
block_sound : (l : Line) (ids columns map c p : List ℕ) → columns_length l ≡ length columns → map_of l.count (map ++ (c ++ p)) ≡ Whole (length map) ids
    → length c ≡ 4 → le_of c ≡ crc_of (columns ++ map) → p ≡ replicate (round64 (length columns + length map + 4) - (length columns + length map + 4)) 0
    → block_of l (((columns ++ map) ++ c) ++ p) ≡ SoundBlock (round64 (length columns + length map + 4))
unfolding block_of block_map
block_sound l ids columns map c p e m ec sum z =
    let ls : length (((columns ++ map) ++ c) ++ p) ≡ length columns + length (map ++ (c ++ p)) =
    ap length (append_assoc (columns ++ map) c p ∙ append_assoc columns map (c ++ p)) ∙ length-append columns (map ++ (c ++ p)) in
    rw
    (e, le-leb (length columns) (length (((columns ++ map) ++ c) ++ p)) (omega arith), map_at columns map c p (length columns) refl, m)
    (end_sound (columns ++ map) c p (length columns + length map) (length-append columns map) ec sum z)

-- ---- the payload

line_good : (ids columns : List ℕ) (dim dtype tier encoding interval : ℕ) → WriterAccepts ids columns dim dtype tier encoding interval → 1 ≤ length ids
    → line_bad (line_for (length ids) dim dtype tier) ≡ 0
unfolding line_bad line_for
line_good ids columns dim dtype tier encoding interval g one =
    rw (le-leb 1 (length ids) one, le-leb (length ids) 4096 g.most, le-leb 1 dim g.low, le-leb dim 1024 g.high, lt-ltb 0 (width dtype) g.held)

-- a payload of one sound line and one sound block, which ends with the block
one_sound : (l : Line) (s : List ℕ) (k : ℕ) → block_count s ≡ 1 → line_of (drop 4 s) ≡ l → line_bad l ≡ 0 → filled 16 s ≡ true → l.offset ≡ 64
    → block_of l (drop 64 s) ≡ SoundBlock k → length s ≡ 64 + k → check_of s ≡ 0
unfolding check_of body_bad lines_bad blocks_bad first_of round64
one_sound l s k one line good fill at block n =
    rw
    (one, le-leb 4 (length s) (omega arith), le-leb 16 (length s) (omega arith), line, good, fill, eq-eqb l.offset 64 at, block, eq-eqb (length s) (64 + k) n)

module _ (ids columns : List ℕ) (dim dtype tier encoding interval : ℕ) (ok : vec_bad ids columns dim dtype tier encoding interval ≡ 0) (words : Words ids)
    (bytes : Bytes columns) where
  pub written_sound : check_of (vec_bytes ids columns dim dtype tier encoding interval) ≡ 0
  unfolding vec_bytes block_bytes padding line_for columns_length
  written_sound =
      let g = accepted ids columns dim dtype tier encoding interval ok in
      let m : List ℕ = map_bytes ids encoding interval in
      let c : List ℕ = le_bytes 4 (crc_of (columns ++ m)) in
      let p : List ℕ = padding (length (block_bytes columns m)) in
      let small : crc_of (columns ++ m) < 2 ^ 32 = crc_of_lt (columns ++ m) (bytes_append columns m bytes (map_bytes_bytes ids encoding interval)) in
      let size : length (block_bytes columns m) ≡ length columns + length m + 4 = length_block columns m in
      let block = block_sound (line_for (length ids) dim dtype tier) ids columns m c p (sym g.fits) (read_back ids (c ++ p) encoding interval g.map words)
      (length_le_bytes 4 (crc_of (columns ++ m))) (le_of_le_bytes 4 (crc_of (columns ++ m)) small) (rw size) in
      one_sound (line_for (length ids) dim dtype tier) (vec_bytes ids columns dim dtype tier encoding interval) (round64 (length columns + length m + 4))
      (one_block (length ids) dim dtype tier (block_bytes columns m ++ p))
      (line_is (length ids) dim dtype tier (block_bytes columns m ++ p) (omega (arith, g.most)) (omega (arith, g.high)))
      (line_good ids columns dim dtype tier encoding interval g (good ids encoding interval g.map).one)
      (fill_is (length ids) dim dtype tier (block_bytes columns m ++ p))
      refl
      (rw (block_at (length ids) dim dtype tier (block_bytes columns m ++ p)) block)
      (length_payload ids columns dim dtype tier encoding interval)
