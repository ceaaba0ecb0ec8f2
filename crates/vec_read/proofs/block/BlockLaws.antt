-- The laws of specs/block/Block.antt.
-- Assumes nothing.
use Rattle.std.specs.Prelude.{ℕ, ◌+◌, ◌-◌, ◌*◌, ◌≤◌, ◌<◌, ◌≡◌, true, false, List, length, drop, Result, Ok, Err}
use Rattle.std.proofs.Math.Path.{sym, ap}
use Rattle.std.proofs.Common.{subst, ◌∙◌}
use Rattle.std.proofs.Math.ListN.{take}
use Rattle.octets.proofs.Parts.{tail_all}
use Rattle.octets.specs.le.Le.{le_at}
use Rattle.crc32c.specs.Crc.{crc_of}
use Rattle.idmap.specs.Decode.{map_of, ids_of, map_answer}
use Rattle.idmap.specs.DecodeLaws.{Filled}
use Rattle.idmap.proofs.DecodeLaws.{map_five, was_whole}
use Rattle.idmap.proofs.Count.{whole_count}
use Rattle.vecseg.specs.Payload.{Line, width, columns_length, filled, BadBlock, block_end, block_of}
use Rattle.vecseg.proofs.BlockLaws.{filled_fits, block_short, block_broken, block_end_is, block_map_fits, end_short, end_checksum, end_padding, end_sound}
use Rattle.vec_read.specs.block.Block.{line_with, SoundTo, BlockSays}

module _ (l : Line) (count dim dtype : ℕ) (p : l.count ≡ count) (q : l.dim ≡ dim) (r : l.dtype ≡ dtype) (s own : List ℕ) where
  same_block : block_of (line_with count dim dtype) s ≡ block_of l s
  unfolding block_of line_with columns_length
  same_block = rw (← p, ← q, ← r)

  same-ids : ids_of (map_of count (drop (columns_length (line_with count dim dtype)) s)) ≡ ids_of (map_of l.count (drop (columns_length l) s))
  unfolding line_with columns_length
  same-ids = rw (← p, ← q, ← r)

  pub line_with_is : (b : Result ℕ ℕ) → BlockSays (line_with count dim dtype) s own b → BlockSays l s own b
  unfolding BlockSays line_with
  line_with_is (Err e) h = sym same_block ∙ h
  line_with_is (Ok end) h =
      record { sound = sym same_block ∙ h.sound; room = h.room; checksum = h.checksum; ids = ap (λ (n : ℕ). take n own) p ∙ h.ids ∙ same-ids }

-- the cases, as a caller meets them
pub was_sound : (l : Line) (s own : List ℕ) (b : Result ℕ ℕ) → BlockSays l s own b → (end : ℕ) → b ≡ Ok end → SoundTo l s own end
unfolding BlockSays
was_sound l s own b h end e = subst (BlockSays l s own) e h

pub was_bad : (l : Line) (s own : List ℕ) (b : Result ℕ ℕ) → BlockSays l s own b → (n : ℕ) → b ≡ Err n → block_of l s ≡ BadBlock n
unfolding BlockSays
was_bad l s own b h n e = subst (BlockSays l s own) e h

answers_bad : (l : Line) (s own : List ℕ) (e : ℕ) → block_of l s ≡ BadBlock e → BlockSays l s own (Err e)
unfolding BlockSays
answers_bad l s own e p = p

answers_sound : (l : Line) (s own : List ℕ) (end : ℕ) → SoundTo l s own end → BlockSays l s own (Ok end)
unfolding BlockSays
answers_sound l s own end h = h

-- ---- the ways out of a block's check, of the numbers as the code has them

pub columns_are : (count dim dtype w : ℕ) → w ≡ width dtype → count * dim * w ≡ columns_length (line_with count dim dtype)
unfolding columns_length line_with
columns_are count dim dtype w e = rw e

module _ (s own : List ℕ) (count dim dtype columns : ℕ) (is : columns ≡ columns_length (line_with count dim dtype)) where
  pub check_columns : length s < columns → BlockSays (line_with count dim dtype) s own (Err 5)
  check_columns h = answers_bad _ s own 5 (block_short (line_with count dim dtype) s (rw is at h))

  module _ (room : columns ≤ length s) where
    there : columns_length (line_with count dim dtype) ≤ length s
    there = rw is at room

    same_map : map_of count (drop (columns_length (line_with count dim dtype)) s) ≡ map_of count (take (length s - columns) (drop columns s))
    same_map = ap (map_of count) (ap (λ (n : ℕ). drop n s) (sym is) ∙ sym (tail_all s columns))

    as-map : (a : Result ℕ ℕ) → map_answer (map_of count (take (length s - columns) (drop columns s))) ≡ a → map_answer (map_of count (drop (columns_length (line_with count dim dtype)) s)) ≡ a
    as-map a p = ap map_answer same_map ∙ p

    pub check_broken : (e : ℕ) → map_answer (map_of count (take (length s - columns) (drop columns s))) ≡ Err e → BlockSays (line_with count dim dtype) s own (Err e)
    unfolding line_with
    check_broken e p =
        rw (map_five _ e p) (answers_bad _ s own 5 (block_broken (line_with count dim dtype) s there e (as-map (Err e) p)))

    module _ (n : ℕ) (p : map_answer (map_of count (take (length s - columns) (drop columns s))) ≡ Ok n) where
      pub check_fits : columns + n ≤ length s
      unfolding line_with
      check_fits = rw is (block_map_fits (line_with count dim dtype) s there n (as-map (Ok n) p))

      to_end : block_of (line_with count dim dtype) s ≡ block_end (columns + n) s
      unfolding line_with
      to_end = rw is (block_end_is (line_with count dim dtype) s there n (as-map (Ok n) p))

      pub check_end : length s < columns + n + 4 → BlockSays (line_with count dim dtype) s own (Err 5)
      check_end h = answers_bad _ s own 5 (to_end ∙ end_short (columns + n) s h)

      module _ (four : columns + n + 4 ≤ length s) where
        pub check_checksum : (le_at 4 s (columns + n) ≡ crc_of (take (columns + n) s) → ⊥) → BlockSays (line_with count dim dtype) s own (Err 7)
        check_checksum h = answers_bad _ s own 7 (to_end ∙ end_checksum (columns + n) s four h)

        module _ (same : le_at 4 s (columns + n) ≡ crc_of (take (columns + n) s)) where
          pub check_padding : filled (columns + n + 4) s ≡ false → BlockSays (line_with count dim dtype) s own (Err 5)
          check_padding h = answers_bad _ s own 5 (to_end ∙ end_padding (columns + n) s four same h)

          -- the map is whole, so that it has as many ids as were asked for
          own-ids : Filled (map_of count (take (length s - columns) (drop columns s))) own → take count own ≡ ids_of (map_of count (drop (columns_length (line_with count dim dtype)) s))
          own-ids f =
              let m = map_of count (take (length s - columns) (drop columns s)) in
              let k : length (ids_of m) ≡ count = (whole_count count (take (length s - columns) (drop columns s)) n (ids_of m) (was_whole m n p)).0 in
              ap (λ (i : ℕ). take i own) (sym k) ∙ f ∙ ap ids_of (sym same_map)

          pub check_sound : filled (columns + n + 4) s ≡ true → Filled (map_of count (take (length s - columns) (drop columns s))) own
              → BlockSays (line_with count dim dtype) s own (Ok (columns + n))
          unfolding line_with
          check_sound h f =
              answers_sound _ s own (columns + n)
              (record { sound = to_end ∙ end_sound (columns + n) s four same h; room = filled_fits (columns + n + 4) s h; checksum = same; ids = own-ids f })
