-- A turn of the walk over the blocks, by what the check of the block answered, of the numbers as the code reads them; and the walk's end.
-- Assumes nothing.
use Rattle.std.specs.Prelude.{ℕ, suc, ◌+◌, ◌-◌, ◌*◌, ◌≤◌, ◌<◌, ◌≡◌, Bool, length, get_or, drop, Result, Ok, Err, Some, None}
use Rattle.std.specs.Prelude.{Option as Maybe}
use Rattle.std.proofs.Math.Path.{refl, sym, ap}
use Rattle.std.proofs.Common.{subst, ◌∙◌, add-one, arith, drop-drop}
use Rattle.std.proofs.Math.Option.{Option, none, some}
use mathlib.Core.List.{List}
use Rattle.std.proofs.Math.ListN.{take}
use Rattle.octets.specs.Round.{round64}
use Rattle.octets.proofs.RoundLaws.{round64_ge}
use Rattle.octets.proofs.Parts.{tail_all}
use Rattle.octets.specs.le.Le.{le_of, le_at}
use Rattle.octets.specs.numbers.Numbers.{index_of}
use Rattle.crc32c.specs.Crc.{crc_of}
use Rattle.idmap.specs.Decode.{map_of, ids_of}
use Rattle.vecseg.specs.Payload.{Line, line_of, columns_length, block_count, lines_end, check_of}
use Rattle.vecseg.proofs.LineLaws.{line_is, LinesAt, lines_first, lines_good, lines_on}
use Rattle.vecseg.proofs.BlockLaws.{block_number, BlocksAt, blocks_first, blocks_offset, blocks_bad_are, blocks_next, blocks_end, blocks_more}
use Rattle.vecseg.specs.Find.{line_at, ids_at, find_up_to}
use Rattle.vecseg.proofs.FindLaws.{find_here, find_on}
use Rattle.vec_read.specs.declared.walk.Place.{Place as PlaceRead}
use Rattle.vec_read.specs.declared.walk.Searched.{Searched}
use Rattle.vec_read.specs.block.Block.{BlockSays, SoundTo, line_with}
use Rattle.vec_read.proofs.block.BlockLaws.{line_with_is, was_sound, was_bad}
use Rattle.vec_read.specs.lines.Directory.{DirectoryGood}
use Rattle.vec_read.proofs.lines.Directory.{start_inside, blocks_left}
use Rattle.vec_read.specs.walk.Walk.{place_read, sum_of, found_up_to, walked_of, asked_of}
use Rattle.vec_read.proofs.walk.WalkLaws.{looked_of, kept_at, walked_bad, walked_sound}
use Rattle.vec_read.specs.walk.Sum.{SumTo, Holds}
use Rattle.vec_read.proofs.walk.SumLaws.{sum_first, sum_kept}

-- where the walk stands: i blocks are passed, the next is to begin at `at`; the checksum and the place are of what stands before
pub record WalkAt (s : List ℕ) (id : Maybe ℕ) (summed : Bool) (i at value to : ℕ) (kept : Maybe PlaceRead) : Type 0 where
  pub blocks : BlocksAt s (block_count s) (round64 (lines_end s)) i at
  pub lines : LinesAt s (block_count s) i
  pub sum : SumTo summed s value to at
  pub kept_is : kept ≡ place_read (found_up_to i s id)

none_yet : (s : List ℕ) (id : Maybe ℕ) → None ≡ place_read (found_up_to 0 s id)
unfolding found_up_to find_up_to
none_yet s (Some id) = refl
none_yet s None = refl

pub walk_first : (s : List ℕ) → DirectoryGood s → (id : Maybe ℕ) (summed : Bool) (at : ℕ) → at ≡ round64 (lines_end s) → WalkAt s id summed 0 at 0 0 None
walk_first s g id summed at e =
    record {
      blocks = rw e (blocks_first s (block_count s) (round64 (lines_end s)) (start_inside s g));
      lines = lines_first s (block_count s);
      sum = sum_first summed s at;
      kept_is = none_yet s id;
    }

module _ (s : List ℕ) (g : DirectoryGood s) (id : Maybe ℕ) (summed : Bool) (i at value to : ℕ) (kept : Maybe PlaceRead)
    (st : WalkAt s id summed i at value to kept) where
  refused : (e : ℕ) → e ≡ check_of s → (e ≡ 0 → ⊥) → Err e ≡ walked_of summed s id
  refused = walked_bad summed s id

  module _ (h : i < block_count s) where
    pub turn_room : 4 + 12 * i + 12 ≤ length s
    turn_room = omega (arith, g.room)

    pub turn_offset : (le_at 4 s (4 + 12 * i) ≡ at → ⊥) → Err 5 ≡ walked_of summed s id
    turn_offset q =
        refused 5 (blocks_offset s _ _ i at st.blocks h (λ e. q (sym (line_is s (4 + 12 * i)).offset ∙ e)) ∙ blocks_left s g) (λ z. omega arith)

    module _ (here : le_at 4 s (4 + 12 * i) ≡ at) (count dim dtype : ℕ) (c : count ≡ le_at 4 s (4 + 12 * i + 4)) (d : dim ≡ le_at 2 s (4 + 12 * i + 8))
        (t : dtype ≡ get_or s (4 + 12 * i + 10) 0) where
      line : Line
      line = line_of (drop (4 + 12 * i) s)

      line-offset : line.offset ≡ at
      unfolding line
      line-offset = (line_is s (4 + 12 * i)).offset ∙ here

      line-count : line.count ≡ count
      unfolding line
      line-count = (line_is s (4 + 12 * i)).count ∙ sym c

      line-dim : line.dim ≡ dim
      unfolding line
      line-dim = (line_is s (4 + 12 * i)).dim ∙ sym d

      line-dtype : line.dtype ≡ dtype
      unfolding line
      line-dtype = (line_is s (4 + 12 * i)).dtype ∙ sym t

      -- the numbers of a line of a good directory are within bounds
      pub turn_bounds : (1 ≤ count) × (count ≤ 4096) × (dim ≤ 1024)
      unfolding line
      turn_bounds =
          let l = lines_good s (block_count s) i st.lines h g.lines in
          (omega (arith, l.one, line-count), omega (arith, l.most, line-count), omega (arith, l.at_most, line-dim))

      module _ (own : List ℕ) (b : Result ℕ ℕ) (says : BlockSays (line_with count dim dtype) (take (length s - at) (drop at s)) own b) where
        as_line : BlockSays line (drop at s) own b
        as_line =
            subst (λ (x : List ℕ). BlockSays line x own b) (tail_all s at)
            (line_with_is line count dim dtype line-count line-dim line-dtype (take (length s - at) (drop at s)) own b says)

        pub turn_bad : (e : ℕ) → b ≡ Err e → Err e ≡ walked_of summed s id
        unfolding line
        turn_bad e q =
            let bad = was_bad line (drop at s) own b as_line e q in
            refused e (blocks_bad_are s _ _ i at st.blocks h line-offset e bad ∙ blocks_left s g) (λ z. omega (arith, block_number line (drop at s) e bad))

        module _ (n : ℕ) (q : b ≡ Ok n) where
          sound : SoundTo line (drop at s) own n
          sound = was_sound line (drop at s) own b as_line n q

          passed : BlocksAt s (block_count s) (round64 (lines_end s)) (i + 1) (at + round64 (n + 4))
          unfolding line
          passed = blocks_next s _ _ i at st.blocks h line-offset (round64 (n + 4)) sound.sound

          pub turn_inside : at + round64 (n + 4) ≤ length s
          turn_inside = passed.inside

          pub turn_holds : Holds s at (at + n)
          turn_holds =
              let k : at + n - at ≡ n = omega arith in
              record {
                begins = omega arith;
                room = omega (arith, turn_inside, round64_ge (n + 4));
                known = ap (λ (x : List ℕ). le_of (take 4 x)) (sym (drop-drop n at s)) ∙ sound.checksum ∙ ap (λ (x : ℕ). crc_of (take x (drop at s))) (sym k);
              }

          -- the ids that the check has left are those of block i
          own-ids : take count own ≡ ids_at s i
          unfolding line ids_at line_at
          own-ids =
              ap (λ (x : ℕ). take x own) (sym line-count)
              ∙ sound.ids
              ∙ ap (λ (x : List ℕ). ids_of (map_of line.count x)) (drop-drop (columns_length line) at s)
              ∙ ap (λ (x : ℕ). ids_of (map_of line.count (drop (x + columns_length line) s))) (sym line-offset)

          here-at : (k : ℕ) → ◌≡◌ {A = Maybe PlaceRead} (Some (record { offset = at; count = count; dim = dim; dtype = dtype; index = k })) (place_read (some (record { line = line_at s i; index = k })))
          unfolding line line_at
          here-at k = rw (line-offset, line-count, line-dim, line-dtype)

          looked : looked_of (asked_of id (ids_at s i)) at count dim dtype kept ≡ place_read (found_up_to (suc i) s id)
          unfolding asked_of found_up_to
          looked = pick id st.kept_is
            where
              held : (x : ℕ) (o : Option ℕ) → index_of x (ids_at s i) ≡ o → kept ≡ place_read (find_up_to i s x)
                  → looked_of o at count dim dtype kept ≡ place_read (find_up_to (suc i) s x)
              held x none p w = w ∙ ap place_read (sym (find_on s x i p))
              held x (some k) p w = here-at k ∙ ap place_read (sym (find_here s x i k p))

              pick : (x : Maybe ℕ) → kept ≡ place_read (found_up_to i s x) → looked_of (asked_of x (ids_at s i)) at count dim dtype kept ≡ place_read (found_up_to (suc i) s x)
              pick (Some x) w = held x (index_of x (ids_at s i)) refl w
              pick None w = w

          pub turn_next : (k value' to' : ℕ) (kept' : Maybe PlaceRead) → k ≡ round64 (n + 4) → SumTo summed s value' to' (at + n)
              → kept' ≡ looked_of (asked_of id (take count own)) at count dim dtype kept → WalkAt s id summed (i + 1) (at + k) value' to' kept'
          turn_next k value' to' kept' e p w =
              record {
                blocks = rw e passed;
                lines = lines_on s (block_count s) i st.lines h g.lines;
                sum = sum_kept summed s value' to' (at + n) p (at + k) (omega (arith, round64_ge (n + 4)));
                kept_is = rw add-one (w ∙ ap (λ (x : List ℕ). looked_of (asked_of id x) at count dim dtype kept) own-ids ∙ looked);
              }

  -- ---- behind the last block

  module _ (h : block_count s ≤ i) where
    pub walk_more : (length s ≡ at → ⊥) → Err 5 ≡ walked_of summed s id
    walk_more q = refused 5 (blocks_more s _ _ i at st.blocks h q ∙ blocks_left s g) (λ z. omega arith)

    module _ (q : length s ≡ at) where
      pub walk_sum : SumTo summed s value to (length s)
      walk_sum = rw q st.sum

      all-looked : place_read (found_up_to (block_count s) s id) ≡ kept
      all-looked =
          let at_most = st.blocks.at_most in
          let e : block_count s ≡ i = omega arith in
          ap (λ (x : ℕ). place_read (found_up_to x s id)) e ∙ sym st.kept_is

      ok : check_of s ≡ 0
      ok = sym (blocks_end s _ _ i at st.blocks h q ∙ blocks_left s g)

      pub walk_found : (all : ℕ) → all ≡ sum_of summed s → ◌≡◌ {A = Result Searched ℕ} (Ok (record { sum = all; place = kept })) (walked_of summed s id)
      walk_found all a = walked_sound summed s id ok _ all a (kept_at _ all kept all-looked)
