-- The laws of specs/lines/Directory.antt.
-- Assumes nothing.
use Rattle.std.specs.Prelude.{ℕ, ◌+◌, ◌*◌, ◌≤◌, ◌<◌, ◌≡◌, refl, true, false, List, length, drop}
use Rattle.std.proofs.Common.{sym, ap, ◌∙◌, arith}
use Rattle.octets.specs.Round.{round64}
use Rattle.vecseg.specs.Payload.{lines_bad, filled, blocks_bad, block_count, lines_end, check_of}
use Rattle.vecseg.proofs.BlockLaws.{filled_fits}
use Rattle.vecseg.proofs.CheckLaws.{check_short, check_many, check_lines_short, check_lines, check_fill, check_blocks}
use Rattle.vec_read.specs.lines.Directory.{DirectoryGood, DirectoryRead}

-- behind a good directory the blocks begin within the payload, and they are what is left to check
pub start_inside : (s : List ℕ) → DirectoryGood s → round64 (lines_end s) ≤ length s
start_inside s g = filled_fits (lines_end s) s g.fill

pub blocks_left : (s : List ℕ) → DirectoryGood s → blocks_bad (block_count s) (round64 (lines_end s)) (drop 4 s) s ≡ check_of s
blocks_left s g = check_blocks s g.four g.most g.room g.lines g.fill

-- ---- the ways out, where the code has read how many blocks there are

refused : (s : List ℕ) (r : ℕ) → (r ≡ 0 → ⊥) → r ≡ check_of s → DirectoryRead s r
refused s r nz e = record { good = λ z. absurd (nz z); bad = λ n. e }

five : (s : List ℕ) → 5 ≡ check_of s → DirectoryRead s 5
five s e = refused s 5 (λ z. omega arith) e

module _ (s : List ℕ) where
  pub directory_short : length s < 4 → DirectoryRead s 5
  directory_short h = five s (check_short s h)

  module _ (four : 4 ≤ length s) (blocks : ℕ) (is : blocks ≡ block_count s) where
    pub directory_many : 64 < blocks → DirectoryRead s 5
    directory_many h = five s (check_many s four (omega arith))

    module _ (most : blocks ≤ 64) where
      pub directory_cut : length s < 4 + 12 * blocks → DirectoryRead s 5
      directory_cut h = five s (check_lines_short s four (omega arith) (omega arith))

      module _ (room : 4 + 12 * blocks ≤ length s) where
        pub directory_lines : (r : ℕ) → r ≡ lines_bad blocks (drop 4 s) → (r ≡ 0 → ⊥) → DirectoryRead s r
        directory_lines r e nz =
            refused s r nz (check_lines s four (omega arith) (omega arith) r (e ∙ ap (λ (n : ℕ). lines_bad n (drop 4 s)) is) nz)

        module _ (lines : lines_bad blocks (drop 4 s) ≡ 0) where
          lines_are : lines_bad (block_count s) (drop 4 s) ≡ 0
          lines_are = ap (λ (n : ℕ). lines_bad n (drop 4 s)) (sym is) ∙ lines

          pub directory_fill : filled (4 + 12 * blocks) s ≡ false → DirectoryRead s 5
          directory_fill f =
              five s (check_fill s four (omega arith) (omega arith) lines_are (ap (λ (n : ℕ). filled (4 + 12 * n) s) (sym is) ∙ f))

          pub directory_good : filled (4 + 12 * blocks) s ≡ true → DirectoryRead s 0
          directory_good f =
              let g : DirectoryGood s = record {
                four = four;
                most = omega arith;
                room = omega arith;
                lines = lines_are;
                fill = ap (λ (n : ℕ). filled (4 + 12 * n) s) (sym is) ∙ f;
              } in
              record { good = λ z. g; bad = λ nz. absurd (nz refl) }
