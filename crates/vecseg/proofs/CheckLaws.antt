-- Laws of the whole check: its ways out, and what a sound payload says of each of its blocks.
-- Assumes nothing.
use Rattle.std.specs.Prelude.{ℕ, zero, suc, ◌+◌, ◌*◌, ◌≤◌, ◌<◌, ◌≡◌, refl, Bool, true, false, cond, ◌&&◌, List, eqb, leb, length, drop}
use Rattle.std.proofs.Math.Path.{sym}
use Rattle.std.proofs.Common.{ap, ◌∙◌, arith, drop-drop}
use borrow.Author.Tests.{le-leb, lt-leb, leb-true, eqb-true}
use Rattle.octets.specs.Round.{round64}
use Rattle.answers.specs.limits.Limits.{max_blocks}
use Rattle.vecseg.specs.Payload.{line_of, first_of, lines_bad, filled, BlockRead, SoundBlock, BadBlock, block_of, blocks_bad, block_count, lines_end, body_bad, check_of}
use Rattle.vecseg.proofs.LineLaws.{LineGood, LinesAt, lines_first, lines_good, lines_on, first_none, first_bad, first_zero}
use Rattle.octets.proofs.ZeroLaws.{and_split}
use Rattle.vecseg.specs.BlockGood.{BlockGood}
use Rattle.vecseg.proofs.BlockLaws.{block_good, block_number}

-- ---- the ways out

module _ (s : List ℕ) where
  pub check_short : length s < 4 → 5 ≡ check_of s
  unfolding check_of
  check_short h = rw (lt-leb 4 (length s) h)

  module _ (four : 4 ≤ length s) where
    pub check_many : 64 < block_count s → 5 ≡ check_of s
    unfolding check_of
    check_many h = rw (le-leb 4 (length s) four, lt-leb (block_count s) 64 h)

    module _ (most : block_count s ≤ 64) where
      pub check_lines_short : length s < lines_end s → 5 ≡ check_of s
      unfolding check_of
      check_lines_short h = rw (le-leb 4 (length s) four, le-leb (block_count s) 64 most, lt-leb (lines_end s) (length s) h)

      module _ (room : lines_end s ≤ length s) where
        body : check_of s ≡ body_bad s
        unfolding check_of
        body = rw (le-leb 4 (length s) four, le-leb (block_count s) 64 most, le-leb (lines_end s) (length s) room)

        pub check_lines : (b : ℕ) → b ≡ lines_bad (block_count s) (drop 4 s) → (b ≡ 0 → ⊥) → b ≡ check_of s
        unfolding body_bad
        check_lines b e nz = e ∙ sym (first_bad _ _ (λ z. nz (e ∙ z))) ∙ sym body

        module _ (lines : lines_bad (block_count s) (drop 4 s) ≡ 0) where
          pub check_fill : filled (lines_end s) s ≡ false → 5 ≡ check_of s
          unfolding body_bad
          check_fill f = sym (body ∙ first_none _ _ lines ∙ rw f)

          pub check_blocks : filled (lines_end s) s ≡ true → blocks_bad (block_count s) (round64 (lines_end s)) (drop 4 s) s ≡ check_of s
          unfolding body_bad
          check_blocks f = sym (body ∙ first_none _ _ lines ∙ rw f)

-- ---- what a sound payload says

pub record Sound (s : List ℕ) : Type 0 where
  pub four : 4 ≤ length s
  pub most : block_count s ≤ 64
  pub room : lines_end s ≤ length s
  pub lines : lines_bad (block_count s) (drop 4 s) ≡ 0
  pub blocks : blocks_bad (block_count s) (round64 (lines_end s)) (drop 4 s) s ≡ 0

pub sound : (s : List ℕ) → check_of s ≡ 0 → Sound s
unfolding check_of body_bad
sound s e = pick (leb 4 (length s) && leb (block_count s) max_blocks && leb (lines_end s) (length s)) refl e
  where
    fills : (t : Bool) (b : ℕ) → cond t b 5 ≡ 0 → b ≡ 0
    fills true b q = q
    fills false b q = absurd (omega arith)

    pick : (t : Bool) → leb 4 (length s) && leb (block_count s) max_blocks && leb (lines_end s) (length s) ≡ t
        → cond t (first_of (lines_bad (block_count s) (drop 4 s)) (cond (filled (lines_end s) s) (blocks_bad (block_count s) (round64 (lines_end s)) (drop 4 s) s) 5)) 5 ≡ 0
        → Sound s
    pick false p q = absurd (omega arith)
    pick true p q =
        let a = and_split _ _ p in
        let b = and_split _ _ a.0 in
        let f = first_zero (lines_bad (block_count s) (drop 4 s)) _ q in
        record {
          four = leb-true 4 (length s) b.0;
          most = leb-true (block_count s) 64 b.1;
          room = leb-true (lines_end s) (length s) a.1;
          lines = f.0;
          blocks = fills (filled (lines_end s) s) _ f.1;
        }

-- each line is good
pub sound_line : (s : List ℕ) → Sound s → (i : ℕ) → i < block_count s → LineGood (line_of (drop (4 + 12 * i) s))
sound_line s g i h = lines_good s (block_count s) i (to i (omega arith)) h g.lines
  where
    to : (j : ℕ) → j ≤ block_count s → LinesAt s (block_count s) j
    to zero k = lines_first s (block_count s)
    to (suc j) k =
        let e : j + 1 ≡ suc j = omega arith in
        rw e at (lines_on s (block_count s) j (to j (omega arith)) (omega arith) g.lines)

-- each block is sound, and begins where its line says
from : (n at : ℕ) (p : ℕ) (s : List ℕ) → blocks_bad n at (drop p s) s ≡ 0 → (i : ℕ) → i < n
    → (k : ℕ) × (block_of (line_of (drop (p + 12 * i) s)) (drop (line_of (drop (p + 12 * i) s)).offset s) ≡ SoundBlock k)
unfolding blocks_bad
from zero at p s e i h = absurd (omega arith)
from (suc n) at p s e i h =
    go (eqb (line_of (drop p s)).offset at) (block_of (line_of (drop p s)) (drop at s)) i h refl refl e (λ k. from n (at + k) (p + 12) s)
  where
    go : (t : Bool) (b : BlockRead) (i : ℕ) → i < suc n → eqb (line_of (drop p s)).offset at ≡ t → block_of (line_of (drop p s)) (drop at s) ≡ b
        → ◌≡◌ {A = ℕ} (cond t (elim b [ BadBlock x ↦ x | SoundBlock k ↦ blocks_bad n (at + k) (drop 12 (drop p s)) s ]) 5) 0
        → ((k : ℕ) → blocks_bad n (at + k) (drop (p + 12) s) s ≡ 0 → (j : ℕ) → j < n
        → (m : ℕ) × (block_of (line_of (drop (p + 12 + 12 * j) s)) (drop (line_of (drop (p + 12 + 12 * j) s)).offset s) ≡ SoundBlock m))
        → (k : ℕ) × (block_of (line_of (drop (p + 12 * i) s)) (drop (line_of (drop (p + 12 * i) s)).offset s) ≡ SoundBlock k)
    go false b i h o q z ih = absurd (omega arith)
    go true (BadBlock x) i h o q z ih = absurd (omega (arith, block_number _ _ x q))
    go true (SoundBlock k) zero h o q z ih =
        let e : p + 12 * 0 ≡ p = omega arith in
        let here : (line_of (drop p s)).offset ≡ at = eqb-true _ _ o in
        (k, rw e (ap (λ (a : ℕ). block_of (line_of (drop p s)) (drop a s)) here ∙ q))
    go true (SoundBlock k) (suc i) h o q z ih =
        let e : p + 12 + 12 * i ≡ p + 12 * suc i = omega arith in
        rw e at (ih k (rw (drop-drop 12 p s) at z) i (omega arith))

pub sound_block : (s : List ℕ) → Sound s → (i : ℕ) → i < block_count s
    → (k : ℕ) × BlockGood (line_of (drop (4 + 12 * i) s)) (drop (line_of (drop (4 + 12 * i) s)).offset s) k
sound_block s g i h =
    let w = from (block_count s) (round64 (lines_end s)) 4 s g.blocks i h in
    (w.0, block_good _ _ w.0 w.1)
