-- The laws of specs/lines/Counts.antt.
-- Assumes nothing.
use Rattle.std.specs.Prelude.{ℕ, zero, suc, ◌+◌, ◌*◌, ◌≤◌, ◌<◌, ◌≡◌, refl, Bool, true, false, List, eqb, drop}
use Rattle.std.proofs.Common.{subst, add-one, arith, eqb-true}
use Rattle.std.proofs.lemmas.Bool.{eqb-false}
use Rattle.octets.specs.le.Le.{le_at}
use Rattle.answers.specs.limits.Limits.{max_vectors}
use Rattle.vecseg.specs.Payload.{line_of, block_count}
use Rattle.vecseg.proofs.LineLaws.{line_is, LinesAt, lines_first, lines_good, lines_on}
use Rattle.vec_read.specs.lines.Directory.{DirectoryGood}
use Rattle.vec_read.specs.lines.Counts.{CountsTo, CountsFit}

module _ (s : List ℕ) where
  pub counts_none : (most : ℕ) → CountsTo s 0 most
  counts_none most = record { fits = λ i h. absurd (omega arith) }

  -- a line more, of its count as the code reads it
  pub counts_next : (n most : ℕ) → CountsTo s n most → (count most' : ℕ) → count ≡ le_at 4 s (4 + 12 * n + 4) → (most ≤ most') × (count ≤ most') → CountsTo s (n + 1) most'
  counts_next n most st count most' c h = record { fits = λ i below. pick i (eqb i n) refl below }
    where
      pick : (i : ℕ) (t : Bool) → eqb i n ≡ t → i < n + 1 → (line_of (drop (4 + 12 * i) s)).count ≤ most'
      pick i true p below = rw (eqb-true i n p) (omega (arith, h, c, (line_is s (4 + 12 * n)).count))
      pick i false p below =
          let ne = eqb-false i n p in
          omega (arith, h, st.fits i (omega (arith, ne)))

  pub counts_last : (n i most : ℕ) → CountsTo s i most → n ≤ i → CountsTo s n most
  counts_last n i most st h = record { fits = λ k below. st.fits k (omega arith) }

  pub counts_more : (n most most' : ℕ) → CountsTo s n most → most ≤ most' → CountsTo s n most'
  counts_more n most most' st h = record { fits = λ k below. omega (arith, st.fits k below) }

  -- the count of a line, as the code reads it
  pub count_fits : (n most : ℕ) → CountsTo s n most → (i : ℕ) → i < n → (count : ℕ) → count ≡ le_at 4 s (4 + 12 * i + 4) → count ≤ most
  count_fits n most st i h count c = omega (arith, st.fits i h, (line_is s (4 + 12 * i)).count)

  -- a good directory has no count above the largest that may be
  module _ (g : DirectoryGood s) where
    passed : (i : ℕ) → i ≤ block_count s → LinesAt s (block_count s) i
    passed zero h = lines_first s (block_count s)
    passed (suc i) h = subst (LinesAt s (block_count s)) (add-one i) (lines_on s (block_count s) i (passed i (omega arith)) (omega arith) g.lines)

    pub counts_good : CountsFit s max_vectors
    counts_good = record { fits = λ i h. (lines_good s (block_count s) i (passed i (omega arith)) h g.lines).most }
