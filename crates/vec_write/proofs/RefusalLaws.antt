-- What the vector writer refuses, one law for each way out, and what is known of an input that it accepts.
-- Assumes nothing.
use Rattle.std.specs.Prelude.{ℕ, ◌*◌, ◌≤◌, ◌<◌, ◌≡◌, refl, Bool, true, false, cond, List, eqb, length}
use Rattle.std.proofs.Math.Path.{sym}
use Rattle.std.proofs.Common.{◌∙◌, arith}
use borrow.Author.Tests.{le-leb, lt-leb, lt-ltb, le-ltb, eq-eqb, ne_eqb}
use Rattle.idmap.specs.Encode.{map_bad}
use Rattle.idmap_write.proofs.refusal.RefusalLaws as map
use Rattle.vecseg.specs.Payload.{width}
use Rattle.vecseg.specs.Writer.{vec_bad}

-- ---- refused

module _ (ids columns : List ℕ) (dim dtype tier encoding interval w : ℕ) (is : w ≡ width dtype) where
  pub bad_dtype : w ≡ 0 → 14 ≡ vec_bad ids columns dim dtype tier encoding interval
  unfolding vec_bad
  bad_dtype z =
      let e : width dtype ≡ 0 = sym is ∙ z in
      rw e

  module _ (held : w ≡ 0 → ⊥) where
    some_bytes : 0 < width dtype
    some_bytes = omega arith

    pub bad_low : dim < 1 → 14 ≡ vec_bad ids columns dim dtype tier encoding interval
    unfolding vec_bad
    bad_low h = rw (lt-ltb 0 (width dtype) some_bytes, lt-leb 1 dim h)

    module _ (low : 1 ≤ dim) where
      pub bad_high : 1024 < dim → 14 ≡ vec_bad ids columns dim dtype tier encoding interval
      unfolding vec_bad
      bad_high h = rw (lt-ltb 0 (width dtype) some_bytes, le-leb 1 dim low, lt-leb dim 1024 h)

      module _ (high : dim ≤ 1024) where
        pub bad_tier : 255 < tier → 14 ≡ vec_bad ids columns dim dtype tier encoding interval
        unfolding vec_bad
        bad_tier h = rw (lt-ltb 0 (width dtype) some_bytes, le-leb 1 dim low, le-leb dim 1024 high, le-ltb tier 256 (omega arith))

        module _ (byte : tier ≤ 255) where
          rest : vec_bad ids columns dim dtype tier encoding interval ≡ cond (eqb (length columns) (length ids * dim * w)) (map_bad ids encoding interval) 14
          unfolding vec_bad
          rest = rw (lt-ltb 0 (width dtype) some_bytes, le-leb 1 dim low, le-leb dim 1024 high, lt-ltb tier 256 (omega arith), is)

          -- more ids than a block holds: 14 by the map's rules, whatever the columns are
          pub bad_many : 4096 < length ids → 14 ≡ vec_bad ids columns dim dtype tier encoding interval
          bad_many h = rw rest (pick (eqb (length columns) (length ids * dim * w)))
            where
              pick : (t : Bool) → 14 ≡ cond t (map_bad ids encoding interval) 14
              pick true = map.bad_many ids encoding interval h
              pick false = refl

          pub bad_columns : (length columns ≡ length ids * dim * w → ⊥) → 14 ≡ vec_bad ids columns dim dtype tier encoding interval
          bad_columns h = rw (rest, ne_eqb (length columns) (length ids * dim * w) h)

          pub bad_map : (r : ℕ) → r ≡ map_bad ids encoding interval → length columns ≡ length ids * dim * w → r ≡ vec_bad ids columns dim dtype tier encoding interval
          bad_map r e h = rw (rest, eq-eqb (length columns) (length ids * dim * w) h, e)
