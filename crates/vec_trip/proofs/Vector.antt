-- The laws of specs/Vector.antt.
-- Assumes nothing.
use Prim.Native.Nat.{ℕ, zero, suc, ◌+◌, ◌*◌, ◌≤◌, ◌<◌}
use Rattle.std.specs.Prelude.{◌≡◌, length}
use Rattle.std.proofs.Math.Path.{refl, sym, ap}
use Rattle.std.proofs.Common.{◌∙◌, mul-le-mul, mul_comm, drop-drop}
use mathlib.Core.List.{List, [], ◌++◌, append_assoc}
use Rattle.std.proofs.Math.Nat.{suc-mul}
use native.Mathlib.Omega.{arith}
use Rattle.std.proofs.Math.ListN.{drop, length-append, length-drop}
use Rattle.std.proofs.Math.Seq.{drop-append-le, length-take-le}
use Rattle.std.proofs.lemmas.List.{take-append-le}
use Rattle.octets.specs.le.Le.{le_bytes}
use Rattle.crc32c.specs.Crc.{crc_of}
use Rattle.idmap.specs.Encode.{map_bytes}
use Rattle.vecseg.specs.Payload.{width}
use Rattle.vecseg.specs.Find.{value_at, values_from, vector_of}
use Rattle.vecseg.specs.Writer.{vec_bad, vec_bytes, block_bytes}
use Rattle.octets.specs.Round.{padding}
use Rattle.vecseg.proofs.WriterLaws.{accepted}
use Rattle.vec_trip.specs.Shape.{line_for}
use Rattle.vec_trip.proofs.Shape.{block_at}
use Rattle.vec_trip.specs.Vector.{column_value}

-- ---- a vector out of columns, which hold all values of dimension 0 first

-- n values from dimension d on, and all of them in dimension order
unfoldable pub column_values : List ℕ → ℕ → ℕ → ℕ → ℕ → ℕ → List ℕ
column_values columns count w k zero d = []
column_values columns count w k (suc n) d = column_value columns count w k d ++ column_values columns count w k n (suc d)

unfoldable pub column_vector : List ℕ → ℕ → ℕ → ℕ → ℕ → List ℕ
column_vector columns count dim w k = column_values columns count w k dim 0

-- the columns hold each value whole
value_within : (count dim w k d : ℕ) → k < count → d < dim → (d * count + k) * w + w ≤ count * dim * w
value_within count dim w k d hk hd =
    let row : suc d * count ≤ dim * count = mul-le-mul {n₁ = suc d} {m₁ = count} {n₂ = dim} {m₂ = count} (omega arith) (omega arith) in
    let e = suc-mul d count in
    let f = mul_comm dim count in
    let cell : suc (d * count + k) * w ≤ count * dim * w = mul-le-mul {n₁ = suc (d * count + k)} {m₁ = w} {n₂ = count * dim} {m₂ = w} (omega arith) (omega arith) in
    omega (arith, suc-mul (d * count + k) w)

-- ---- how long

module _ (columns : List ℕ) (count dim w k : ℕ) (fits : length columns ≡ count * dim * w) (within : k < count) where
  length-value : (d : ℕ) → d < dim → length (column_value columns count w k d) ≡ w
  unfolding column_value
  length-value d h =
      let v = value_within count dim w k d within h in
      length-take-le w (drop ((d * count + k) * w) columns) (omega (arith, length-drop ((d * count + k) * w) columns))

  length-values : (n d : ℕ) → d + n ≤ dim → length (column_values columns count w k n d) ≡ n * w
  unfolding column_values
  length-values zero d h = omega arith
  length-values (suc n) d h =
      length-append (column_value columns count w k d) (column_values columns count w k n (suc d))
      ∙ omega (arith, length-value d (omega arith), length-values n (suc d) (omega arith), suc-mul n w)

  -- a vector has dim values of w bytes
  pub length_vector : length (column_vector columns count dim w k) ≡ dim * w
  unfolding column_vector
  length_vector = length-values dim 0 (omega arith)

-- ---- columns that stand in a payload from 64 on, with anything behind them

module _ (s columns rest : List ℕ) (count dim dtype tier k : ℕ) (at : drop 64 s ≡ columns ++ rest) (fits : length columns ≡ count * dim * width dtype)
    (within : k < count) where
  value-is : (d : ℕ) → d < dim → value_at s (record { line = line_for count dim dtype tier; index = k }) d ≡ column_value columns count (width dtype) k d
  unfolding value_at column_value line_for
  value-is d h =
      let v = value_within count dim (width dtype) k d within h in
      let there : drop (64 + (d * count + k) * width dtype) s ≡ drop ((d * count + k) * width dtype) columns ++ rest =
      sym (drop-drop ((d * count + k) * width dtype) 64 s) ∙ ap (drop ((d * count + k) * width dtype)) at ∙ drop-append-le ((d * count + k) * width dtype) columns rest (omega arith) in
      rw there (take-append-le (width dtype) (drop ((d * count + k) * width dtype) columns) rest (omega (arith, length-drop ((d * count + k) * width dtype) columns)))

  values-are : (n d : ℕ) → d + n ≤ dim
      → values_from s (record { line = line_for count dim dtype tier; index = k }) n d ≡ column_values columns count (width dtype) k n d
  unfolding values_from column_values
  values-are zero d h = refl
  values-are (suc n) d h = rw (value-is d (omega arith), values-are n (suc d) (omega arith))

  vector-is : vector_of s (record { line = line_for count dim dtype tier; index = k }) ≡ column_vector columns count dim (width dtype) k
  unfolding vector_of column_vector line_for
  vector-is = values-are dim 0 (omega arith)

-- ---- the payload

module _ (ids columns : List ℕ) (dim dtype tier encoding interval : ℕ) (ok : vec_bad ids columns dim dtype tier encoding interval ≡ 0) where
  columns-at : drop 64 (vec_bytes ids columns dim dtype tier encoding interval)
      ≡ columns ++ (map_bytes ids encoding interval ++ (le_bytes 4 (crc_of (columns ++ map_bytes ids encoding interval)) ++ padding (length (block_bytes columns (map_bytes ids encoding interval)))))
  unfolding vec_bytes block_bytes
  columns-at =
      let m : List ℕ = map_bytes ids encoding interval in
      let c : List ℕ = le_bytes 4 (crc_of (columns ++ m)) in
      let p : List ℕ = padding (length (block_bytes columns m)) in
      block_at (length ids) dim dtype tier (block_bytes columns m ++ p) ∙ append_assoc (columns ++ m) c p ∙ append_assoc columns m (c ++ p)

  -- the vector at each place is its values out of the columns, in dimension order
  pub written_vector : (k : ℕ) → k < length ids
      → vector_of (vec_bytes ids columns dim dtype tier encoding interval) (record { line = line_for (length ids) dim dtype tier; index = k })
      ≡ column_vector columns (length ids) dim (width dtype) k
  written_vector k h =
      let g = accepted ids columns dim dtype tier encoding interval ok in
      vector-is (vec_bytes ids columns dim dtype tier encoding interval) columns _ (length ids) dim dtype tier k columns-at g.fits h
