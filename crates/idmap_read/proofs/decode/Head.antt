-- An id map by its head: the ways out, one law each, of the function that reads it.
-- Assumes nothing.
use Rattle.std.specs.Prelude.{ℕ, ◌≤◌, ◌<◌, ◌≡◌, List, length, get_or}
use Rattle.std.proofs.Common.{◌∙◌, arith}
use borrow.Author.Tests.{le-leb, lt-leb, lt-ltb, eq-eqb, ne_eqb}
use Rattle.octets.specs.le.Le.{le_at}
use Rattle.idmap.specs.Decode.{Broken, raw_map, delta_map, map_body, map_of}

-- ---- the map by its head, of a count within bounds
module _ (count : ℕ) (s : List ℕ) (one : 1 ≤ count) (most : count ≤ 4096) where
  pub head_short : length s < 7 → map_of count s ≡ Broken
  unfolding map_of
  head_short h = rw (le-leb 1 count one, le-leb count 4096 most, lt-leb 7 (length s) h)

  module _ (seven : 7 ≤ length s) where
    pub head_count : (le_at 4 s 3 ≡ count → ⊥) → map_of count s ≡ Broken
    unfolding map_of
    head_count h = rw (le-leb 1 count one, le-leb count 4096 most, le-leb 7 (length s) seven, ne_eqb (le_at 4 s 3) count h)

    module _ (same : le_at 4 s 3 ≡ count) where
      body : map_of count s ≡ map_body (get_or s 0 0) (le_at 2 s 1) count s
      unfolding map_of
      body = rw (le-leb 1 count one, le-leb count 4096 most, le-leb 7 (length s) seven, eq-eqb (le_at 4 s 3) count same)

      pub head_raw : get_or s 0 0 ≡ 0 → le_at 2 s 1 ≡ 0 → map_of count s ≡ raw_map count s
      unfolding map_body
      head_raw e r = body ∙ rw (e, r)

      pub head_raw_interval : get_or s 0 0 ≡ 0 → (le_at 2 s 1 ≡ 0 → ⊥) → map_of count s ≡ Broken
      unfolding map_body
      head_raw_interval e r = body ∙ rw (e, ne_eqb (le_at 2 s 1) 0 r)

      pub head_delta : get_or s 0 0 ≡ 1 → 0 < le_at 2 s 1 → map_of count s ≡ delta_map (le_at 2 s 1) count s
      unfolding map_body
      head_delta e r = body ∙ rw (e, lt-ltb 0 (le_at 2 s 1) r)

      pub head_delta_interval : get_or s 0 0 ≡ 1 → le_at 2 s 1 ≡ 0 → map_of count s ≡ Broken
      unfolding map_body
      head_delta_interval e r = body ∙ rw (e, r)

      pub head_other : (get_or s 0 0 ≡ 0 → ⊥) → (get_or s 0 0 ≡ 1 → ⊥) → map_of count s ≡ Broken
      unfolding map_body
      head_other e f = body ∙ rw (ne_eqb (get_or s 0 0) 0 e, ne_eqb (get_or s 0 0) 1 f)

-- ---- a count out of bounds
pub count_none : (count : ℕ) (s : List ℕ) → count < 1 → map_of count s ≡ Broken
unfolding map_of
count_none count s h = rw (lt-leb 1 count h)

pub count_over : (count : ℕ) (s : List ℕ) → 4096 < count → map_of count s ≡ Broken
unfolding map_of
count_over count s h = rw (le-leb 1 count (omega arith), lt-leb count 4096 h)
