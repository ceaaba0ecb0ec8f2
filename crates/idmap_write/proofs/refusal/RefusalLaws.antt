-- What an id map is refused for: where the loop over the ids stands, and one law for each way out.
-- Assumes nothing.
use Rattle.std.specs.Prelude.{ℕ, suc, ◌+◌, ◌≤◌, ◌<◌, ◌≡◌, refl, true, cond, ◌&&◌, List, eqb, leb, ltb, length, get_or, drop, Some, None}
use Rattle.std.specs.Prelude.{Option as Maybe}
use Rattle.std.proofs.Math.Path.{sym}
use Rattle.std.proofs.Common.{◌∙◌, add-one, arith, drop_of_length-le, drop-cons}
use Rattle.std.proofs.Math.Bool.{false}
use borrow.Author.Tests.{le-leb, lt-leb, ne_eqb}
use Rattle.idmap.specs.Encode.{rises_from, interval_held, map_bad}
use Rattle.idmap.specs.DecodeLaws.{low_of}
use Rattle.idmap.proofs.DecodeLaws.{low_more}

-- ---- rising ids: where the loop stands

pub record RiseAt (ids : List ℕ) (i : ℕ) (prev : Maybe ℕ) : Type 0 where
  pub at_most : i ≤ length ids
  pub same : rises_from (low_of prev) (drop i ids) ≡ rises_from 0 ids

pub rise_first : (ids : List ℕ) → RiseAt ids 0 None
rise_first ids = record { at_most = omega arith; same = refl }

module _ (ids : List ℕ) (i : ℕ) (prev : Maybe ℕ) (st : RiseAt ids i prev) (h : i < length ids) where
  pub rise_next : leb (low_of prev) (get_or ids i 0) ≡ true → RiseAt ids (i + 1) (Some (get_or ids i 0))
  unfolding rises_from
  rise_next up =
      let one : rises_from (low_of prev) (drop i ids) ≡ rises_from (suc (get_or ids i 0)) (drop (suc i) ids) = rw (drop-cons ids i 0 h, up) in
      record { at_most = omega arith; same = rw (low_more (get_or ids i 0), add-one i) (sym one ∙ st.same) }

  pub rise_stop : leb (low_of prev) (get_or ids i 0) ≡ false → false ≡ rises_from 0 ids
  unfolding rises_from
  rise_stop up =
      let one : rises_from (low_of prev) (drop i ids) ≡ false = rw (drop-cons ids i 0 h, up) in
      sym one ∙ st.same

pub rise_last : (ids : List ℕ) (i : ℕ) (prev : Maybe ℕ) → RiseAt ids i prev → length ids ≤ i → true ≡ rises_from 0 ids
unfolding rises_from
rise_last ids i prev st h =
    let one : rises_from (low_of prev) (drop i ids) ≡ true = rw (drop_of_length-le ids {i = i} h) in
    sym one ∙ st.same

-- ---- what is refused: one law for each way out

module _ (ids : List ℕ) (encoding interval : ℕ) where
  pub bad_none : length ids < 1 → 14 ≡ map_bad ids encoding interval
  unfolding map_bad
  bad_none h = rw (lt-leb 1 (length ids) h)

  pub bad_many : 4096 < length ids → 14 ≡ map_bad ids encoding interval
  unfolding map_bad
  bad_many h = rw (le-leb 1 (length ids) (omega arith), lt-leb (length ids) 4096 h)

  module _ (one : 1 ≤ length ids) (most : length ids ≤ 4096) where
    rest : map_bad ids encoding interval ≡ cond (interval_held encoding interval && rises_from 0 ids) 0 14
    unfolding map_bad
    rest = rw (le-leb 1 (length ids) one, le-leb (length ids) 4096 most)

    pub bad_interval : interval_held encoding interval ≡ false → 14 ≡ map_bad ids encoding interval
    bad_interval e = rw (rest, e)

    pub bad_ids : interval_held encoding interval ≡ true → rises_from 0 ids ≡ false → 14 ≡ map_bad ids encoding interval
    bad_ids e q = rw (rest, e, q)

    pub bad_not : interval_held encoding interval ≡ true → rises_from 0 ids ≡ true → 0 ≡ map_bad ids encoding interval
    bad_not e q = rw (rest, e, q)

-- the interval, by its encoding
pub held_raw : (encoding interval : ℕ) → encoding ≡ 0 → eqb interval 0 ≡ interval_held encoding interval
unfolding interval_held
held_raw encoding interval e = rw e

pub held_delta : (encoding interval : ℕ) → encoding ≡ 1 → ltb interval 65536 ≡ interval_held encoding interval
unfolding interval_held
held_delta encoding interval e = rw e

pub held_not : (encoding interval : ℕ) → (encoding ≡ 0 → ⊥) → (encoding ≡ 1 → ⊥) → false ≡ interval_held encoding interval
unfolding interval_held
held_not encoding interval e f = rw (ne_eqb encoding 0 e, ne_eqb encoding 1 f)
