-- An input that the id-map writer accepts: what it says of the ids, and what the map then is, by the encoding.
-- Assumes nothing.
use Rattle.std.specs.Prelude.{ℕ, ◌+◌, ◌≤◌, ◌<◌, ◌≡◌, refl, Bool, true, false, cond, ◌&&◌, List, ◌++◌, eqb, leb, ltb, length}
use Rattle.std.proofs.Common.{arith, ne_eqb, leb-true, ltb-true, eqb-true}
use Rattle.std.proofs.lemmas.Bool.{eqb-false}
use Rattle.answers.specs.limits.Limits.{max_vectors}
use Rattle.idmap.specs.Encode.{map_head, raw_ids, deltas, restarts, interval_of, map_bytes, rises_from, interval_held, map_bad}
use Rattle.octets.proofs.ZeroLaws.{and_split}

pub record GoodInput (ids : List ℕ) (encoding interval : ℕ) : Type 0 where
  pub one : 1 ≤ length ids
  pub most : length ids ≤ 4096
  pub up : rises_from 0 ids ≡ true
  pub delta : (encoding ≡ 0 → ⊥) → (encoding ≡ 1) × (interval < 65536)

pub good : (ids : List ℕ) (encoding interval : ℕ) → map_bad ids encoding interval ≡ 0 → GoodInput ids encoding interval
unfolding map_bad interval_held
good ids encoding interval e = pick (leb 1 (length ids) && leb (length ids) max_vectors && interval_held encoding interval && rises_from 0 ids) refl e
  where
    delta-held : (t : Bool) → eqb encoding 0 ≡ t → cond t (eqb interval 0) (eqb encoding 1 && ltb interval 65536) ≡ true → (encoding ≡ 0 → ⊥)
        → (encoding ≡ 1) × (interval < 65536)
    delta-held true p q n = absurd (n (eqb-true encoding 0 p))
    delta-held false p q n =
        let w = and_split (eqb encoding 1) (ltb interval 65536) q in
        (eqb-true encoding 1 w.0, ltb-true interval 65536 w.1)

    pick : (t : Bool) → leb 1 (length ids) && leb (length ids) max_vectors && interval_held encoding interval && rises_from 0 ids ≡ t → ◌≡◌ {A = ℕ} (cond t 0 14) 0
        → GoodInput ids encoding interval
    pick false p q = absurd (omega arith)
    pick true p q =
        let a = and_split _ _ p in
        let b = and_split _ _ a.0 in
        let d = and_split _ _ b.0 in
        record {
          one = leb-true 1 (length ids) d.0;
          most = leb-true (length ids) 4096 d.1;
          up = a.1;
          delta = delta-held (eqb encoding 0) refl b.1;
        }

pub bytes_raw : (ids : List ℕ) (encoding interval : ℕ) → encoding ≡ 0 → map_bytes ids encoding interval ≡ map_head 0 0 (length ids) ++ raw_ids ids
unfolding map_bytes
bytes_raw ids encoding interval e = rw e

pub bytes_delta : (ids : List ℕ) (encoding interval r : ℕ) → (encoding ≡ 0 → ⊥) → r ≡ interval_of interval
    → map_bytes ids encoding interval ≡ map_head 1 r (length ids) ++ (restarts r 0 0 0 ids ++ deltas r 0 0 ids)
unfolding map_bytes
bytes_delta ids encoding interval r e k = rw (ne_eqb encoding 0 e, k)

pub interval_pos : (interval : ℕ) → (0 < interval_of interval) × (interval_of interval ≤ interval + 64)
unfolding interval_of
interval_pos interval = pick (eqb interval 0) refl
  where
    pick : (t : Bool) → eqb interval 0 ≡ t → (0 < cond t 64 interval) × (cond t 64 interval ≤ interval + 64)
    pick true p = (omega arith, omega arith)
    pick false p = let n : interval ≡ 0 → ⊥ = eqb-false interval 0 p in (omega arith, omega arith)
