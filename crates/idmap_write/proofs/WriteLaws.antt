-- The ways out of the id-map writer: how long a map is, and what is written.
-- Assumes nothing.
use Rattle.std.specs.Prelude.{ℕ, ◌+◌, ◌-◌, ◌*◌, ◌≤◌, ◌<◌, ◌≡◌, true, List, ◌++◌, length}
use Rattle.std.proofs.Common.{sym, ap, ◌∙◌, arith, length-append}
use Rattle.octets.specs.Over.{over}
use Rattle.octets.proofs.OverLaws.{over_then}
use Rattle.idmap.specs.Encode.{map_head, raw_ids, deltas, restarts, interval_of, map_bytes, rises_from, map_bad}
use Rattle.idmap.specs.Decode.{groups}
use Rattle.idmap.proofs.DeltaLaws.{groups_few}
use Rattle.idmap.proofs.EncodeLaws.{length_head, length_raw_ids, length_restarts}
use Rattle.idmap.proofs.Accepted.{good, bytes_raw, bytes_delta, interval_pos}

-- ---- the whole map, by its encoding

length_raw : (ids : List ℕ) → length (map_head 0 0 (length ids) ++ raw_ids ids) ≡ 7 + 8 * length ids
length_raw ids = simp (length-append, length_head, length_raw_ids)

length_delta : (ids : List ℕ) (r : ℕ) → 0 < r
    → length (map_head 1 r (length ids) ++ (restarts r 0 0 0 ids ++ deltas r 0 0 ids)) ≡ 7 + 4 * groups (length ids) r + length (deltas r 0 0 ids)
length_delta ids r h = simp (length-append, length_head, length_restarts r ids h) (omega arith)

-- a head, and a body right behind it
pub whole_laid : (buf b₁ b₂ head body : List ℕ) → length head ≡ 7 → 7 ≤ length buf → b₁ ≡ over buf 0 head → b₂ ≡ over b₁ 7 body → b₂ ≡ over buf 0 (head ++ body)
whole_laid buf b₁ b₂ head body n h p q = q ∙ over_then buf b₁ 0 head body 7 p n (omega arith)

-- ---- an accepted input, by its encoding: what its map is and how long

pub record Raw (ids : List ℕ) (encoding interval : ℕ) : Type 0 where
  pub most : length ids ≤ 4096
  pub bytes : map_bytes ids encoding interval ≡ map_head 0 0 (length ids) ++ raw_ids ids
  pub size : length (map_bytes ids encoding interval) ≡ 7 + 8 * length ids

pub raw_facts : (ids : List ℕ) (encoding interval : ℕ) → map_bad ids encoding interval ≡ 0 → encoding ≡ 0 → Raw ids encoding interval
raw_facts ids encoding interval g e =
    let b = bytes_raw ids encoding interval e in
    record { most = (good ids encoding interval g).most; bytes = b; size = ap length b ∙ length_raw ids }

pub record Delta (ids : List ℕ) (encoding interval r : ℕ) : Type 0 where
  pub most : length ids ≤ 4096
  pub up : rises_from 0 ids ≡ true
  pub pos : 0 < r
  pub small : r < 65600
  pub at_most : groups (length ids) r ≤ length ids + (r - 1)
  pub begins : 7 + 4 * groups (length ids) r ≡ 7 + length (restarts r 0 0 0 ids)
  pub bytes : map_bytes ids encoding interval ≡ map_head 1 r (length ids) ++ (restarts r 0 0 0 ids ++ deltas r 0 0 ids)
  pub size : length (map_bytes ids encoding interval) ≡ 7 + 4 * groups (length ids) r + length (deltas r 0 0 ids)

pub delta_facts : (ids : List ℕ) (encoding interval r : ℕ) → map_bad ids encoding interval ≡ 0 → (encoding ≡ 0 → ⊥) → r ≡ interval_of interval → Delta ids encoding interval r
delta_facts ids encoding interval r g e k =
    let w = good ids encoding interval g in
    let i = (w.delta e).1 in
    let p = interval_pos interval in
    let pos : 0 < r = omega (arith, k, p.0) in
    let b = bytes_delta ids encoding interval r e k in
    record {
      most = w.most;
      up = w.up;
      pos = pos;
      small = omega (arith, k, p.1, i);
      at_most = groups_few (length ids) r;
      begins = ap (λ (n : ℕ). 7 + n) (sym (length_restarts r ids pos));
      bytes = b;
      size = ap length b ∙ length_delta ids r pos;
    }
