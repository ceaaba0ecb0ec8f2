-- An id map is a list of bytes, whatever the ids are.
-- Assumes nothing.
use Rattle.std.specs.Prelude.{ℕ, zero, suc, ◌+◌, ◌%◌, ◌/◌, ◌<◌, ◌≡◌, refl, Bool, true, false, cond, List, [], ◌∷◌, ◌++◌, eqb, ltb, length}
use Rattle.std.proofs.Common.{arith, ltb-true}
use Rattle.octets.specs.le.Le.{le_bytes, Bytes}
use Rattle.octets.proofs.le.Laws.{bytes_append, bytes_le_bytes}
use Rattle.varint.specs.Varint.{leb128, varint_of}
use Rattle.idmap.specs.Encode.{map_head, raw_ids, delta_of, left_after, deltas, restart_of, restarts, interval_of, map_bytes}

none_bytes : Bytes []
none_bytes i = omega arith

one_more : (b : ℕ) (s : List ℕ) → b < 256 → Bytes s → Bytes (b ∷ s)
one_more b s h t zero = h
one_more b s h t (suc i) = t i

leb_bytes : (k n : ℕ) → Bytes (leb128 k n)
unfolding leb128
leb_bytes zero n = none_bytes
leb_bytes (suc k) n = pick (ltb n 128) refl (leb_bytes k (n / 128))
  where
    pick : (t : Bool) → ltb n 128 ≡ t → Bytes (leb128 k (n / 128)) → Bytes (cond t (n ∷ []) ((n % 128 + 128) ∷ leb128 k (n / 128)))
    pick true p w =
        let h = ltb-true n 128 p in
        one_more n [] (omega arith) none_bytes
    pick false p w = one_more (n % 128 + 128) (leb128 k (n / 128)) (omega arith) w

varint_bytes : (n : ℕ) → Bytes (varint_of n)
unfolding varint_of
varint_bytes n = leb_bytes 10 n

head_bytes : (encoding r count : ℕ) → encoding < 256 → Bytes (map_head encoding r count)
unfolding map_head
head_bytes encoding r count h = one_more encoding (le_bytes 2 r ++ le_bytes 4 count) h (bytes_append (le_bytes 2 r) (le_bytes 4 count) (bytes_le_bytes 2 r) (bytes_le_bytes 4 count))

raw_bytes : (ids : List ℕ) → Bytes (raw_ids ids)
unfolding raw_ids
raw_bytes [] = none_bytes
raw_bytes (x ∷ xs) = bytes_append (le_bytes 8 x) (raw_ids xs) (bytes_le_bytes 8 x) (raw_bytes xs)

deltas_bytes : (r left prev : ℕ) (ids : List ℕ) → Bytes (deltas r left prev ids)
unfolding deltas
deltas_bytes r left prev [] = none_bytes
deltas_bytes r left prev (x ∷ xs) =
    bytes_append (varint_of (delta_of left prev x)) (deltas r (left_after r left) x xs) (varint_bytes (delta_of left prev x)) (deltas_bytes r (left_after r left) x xs)

restart_bytes : (left at : ℕ) → Bytes (restart_of left at)
unfolding restart_of
restart_bytes zero at = bytes_le_bytes 4 at
restart_bytes (suc left) at = none_bytes

restarts_bytes : (r left prev at : ℕ) (ids : List ℕ) → Bytes (restarts r left prev at ids)
unfolding restarts
restarts_bytes r left prev at [] = none_bytes
restarts_bytes r left prev at (x ∷ xs) = bytes_append (restart_of left at) _ (restart_bytes left at) (restarts_bytes r (left_after r left) x (at + length (varint_of (delta_of left prev x))) xs)

pub map_bytes_bytes : (ids : List ℕ) (encoding interval : ℕ) → Bytes (map_bytes ids encoding interval)
unfolding map_bytes
map_bytes_bytes ids encoding interval = pick (eqb encoding 0)
  where
    r : ℕ
    r = interval_of interval

    raw : List ℕ
    raw = map_head 0 0 (length ids) ++ raw_ids ids

    delta : List ℕ
    delta = map_head 1 (interval_of interval) (length ids) ++ (restarts (interval_of interval) 0 0 0 ids ++ deltas (interval_of interval) 0 0 ids)

    pick : (t : Bool) → Bytes (cond t raw delta)
    pick true = bytes_append (map_head 0 0 (length ids)) (raw_ids ids) (head_bytes 0 0 (length ids) (omega arith)) (raw_bytes ids)
    pick false =
        bytes_append (map_head 1 r (length ids)) (restarts r 0 0 0 ids ++ deltas r 0 0 ids) (head_bytes 1 r (length ids) (omega arith))
        (bytes_append (restarts r 0 0 0 ids) (deltas r 0 0 ids) (restarts_bytes r 0 0 0 ids) (deltas_bytes r 0 0 ids))
