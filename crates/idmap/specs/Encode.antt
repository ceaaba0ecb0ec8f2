-- The id map of document 01's 'Vector blocks and id maps', as it is written: encoding u8, restart interval u16, id count u32,
-- then the ids, raw or as varints in groups with restart offsets.
-- Assumes nothing.
use Rattle.std.specs.Prelude.{ℕ, zero, suc, ◌+◌, ◌-◌, Bool, true, cond, ◌&&◌, List, [], ◌∷◌, ◌++◌, eqb, leb, ltb, length}
use Rattle.octets.specs.le.Le.{le_bytes}
use Rattle.answers.specs.limits.Limits.{max_vectors, default_interval}
use Rattle.varint.specs.Varint.{varint_of}

-- encoding, restart interval, id count
unfoldable pub map_head : ℕ → ℕ → ℕ → List ℕ
map_head encoding r count = encoding ∷ (le_bytes 2 r ++ le_bytes 4 count)

-- ---- raw

-- the ids as u64 numbers
unfoldable pub raw_ids : List ℕ → List ℕ
raw_ids [] = []
raw_ids (x ∷ xs) = le_bytes 8 x ++ raw_ids xs

-- ---- delta, in groups of r: `left` more ids of the group follow the id `prev`

-- the first of a group is absolute, the rest are differences
unfoldable pub delta_of : ℕ → ℕ → ℕ → ℕ
delta_of zero prev x = x
delta_of (suc left) prev x = x - prev

-- how many of the group are left behind one id
unfoldable pub left_after : ℕ → ℕ → ℕ
left_after r zero = r - 1
left_after r (suc left) = left

unfoldable pub deltas : ℕ → ℕ → ℕ → List ℕ → List ℕ
deltas r left prev [] = []
deltas r left prev (x ∷ xs) = varint_of (delta_of left prev x) ++ deltas r (left_after r left) x xs

-- a group that begins has its place, counted from the first id byte, as a u32
unfoldable pub restart_of : ℕ → ℕ → List ℕ
restart_of zero at = le_bytes 4 at
restart_of (suc left) at = []

unfoldable pub restarts : ℕ → ℕ → ℕ → ℕ → List ℕ → List ℕ
restarts r left prev at [] = []
restarts r left prev at (x ∷ xs) =
    restart_of left at ++ restarts r (left_after r left) x (at + length (varint_of (delta_of left prev x))) xs

-- ---- the whole map

-- an asked interval of 0 with delta means the default
unfoldable pub interval_of : ℕ → ℕ
interval_of interval = cond (eqb interval 0) default_interval interval

unfoldable pub map_bytes : List ℕ → ℕ → ℕ → List ℕ
map_bytes ids encoding interval =
    cond (eqb encoding 0) (map_head 0 0 (length ids) ++ raw_ids ids)
    (map_head 1 (interval_of interval) (length ids) ++ (restarts (interval_of interval) 0 0 0 ids ++ deltas (interval_of interval) 0 0 ids))

-- ---- what a writer refuses

-- strictly rising, from at least `low` on
unfoldable pub rises_from : ℕ → List ℕ → Bool
rises_from low [] = true
rises_from low (x ∷ xs) = leb low x && rises_from (suc x) xs

-- raw has no interval; a delta map's fits its field
unfoldable pub interval_held : ℕ → ℕ → Bool
interval_held encoding interval = cond (eqb encoding 0) (eqb interval 0) (eqb encoding 1 && ltb interval 65536)

-- 14 where the input of the id-map writer breaks a rule, else 0
unfoldable pub map_bad : List ℕ → ℕ → ℕ → ℕ
map_bad ids encoding interval =
    cond (leb 1 (length ids) && leb (length ids) max_vectors && interval_held encoding interval && rises_from 0 ids) 0 14
