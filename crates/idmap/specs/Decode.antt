-- The id map as it is read: what the bytes at the front of a list say, for all bytes. Every rule of document 01 that they
-- break makes the map broken, which is refusal 5.
-- Assumes nothing.
use Rattle.std.specs.Prelude.{ℕ, zero, suc, ◌+◌, ◌-◌, ◌*◌, ◌/◌, ◌^◌, Bool, cond, ◌&&◌, List, [], ◌∷◌, ◌++◌, eqb, leb, ltb, length, get_or, take, drop, Result, Ok, Err}
use Rattle.octets.specs.Over.{over}
use Rattle.octets.specs.le.Le.{le_of, le_at}
use Rattle.answers.specs.limits.Limits.{max_vectors}
use Rattle.varint.specs.Varint.{read_varint}
use Rattle.idmap.specs.Encode.{left_after}

-- what is read: the map's length and its ids, or a broken rule
pub data MapRead : Type 0 where
  Whole : ℕ → List ℕ → MapRead
  Broken : MapRead

-- ---- raw: n more ids, none below `low`, behind those of acc; `end` is the map's length

unfoldable pub read_raw : ℕ → ℕ → ℕ → List ℕ → List ℕ → MapRead
read_raw end zero low acc s = Whole end acc
read_raw end (suc n) low acc s =
    cond (leb low (le_of (take 8 s))) (read_raw end n (suc (le_of (take 8 s))) (acc ++ (le_of (take 8 s) ∷ [])) (drop 8 s)) Broken

unfoldable pub raw_map : ℕ → List ℕ → MapRead
raw_map count s = cond (leb (7 + 8 * count) (length s)) (read_raw (7 + 8 * count) count 0 [] (drop 7 s)) Broken

-- ---- delta, in groups of r: n more ids, `left` of them in this group, none below `low`; they begin `at` bytes behind the
-- first id byte; offs are the restart offsets from this group's on, and s the id bytes from here on

-- the id that a varint of the value v gives
unfoldable pub id_of : ℕ → ℕ → ℕ → ℕ
id_of zero low v = v
id_of (suc left) low v = low + v - 1

-- the first of a group is absolute, not below `low`, and where its restart offset says; a difference is above 0, and what
-- it leads to fits 64 bits
unfoldable pub id_held : ℕ → ℕ → ℕ → List ℕ → ℕ → Bool
id_held zero low at offs v = eqb (le_of (take 4 offs)) at && leb low v
id_held (suc left) low at offs v = ltb 0 v && leb (low + v) (2 ^ 64)

unfoldable pub offs_behind : ℕ → List ℕ → List ℕ
offs_behind zero offs = drop 4 offs
offs_behind (suc left) offs = offs

unfoldable pub read_deltas : ℕ → ℕ → ℕ → ℕ → ℕ → ℕ → List ℕ → List ℕ → List ℕ → MapRead
read_deltas start r zero left low at offs acc s = Whole (start + at) acc
read_deltas start r (suc n) left low at offs acc s =
    elim (read_varint s) [
      | Err e ↦ Broken
      | Ok v ↦ let x = id_of left low v.value in cond (id_held left low at offs v.value)
          (read_deltas start r n (left_after r left) (suc x) (at + v.length) (offs_behind left offs) (acc ++ (x ∷ [])) (drop v.length s))
          Broken
    ]

-- how many groups of r there are: count / r, rounded up
unfoldable pub groups : ℕ → ℕ → ℕ
groups count r = (count + (r - 1)) / r

unfoldable pub delta_map : ℕ → ℕ → List ℕ → MapRead
delta_map r count s =
    cond (leb (7 + 4 * groups count r) (length s))
    (read_deltas (7 + 4 * groups count r) r count 0 0 0 (drop 7 s) [] (drop (7 + 4 * groups count r) s))
    Broken

-- ---- the whole map, of a count that is asked for

-- raw has no interval, delta one from 1 on
unfoldable pub map_body : ℕ → ℕ → ℕ → List ℕ → MapRead
map_body encoding r count s =
    cond (eqb encoding 0) (cond (eqb r 0) (raw_map count s) Broken)
    (cond (eqb encoding 1) (cond (ltb 0 r) (delta_map r count s) Broken) Broken)

unfoldable pub map_of : ℕ → List ℕ → MapRead
map_of count s =
    cond (leb 1 count && leb count max_vectors) (cond (leb 7 (length s) && eqb (le_at 4 s 3) count) (map_body (get_or s 0 0) (le_at 2 s 1) count s) Broken)
    Broken

-- the ids of what was read
unfoldable pub ids_of : MapRead → List ℕ
ids_of (Whole n ids) = ids
ids_of Broken = []

-- what a check of the map answers: its length, or 5
unfoldable pub map_answer : MapRead → Result ℕ ℕ
map_answer (Whole n ids) = Ok n
map_answer Broken = Err 5

-- the id-map reader: every rule 5, then 9 where the ids have no room; on a refusal the ids' buffer is as it was
unfoldable pub read_answer : MapRead → List ℕ → Result ℕ ℕ
read_answer (Whole n ids) buf = cond (leb (length ids) (length buf)) (Ok n) (Err 9)
read_answer Broken buf = Err 5

unfoldable pub read_buffer : MapRead → List ℕ → List ℕ
read_buffer (Whole n ids) buf = cond (leb (length ids) (length buf)) (over buf 0 ids) buf
read_buffer Broken buf = buf
