-- Laws of the search for a vector id: an index in a list, a block more, and what a found place says of a sound payload.
-- Assumes nothing.
use Rattle.std.specs.Prelude.{ℕ, zero, suc, ◌+◌, ◌*◌, ◌≤◌, ◌<◌, ◌≡◌, refl, List, length, drop}
use Rattle.std.proofs.Common.{subst, mul-pos, arith, length-drop, drop-drop}
use Rattle.std.proofs.Math.Option.{Option, none, some, some-injective}
use Rattle.idmap.specs.Decode.{Whole, map_of, ids_of}
use Rattle.idmap.proofs.Count.{whole_count}
use Rattle.vecseg.specs.Payload.{Line, line_of, columns_length, block_count, check_of}
use Rattle.vecseg.proofs.LineLaws.{LineGood}
use Rattle.vecseg.proofs.CheckLaws.{sound, sound_line, sound_block}
use Rattle.vecseg.specs.Find.{line_at, ids_at, Place, find_up_to, find_in}
use Rattle.octets.specs.numbers.Numbers.{index_of}
use Rattle.octets.proofs.numbers.NumbersLaws.{index_within}

-- ---- a block more

pub find_here : (s : List ℕ) (id n i : ℕ) → index_of id (ids_at s n) ≡ some i → find_up_to (suc n) s id ≡ some (record { line = line_at s n; index = i })
unfolding find_up_to
find_here s id n i e = rw (e, find_up_to)

pub find_on : (s : List ℕ) (id n : ℕ) → index_of id (ids_at s n) ≡ none → find_up_to (suc n) s id ≡ find_up_to n s id
unfolding find_up_to
find_on s id n e = rw (e, find_up_to)

-- ---- the ids of a block of a sound payload

-- a block has at least one byte of columns
pub columns_pos : (l : Line) → LineGood l → 0 < columns_length l
unfolding columns_length
columns_pos l g = mul-pos (mul-pos g.one g.some) g.held

pub record IdsGood (s : List ℕ) (i : ℕ) : Type 0 where
  pub line : LineGood (line_at s i)
  pub room : (line_at s i).offset + columns_length (line_at s i) ≤ length s
  pub many : length (ids_at s i) ≡ (line_at s i).count
  pub map_length : ℕ
  pub whole : map_of (line_at s i).count (drop ((line_at s i).offset + columns_length (line_at s i)) s) ≡ Whole map_length (ids_at s i)

pub ids_good : (s : List ℕ) → check_of s ≡ 0 → (i : ℕ) → i < block_count s → IdsGood s i
unfolding line_at ids_at
ids_good s e i h =
    let g = sound s e in
    let l = sound_line s g i h in
    let b = (sound_block s g i h).1 in
    let line : Line = line_of (drop (4 + 12 * i) s) in
    let w : map_of line.count (drop (line.offset + columns_length line) s) ≡ Whole b.map_length (ids_of (map_of line.count (drop (line.offset + columns_length line) s))) =
    rw (drop-drop (columns_length line) line.offset s) at b.whole in
    record {
      line = l;
      room = omega (arith, b.room, length-drop line.offset s, columns_pos line l);
      many = (whole_count line.count _ b.map_length _ w).0;
      map_length = b.map_length;
      whole = w;
    }

-- ---- what a found place says

pub record PlaceGood (s : List ℕ) (p : Place) : Type 0 where
  pub line : LineGood p.line
  pub room : p.line.offset + columns_length p.line ≤ length s
  pub index_in : p.index < p.line.count

found_up_to : (s : List ℕ) → check_of s ≡ 0 → (n id : ℕ) → n ≤ block_count s → (p : Place) → find_up_to n s id ≡ some p → PlaceGood s p
unfolding find_up_to
found_up_to s e zero id h p q = absurd (let z : ◌≡◌ {A = ℕ} 0 1 = cc in omega arith)
found_up_to s e (suc n) id h p q = pick (index_of id (ids_at s n)) refl (found_up_to s e n id (omega arith) p) q
  where
    pick : (o : Option ℕ) → index_of id (ids_at s n) ≡ o → (find_up_to n s id ≡ some p → PlaceGood s p)
        → elim o [ some i ↦ some (record { line = line_at s n; index = i }) | none ↦ find_up_to n s id ] ≡ some p → PlaceGood s p
    pick none w ih z = ih z
    pick (some i) w ih z =
        let g = ids_good s e n (omega arith) in
        let same : record { line = line_at s n; index = i } ≡ p = some-injective _ _ z in
        subst (PlaceGood s) same (record { line = g.line; room = g.room; index_in = omega (arith, index_within id (ids_at s n) i w, g.many) })

pub found_good : (s : List ℕ) → check_of s ≡ 0 → (id : ℕ) (p : Place) → find_in s id ≡ some p → PlaceGood s p
unfolding find_in
found_good s e id p q = found_up_to s e (block_count s) id (omega arith) p q
