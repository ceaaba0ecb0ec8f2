-- What the reading calls of document 01 answer about a file, each as a function of what opening finds.
-- Assumes nothing.
use Rattle.std.specs.Prelude.{ℕ, ◌+◌, cond, List, [], ◌∷◌, eqb, ltb, Result, Err}
use Rattle.std.proofs.Math.Option.{Option, none, some}
use Rattle.answers.specs.Write.{write_answer, write_buffer}
use Rattle.segment.specs.chain.Chain.{Found}
use Rattle.segment.specs.Header.{Link, type_reserved, whole}
use Rattle.manifest.specs.Opening.{at_opened}
use Rattle.vecseg.specs.Payload.{check_of}
use Rattle.vecseg.specs.Find.{Place, find_in, vector_of, value_at}
use Rattle.vecseg.specs.Vector.{read_of}
use Rattle.vecseg.specs.declared.Vector.{Vector}
use Rattle.reading.specs.Live.{live, search_order, with_id}

-- ---- a payload by its segment's id

-- a part of the file: where it begins, and its bytes; or the number of a refusal
pub data Part : Type 0 where
  Handed : ℕ → List ℕ → Part
  NotHanded : ℕ → Part

-- 3 where no live segment has the id, 15 where its type is reserved (document 02, §4: 'after 3 and before 4'), 4 where the hash differs; what lies
-- inside plays no part
unfoldable pub part_of : Option Link → Part
part_of none = NotHanded 3
part_of (some l) = cond (type_reserved l.kind) (NotHanded 15) (cond (whole l) (Handed (l.offset + 64) l.payload) (NotHanded 4))

unfoldable pub part_found : ℕ → Option (Found Link) → Part
part_found id none = NotHanded 2
part_found id (some r) = part_of (with_id id (live r))

unfoldable pub part_in : List ℕ → ℕ → Part
part_in f id = at_opened (NotHanded 1) (part_found id) f

-- ---- the search for a vector id

-- the segment that holds an id and the place in its payload; or none; or the number of a segment that is bad
pub data Hit : Type 0 where
  Held : Link → Place → Hit
  Missing : Hit
  Bad : ℕ → Hit

unfoldable pub hit_of : Link → Option Place → Hit
hit_of l none = Missing
hit_of l (some p) = Held l p

-- 'Each segment is checked whole first': its hash, then its payload, then the id is looked for
unfoldable pub hit_in_segment : ℕ → Link → Hit
hit_in_segment id l = cond (whole l) (cond (eqb (check_of l.payload) 0) (hit_of l (find_in l.payload id)) (Bad (check_of l.payload))) (Bad 4)

unfoldable pub or_else : Hit → Hit → Hit
or_else (Held l p) h = Held l p
or_else Missing h = h
or_else (Bad n) h = Bad n

-- 'The first bad one refuses; the first that holds the id answers'
unfoldable pub search_in : ℕ → List Link → Hit
search_in id [] = Missing
search_in id (l ∷ ls) = or_else (hit_in_segment id l) (search_in id ls)

unfoldable pub hit_found : ℕ → Option (Found Link) → Hit
hit_found id none = Bad 2
hit_found id (some r) = search_in id (search_order r)

unfoldable pub hit_in : List ℕ → ℕ → Hit
hit_in f id = at_opened (Bad 1) (hit_found id) f

-- ---- a vector: dim, dtype and the length written; 8 where none is found, then 9

unfoldable pub vector_hit : List ℕ → Hit → Result Vector ℕ
vector_hit buf (Held l p) = read_of p (write_answer 0 (vector_of l.payload p) buf)
vector_hit buf Missing = Err 8
vector_hit buf (Bad n) = Err n

-- the buffer after it: the vector's bytes in dimension order at its front; a refusal leaves it as it was
unfoldable pub buffer_hit : List ℕ → Hit → List ℕ
buffer_hit buf (Held l p) = write_buffer 0 (vector_of l.payload p) buf
buffer_hit buf Missing = buf
buffer_hit buf (Bad n) = buf

unfoldable pub vector_case : List ℕ → ℕ → List ℕ → Result Vector ℕ
vector_case f id buf = vector_hit buf (hit_in f id)

unfoldable pub vector_after : List ℕ → ℕ → List ℕ → List ℕ
vector_after f id buf = buffer_hit buf (hit_in f id)

-- ---- a component: its dtype and the bytes of its value; 8 where none is found, or the index is at or above dim

pub data Value : Type 0 where
  Stored : ℕ → List ℕ → Value
  NoValue : ℕ → Value

unfoldable pub value_hit : ℕ → Hit → Value
value_hit i (Held l p) = cond (ltb i p.line.dim) (Stored p.line.dtype (value_at l.payload p i)) (NoValue 8)
value_hit i Missing = NoValue 8
value_hit i (Bad n) = NoValue n

unfoldable pub value_in : List ℕ → ℕ → ℕ → Value
value_in f id i = value_hit i (hit_in f id)
