-- The live segments of a file, and the order in which a vector is searched in them.
-- Assumes nothing.
use Rattle.std.specs.Prelude.{ℕ, cond, List, [], ◌∷◌, reverse, eqb, drop, get_or}
use Rattle.std.proofs.Math.Option.{Option, none, some}
use Rattle.segment.specs.chain.Chain.{Found}
use Rattle.segment.specs.Header.{Link}
use Rattle.manifest.specs.Opening.{states}
use Rattle.vecseg.specs.Payload.{vec_kind}

-- those of some links whose state is 0, in the directory's order
unfoldable pub live_of : List Link → List ℕ → List Link
live_of [] ss = []
live_of (l ∷ ls) ss = cond (eqb (get_or ss 0 0) 0) (l ∷ live_of ls (drop 1 ss)) (live_of ls (drop 1 ss))

-- the live segments of the manifest that opening finds
unfoldable pub live : Found Link → List Link
live r = live_of r.before (states r)

-- those that hold vectors
unfoldable pub vectors_of : List Link → List Link
vectors_of [] = []
vectors_of (l ∷ ls) = cond (eqb l.kind vec_kind) (l ∷ vectors_of ls) (vectors_of ls)

-- 'the live VEC segments from the last in the directory to the first': the order in which segments are searched for a vector
unfoldable pub search_order : Found Link → List Link
search_order r = reverse (vectors_of (live r))

-- the live segment with an id
unfoldable pub with_id : ℕ → List Link → Option Link
with_id id [] = none
with_id id (l ∷ ls) = cond (eqb l.id id) (some l) (with_id id ls)
