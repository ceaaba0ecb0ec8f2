-- Retirement over plain lists: the ids, the types and the states of a directory's entries as three lists of numbers, as the code has them. The same as
-- the definitions over links.
-- The laws stand in proofs/retire/Marks.antt. Definitions only.
-- Assumes nothing.
use Rattle.std.specs.Prelude.{ℕ, ◌+◌, ◌≤◌, Bool, true, false, cond, not, ◌&&◌, ◌||◌, List, [], ◌∷◌, eqb, drop, get_or}
use Rattle.manifest.specs.Payload.{manifest_kind}
use Rattle.batch.specs.Form.{member}

-- an entry has the id, is live, and is no manifest
unfoldable pub retirable_by : List ℕ → List ℕ → List ℕ → ℕ → Bool
retirable_by [] ks ss id = false
retirable_by (n ∷ ns) ks ss id = (eqb n id && eqb (get_or ss 0 0) 0 && not (eqb (get_or ks 0 0) manifest_kind)) || retirable_by ns (drop 1 ks) (drop 1 ss) id

-- each id of the list may be retired, and none stands there twice
unfoldable pub retire_held_by : List ℕ → List ℕ → List ℕ → List ℕ → Bool
retire_held_by ns ks ss [] = true
retire_held_by ns ks ss (id ∷ ids) = retirable_by ns ks ss id && not (member id ids) && retire_held_by ns ks ss ids

-- the states after it
unfoldable pub retired_by : List ℕ → List ℕ → List ℕ → List ℕ
retired_by [] ss ids = []
retired_by (n ∷ ns) ss ids = cond (member n ids) 1 (get_or ss 0 0) ∷ retired_by ns (drop 1 ss) ids

-- the numbers rise: each is at least the least one allowed, which behind it is one more than it
unfoldable pub Rises : ℕ → List ℕ → Type 0
Rises least [] = Unit {0}
Rises least (n ∷ ns) = (least ≤ n) × Rises (n + 1) ns

-- what refuses ids that may not be retired
abbrev pub retire_number : Bool → ℕ
retire_number held = cond held 0 11
