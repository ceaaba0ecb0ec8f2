-- The laws of specs/retire/Marks.antt.
-- Assumes nothing.
use Rattle.std.specs.Prelude.{ℕ, ◌+◌, ◌≡◌, refl, List, [], ◌∷◌, map, drop}
use Rattle.segment.specs.Header.{Link}
use Rattle.segment.proofs.Chained.{Rising}
use Rattle.appending.specs.Retire.{retirable, retire_held, retired}
use Rattle.append.specs.retire.Marks.{retirable_by, retire_held_by, retired_by, Rises}

-- ---- over the ids and the types of links they are the definitions over links

retirable_same : (ls : List Link) (ss : List ℕ) (id : ℕ) → retirable_by (map (λ l. l.id) ls) (map (λ l. l.kind) ls) ss id ≡ retirable ls ss id
unfolding retirable_by retirable
retirable_same [] ss id = refl
retirable_same (l ∷ ls) ss id = rw (retirable_same ls (drop 1 ss) id)

pub held_same : (ls : List Link) (ss ids : List ℕ) → retire_held_by (map (λ l. l.id) ls) (map (λ l. l.kind) ls) ss ids ≡ retire_held ls ss ids
unfolding retire_held_by retire_held
held_same ls ss [] = refl
held_same ls ss (id ∷ ids) = rw (retirable_same ls ss id, held_same ls ss ids)

pub retired_same : (ls : List Link) (ss ids : List ℕ) → retired_by (map (λ l. l.id) ls) ss ids ≡ retired ls ss ids
unfolding retired_by retired
retired_same [] ss ids = refl
retired_same (l ∷ ls) ss ids = rw (retired_same ls (drop 1 ss) ids)

pub rises_links : (ls : List Link) (least : ℕ) → Rising least ls → Rises least (map (λ l. l.id) ls)
unfolding Rising Rises
rises_links [] least r = tt
rises_links (l ∷ ls) least r = (r.0, rises_links ls (l.id + 1) r.1)
