-- Retirement: which ids an append may retire, and the states after it. Definitions only.
-- Assumes nothing.
use Rattle.std.specs.Prelude.{ℕ, Bool, true, false, cond, not, ◌&&◌, ◌||◌, List, [], ◌∷◌, eqb, drop, get_or}
use Rattle.segment.specs.Header.{Link}
use Rattle.manifest.specs.Payload.{manifest_kind}
use Rattle.batch.specs.Form.{member}

-- an entry of the directory has the id, is live there, and is no manifest
unfoldable pub retirable : List Link → List ℕ → ℕ → Bool
retirable [] ss id = false
retirable (l ∷ ls) ss id = (eqb l.id id && eqb (get_or ss 0 0) 0 && not (eqb l.kind manifest_kind)) || retirable ls (drop 1 ss) id

-- 11 is for 'retire id not in the old directory, of type 0x05 (confirmed or not), retired there, or twice in the list'
unfoldable pub retire_held : List Link → List ℕ → List ℕ → Bool
retire_held ls ss [] = true
retire_held ls ss (id ∷ ids) = retirable ls ss id && not (member id ids) && retire_held ls ss ids

-- 'ids in the list become retired': the states of some entries after it
unfoldable pub retired : List Link → List ℕ → List ℕ → List ℕ
retired [] ss ids = []
retired (l ∷ ls) ss ids = cond (member l.id ids) 1 (get_or ss 0 0) ∷ retired ls (drop 1 ss) ids
