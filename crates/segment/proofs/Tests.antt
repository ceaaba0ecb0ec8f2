-- A list of tests, each of which must hold.
-- Assumes nothing.
use Rattle.std.specs.Prelude.{◌≡◌, refl, Bool, true, false, List, [], ◌∷◌, ℕ, zero, suc, get_or}
use Rattle.std.proofs.Math.Bool.{and-false}
use Rattle.octets.proofs.ZeroLaws.{and_split}
use Rattle.segment.specs.Header.{all}

-- where all hold each holds
pub all_at : (ts : List Bool) (i : ℕ) → all ts ≡ true → get_or ts i true ≡ true
unfolding all
all_at [] i e = refl
all_at (t ∷ ts) zero e = (and_split t (all ts) e).0
all_at (t ∷ ts) (suc i) e = all_at ts i (and_split t (all ts) e).1

-- where one fails not all hold
pub all_fails : (ts : List Bool) (i : ℕ) → get_or ts i true ≡ false → all ts ≡ false
unfolding all
all_fails [] i e = e
all_fails (t ∷ ts) zero e = rw e
all_fails (t ∷ ts) (suc i) e = rw (all_fails ts i e) (and-false t)
