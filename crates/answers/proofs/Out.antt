-- What an exported call lays into its array of values, by the two ways out that every exported call has.
-- Assumes nothing.
use Rattle.std.specs.Prelude.{ℕ, ◌≡◌, refl, List}
use Rattle.std.proofs.lemmas.List.Edits.{sets}
use Rattle.answers.specs.Answer.{Answer, Accepted, Refusal, number, out_of}

-- a refusal returns its number and leaves the array
pub out_refused : (a : Answer) (n : ℕ) (vs out : List ℕ) → a ≡ Refusal n vs → (n ≡ number a) × (out ≡ out_of out a)
unfolding number out_of
out_refused a n vs out e = rw e (refl, refl)

-- an accepted call returns 0, and the array holds the values
pub out_accepted : (a : Answer) (vs out : List ℕ) → a ≡ Accepted vs → (◌≡◌ {A = ℕ} 0 (number a)) × (sets out 0 vs ≡ out_of out a)
unfolding number out_of
out_accepted a vs out e = rw e (refl, refl)
