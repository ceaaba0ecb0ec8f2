-- The exported entry's number and array, case by case.
-- Assumes nothing.
use Rattle.std.specs.Prelude.{ℕ, ◌≡◌, refl, List, [], ◌∷◌, Ok, Err, Some, None}
use Rattle.std.proofs.lemmas.List.Edits.{sets}
use Rattle.manifest.specs.declared.DirectoryEntry.{DirectoryEntry}
use Rattle.manifest.specs.Directory.{entry_case, entry_number, entry_out}

-- ---- the exported call's number and array, case by case

pub out_entry : (f out : List ℕ) (i : ℕ) (o : DirectoryEntry) → Ok (Some o) ≡ entry_case f i
    → (0 ≡ entry_number (entry_case f i))
    × (sets out 0 (o.offset ∷ o.id ∷ o.length ∷ o.hash_low ∷ o.hash_high ∷ o.kind ∷ o.state ∷ o.flags ∷ []) ≡ entry_out out (entry_case f i))
unfolding entry_number entry_out
out_entry f out i o e = rw (← e) (refl, refl)

pub out_no_entry : (f out : List ℕ) (i : ℕ) → Ok None ≡ entry_case f i → (255 ≡ entry_number (entry_case f i)) × (out ≡ entry_out out (entry_case f i))
unfolding entry_number entry_out
out_no_entry f out i e = rw (← e) (refl, refl)

pub out_refused : (f out : List ℕ) (i n : ℕ) → Err n ≡ entry_case f i → (n ≡ entry_number (entry_case f i)) × (out ≡ entry_out out (entry_case f i))
unfolding entry_number entry_out
out_refused f out i n e = rw (← e) (refl, refl)
