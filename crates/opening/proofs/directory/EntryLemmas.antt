-- The laws of specs/directory/Entry.antt.
-- Assumes nothing.
use Rattle.std.specs.Prelude.{ℕ, ◌≤◌, ◌≡◌, refl, List, length, Result, Err}
use Rattle.std.specs.Prelude.{Option as Maybe}
use Rattle.std.proofs.Common.{sym, ◌∙◌}
use Rattle.answers.specs.limits.Limits.{max_file}
use Rattle.manifest.specs.Opening.{opened_case, opened}
use Rattle.manifest.proofs.OpeningLaws.{at_within}
use Rattle.manifest.specs.declared.DirectoryEntry.{DirectoryEntry}
use Rattle.manifest.specs.Directory.{entry_in, entry_case}
use Rattle.opening.specs.FileManifest.{manifest_of}
use Rattle.opening.proofs.FileManifestLaws.{refused_alike}

-- ---- the ways out

-- a file without a manifest, or above the limit
pub entry_refused : (f : List ℕ) (i n : ℕ) → manifest_of (opened_case f) ≡ Err n → Err n ≡ entry_case f i
unfolding entry_case entry_in
entry_refused f i n e = refused_alike (λ (m : ℕ). Err m) (entry_in i) f n refl e

pub entry_within : (f : List ℕ) (i : ℕ) (e : Result (Maybe DirectoryEntry) ℕ) → length f ≤ max_file → e ≡ entry_in i (opened f) → e ≡ entry_case f i
unfolding entry_case
entry_within f i e h p = p ∙ sym (at_within (Err 1) (entry_in i) f h)
