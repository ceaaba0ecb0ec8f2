-- What the calls that go on from a file's directory learn of its manifest: where it stands, or the number that they refuse by. That they all
-- refuse alike is one law.
-- The laws stand in proofs/FileManifestLaws.antt. Definitions only.
-- Assumes nothing.
use Rattle.std.specs.Prelude.{ℕ, Result, Ok, Err}
use Rattle.manifest.specs.declared.Opened.{Opened}
use Rattle.manifest.specs.declared.Opened.TheVariants.{At, NoManifest}
use Rattle.opening.specs.declared.FileManifest.{FileManifest}

-- 'none means refusal 2'
unfoldable pub manifest_of : Result Opened ℕ → Result FileManifest ℕ
manifest_of (Ok (At offset end id count t)) = Ok (record { offset = offset; end = end; count = count; tried = t })
manifest_of (Ok (NoManifest t)) = Err 2
manifest_of (Err n) = Err n
