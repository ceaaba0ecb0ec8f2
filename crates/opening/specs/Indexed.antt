-- What an answer of opening says of the file, and where the parts of the directory's entry with an index stand: the header at the link's offset, and
-- the state in the manifest's payload. Every reading call goes by these.
-- The laws stand in proofs/Indexed.antt. Definitions only.
-- Assumes nothing.
use Prim.Native.Nat.{ℕ, ◌≤◌}
use Rattle.std.proofs.Math.Path.{◌≡◌}
use Rattle.std.proofs.Math.Option.{Option, none, some}
use mathlib.Core.List.{List}
use Rattle.std.proofs.Math.ListN.{length}
use Rattle.std.specs.Prelude.{take, Bool, false, ◌&&◌, eqb}
use Rattle.answers.specs.limits.Limits.{max_file}
use Rattle.segment.specs.chain.Chain.{Found}
use Rattle.segment.specs.chain.Last.{LastIn}
use Rattle.segment.specs.Header.{Link}
use Rattle.segment.specs.Chained.{chain}
use Rattle.segment.specs.index.Offsets.{most, Stored}
use Rattle.manifest.specs.Payload.{confirmed}
use Rattle.manifest.specs.Opening.{opened}

-- ---- what an answer says

-- the manifest at an offset with so many entries
pub record ManifestAt (f : List ℕ) (offset count : ℕ) : Type 0 where
  pub within : length f ≤ max_file
  pub found : Found Link
  pub opens : opened f ≡ some found
  pub offset_is : found.link.offset ≡ offset
  pub count_is : length found.before ≡ count
  pub stands : LastIn confirmed (chain f) found

-- ---- the entry with an index

-- the offsets of the links that can matter stand at the front of a list
abbrev pub Indexed : List ℕ → List ℕ → Type 0
Indexed f offsets = Stored f offsets (length (take most (chain f)))

-- the same as a test: of what opening finds, its manifest stands at an offset, behind so many links
unfoldable pub stands : Option (Found Link) → ℕ → ℕ → Bool
stands none offset count = false
stands (some r) offset count = eqb r.link.offset offset && eqb (length r.before) count
