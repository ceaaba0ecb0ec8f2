-- The lines of the directory's entries, written one after the other.
-- The laws stand in proofs/entries/Entries.antt. Definitions only.
-- Assumes nothing.
use Rattle.std.specs.Prelude.{ℕ, List, []}
use Rattle.std.proofs.Math.Option.{Option, none, some}
use Rattle.segment.specs.chain.Chain.{Found}
use Rattle.segment.specs.Header.{Link}
use Rattle.manifest.specs.Opening.{states}
use Rattle.reading.specs.Listing.{lines_of}

unfoldable pub entry_lines : Option (Found Link) → List ℕ
entry_lines none = []
entry_lines (some r) = lines_of r.before (states r)
