-- What is selected of a directory's links: how many, and how many bytes they take, if each is whole. Definitions only.
-- Assumes nothing.
use Rattle.std.specs.Prelude.{ℕ, cond, List, [], eqb, length, Result, Ok, Err}
use Rattle.std.proofs.Math.Option.{Option, none, some}
use Rattle.segment.specs.chain.Chain.{Found}
use Rattle.segment.specs.chain.Laws.{sizes}
use Rattle.segment.specs.Header.{Link, reader}
use Rattle.compacting.specs.Compact.{copied, damaged}
use Rattle.compact.specs.declared.select.Selected.{Selected}

-- the links that are copied, of what opening finds
unfoldable pub copied_of : Option (Found Link) → List Link
copied_of none = []
copied_of (some r) = copied r

unfoldable pub selected_of : List Link → Result Selected ℕ
selected_of ls = cond (eqb (damaged ls) 0) (Ok (record { count = length ls; end = sizes reader ls })) (Err 4)
