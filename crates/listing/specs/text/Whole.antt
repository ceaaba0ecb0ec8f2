-- The whole text of the lister: the ways in which it comes about.
-- The laws stand in proofs/text/Whole.antt. Definitions only.
-- Assumes nothing.
use Rattle.std.specs.Prelude.{ℕ, ◌≡◌, List, Ok}
use Rattle.manifest.specs.Opening.{opened_case}
use Rattle.manifest.specs.declared.Opened.TheVariants as ops

-- opening answers this offset, end, number of entries and number of boundaries tried
abbrev pub OpensAt : List ℕ → ℕ → ℕ → ℕ → ℕ → Type 0
OpensAt f offset end count t = (id : ℕ) × (opened_case f ≡ Ok (ops.At offset end id count t))
