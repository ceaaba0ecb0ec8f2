-- Lists of numbers: where one stands, and which may follow another.
-- Assumes nothing.
use Rattle.std.specs.Prelude.{ℕ, suc, ◌+◌, cond, List, [], ◌∷◌, eqb, Some, None}
use Rattle.std.specs.Prelude.{Option as Maybe}
use Rattle.std.proofs.Math.Option.{Option, none, some}

-- where a number stands in a list
unfoldable pub index_of : ℕ → List ℕ → Option ℕ
index_of x [] = none
index_of x (y ∷ ys) = cond (eqb y x) (some 0) (elim (index_of x ys) [ none ↦ none | some i ↦ some (suc i) ])

-- the least number that may follow some others: the first may be any, each other is above the one before
abbrev pub least_next : Maybe ℕ → ℕ
least_next None = 0
least_next (Some prev) = prev + 1
