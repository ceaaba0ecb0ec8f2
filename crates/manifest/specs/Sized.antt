-- A directory for entries of any size and form: the entries one after the other, the states read off them, the length of their record. The
-- laws hold for every size, so that another form of an entry needs none of its own.
-- Assumes nothing.
use Rattle.std.specs.Prelude.{ℕ, zero, suc, ◌+◌, ◌*◌, List, [], ◌∷◌, ◌++◌, drop, get_or}
use Rattle.octets.specs.Round.{round64}

-- entries one after the other; the first state is the first one's
unfoldable pub entries_of : {X : Type 0} → (X → ℕ → List ℕ) → List X → List ℕ → List ℕ
entries_of g [] ss = []
entries_of g (x ∷ xs) ss = g x (get_or ss 0 0) ++ entries_of g xs (drop 1 ss)

-- the states of n entries of a size, read off the bytes of a directory: byte 41 of each entry
unfoldable pub states_by : ℕ → ℕ → List ℕ → List ℕ
states_by size zero e = []
states_by size (suc n) e = get_or e 41 0 ∷ states_by size n (drop size e)

-- the record of c entries of a size takes so many bytes, its fill included
unfoldable pub record_by : ℕ → ℕ → ℕ
record_by size c = round64 (8 + size * c)
