-- The two batches of the worked ends: an empty one, and one with a META body. Definitions only.
-- Assumes nothing.
use Rattle.std.specs.Prelude.{ℕ, List, [], ◌∷◌, ◌++◌, replicate}

-- a batch of no bodies, and one of a META body of 100 bytes
abbrev pub no_bodies : List ℕ
no_bodies = replicate 16 0

abbrev pub one_body : List ℕ → List ℕ
one_body body = (1 ∷ 0 ∷ 0 ∷ 0 ∷ []) ++ (replicate 12 0 ++ ((7 ∷ 0 ∷ 0 ∷ 0 ∷ 32 ∷ 0 ∷ 0 ∷ 0 ∷ 100 ∷ 0 ∷ 0 ∷ 0 ∷ 0 ∷ 0 ∷ 0 ∷ 0 ∷ []) ++ body))
