-- What an append answers, by cases, and the number that a batch is refused with.
-- The laws stand in proofs/commit/Answer.antt. Definitions only.
-- Assumes nothing.
use Rattle.std.specs.Prelude.{ℕ, cond, List}
use Rattle.batch.specs.Form.{batch_held, bodies_of}
use Rattle.appending.specs.Append.{vectors_bad}

-- 10, then 5, 6 or 7
unfoldable pub batch_number : List ℕ → ℕ
batch_number batch = cond (batch_held batch) (vectors_bad (bodies_of batch)) 10
