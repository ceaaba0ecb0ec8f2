-- The number that a batch is refused with for its form.
-- Assumes nothing.
use Rattle.std.specs.Prelude.{ℕ, cond, List}
use Rattle.batch.specs.Form.{batch_held}

-- 10 for 'the sheet's form'
unfoldable pub form_number : List ℕ → ℕ
form_number batch = cond (batch_held batch) 0 10
