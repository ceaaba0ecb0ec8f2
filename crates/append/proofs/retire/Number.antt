-- What the number of ids that may not be retired says, and what holds of an answer where another thing does.
-- Assumes nothing.
use Rattle.std.specs.Prelude.{ℕ, ◌≡◌, ◌<◌, refl, Bool, true, false, Result, Ok, Err}
use Rattle.std.specs.Result.{OnOk}
use Rattle.std.proofs.Common.{sym, arith}
use Rattle.append.specs.retire.Marks.{retire_number}

pub number_held : (b : Bool) → 0 ≡ retire_number b → b ≡ true
number_held true e = refl
number_held false e = absurd (omega arith)

pub number_refused : (b : Bool) (n : ℕ) → n ≡ retire_number b → 0 < n → (b ≡ false) × (11 ≡ n)
number_refused true n e h = absurd (omega arith)
number_refused false n e h = (refl, sym e)

pub on_ok_of : {A E P Q : Type 0} → (r : Result A E) → (P → Q) → OnOk r P → OnOk r Q
on_ok_of (Ok x) f p = f p
on_ok_of (Err e) f p = p
