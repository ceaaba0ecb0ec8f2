-- What a definition finds, as the language's own option.
-- Assumes nothing.
use Rattle.std.specs.Prelude.{Some, None}
use Rattle.std.specs.Prelude.{Option as Maybe}
use Rattle.std.proofs.Math.Option.{Option, none, some}

abbrev pub option_of : {A : Type 0} → Option A → Maybe A
option_of none = None
option_of (some x) = Some x
