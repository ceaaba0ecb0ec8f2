-- What is gathered and what is left are zero together just where the whole list is.
use Rattle.std.proofs.Common.{◌≡◌}
use mathlib.Core.Bool.{◌&&◌}
use lib.Dec.{eqb}
use lib.ListN.{drop}
use Rattle.octets.specs.Zero.{all_zero}
use Rattle.octets.proofs.is_zero.Given as goal

abbrev pub invariant-loop-b : goal.invariant-loop-b
invariant-loop-b l = eqb l.acc 0 && all_zero (drop l.b-index l.s) ≡ all_zero l.s
