-- Where the loop stands: none of the numbers before this one is the number looked for.
use Rattle.octets.proofs.numbers.NumbersLaws.{IndexAt}
use Rattle.octets.proofs.numbers.index_of.Given as goal

abbrev pub invariant-loop-i : goal.invariant-loop-i
invariant-loop-i l = IndexAt l.x l.ids l.i
