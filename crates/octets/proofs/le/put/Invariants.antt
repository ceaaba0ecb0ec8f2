-- Where the writing loop stands in its part of the buffer.
use Rattle.octets.proofs.le.Laws.{Writes}
use Rattle.octets.proofs.le.put.Given as goal

abbrev pub invariant-loop-b : goal.invariant-loop-b
invariant-loop-b l = Writes l.initial.b-items l.b-items 0 l.k l.x l.b-index l.rest
