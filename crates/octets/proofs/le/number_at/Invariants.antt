-- Where the reading loop stands, by the bytes that are left.
use Rattle.octets.proofs.le.Laws.{ReadsBack}
use Rattle.octets.proofs.le.number_at.Given as goal

abbrev pub invariant-loop-b : goal.invariant-loop-b
invariant-loop-b l = ReadsBack l.s l.at l.k l.b-iterator.iter.rest.now l.r
