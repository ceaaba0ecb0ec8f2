-- Where the loop stands: d bytes are counted, and rest is what is left of x.
use Rattle.std.proofs.Common.{◌≤◌}
use Rattle.varint.proofs.WriteLaws.{WrittenSoFar}
use Rattle.varint.proofs.write.encoded_len.Given as goal

abbrev pub invariant-loop-rest : goal.invariant-loop-rest
invariant-loop-rest l = WrittenSoFar l.x l.d l.rest × (l.d ≤ 9)

abbrev pub decreases-loop-rest : goal.decreases-loop-rest
decreases-loop-rest l = l.rest
