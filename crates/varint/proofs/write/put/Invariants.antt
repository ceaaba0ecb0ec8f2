-- Where the loop stands: the first d bytes of the varint are written, and rest is what is left of x.
use Rattle.std.proofs.Common.{◌≡◌, take}
use Rattle.octets.specs.Over.{over}
use Rattle.varint.specs.Varint.{varint_of}
use Rattle.varint.proofs.WriteLaws.{WrittenSoFar}
use Rattle.varint.proofs.write.put.Given as goal

abbrev pub invariant-loop-rest : goal.invariant-loop-rest
invariant-loop-rest l = WrittenSoFar l.x l.d l.rest × (l.out ≡ over l.fn.out l.at (take l.d (varint_of l.x)))

abbrev pub decreases-loop-rest : goal.decreases-loop-rest
decreases-loop-rest l = l.rest
