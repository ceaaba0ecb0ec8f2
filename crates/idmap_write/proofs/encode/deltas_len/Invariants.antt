-- Where the loop stands: total bytes are those of the varints before this id, the last id before it prev.
use Rattle.idmap_write.proofs.encode.Put.{LenAt}
use Rattle.idmap_write.proofs.encode.deltas_len.Given as goal

abbrev pub invariant-loop-x : goal.invariant-loop-x
invariant-loop-x l = LenAt l.ids l.r l.x-index l.left l.prev l.total
