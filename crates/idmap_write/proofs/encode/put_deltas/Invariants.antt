-- Where the loop stands: what is written of the ids before this one, the last of them prev.
use Rattle.idmap_write.proofs.encode.Put.{PutAt}
use Rattle.idmap_write.proofs.encode.put_deltas.Given as goal

abbrev pub invariant-loop-x : goal.invariant-loop-x
invariant-loop-x l = PutAt l.fn.buf l.buf l.ids l.r l.start l.x-index l.left l.prev l.place l.pos
