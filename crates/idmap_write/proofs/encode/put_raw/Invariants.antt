-- Where the loop stands: the first i ids are written.
use Rattle.idmap_write.proofs.encode.Put.{RawPut}
use Rattle.idmap_write.proofs.encode.put_raw.Given as goal

abbrev pub invariant-loop-i : goal.invariant-loop-i
invariant-loop-i l = RawPut l.fn.buf l.buf l.ids l.i
