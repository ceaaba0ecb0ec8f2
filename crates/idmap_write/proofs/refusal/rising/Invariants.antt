-- Where the loop stands: the ids before this one rise, the last of them prev.
use Rattle.idmap_write.proofs.refusal.RefusalLaws.{RiseAt}
use Rattle.idmap_write.proofs.refusal.rising.Given as goal

abbrev pub invariant-loop-x : goal.invariant-loop-x
invariant-loop-x l = RiseAt l.ids l.x-index l.prev
