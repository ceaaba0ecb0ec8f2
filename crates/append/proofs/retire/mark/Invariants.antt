-- How many ids are marked.
use Rattle.append.proofs.retire.Turn.{MarkAt}
use Rattle.append.proofs.retire.mark.Given as goal

abbrev pub invariant-loop-id : goal.invariant-loop-id
invariant-loop-id l = MarkAt l.entry_ids l.kinds l.initial.states l.ids l.states l.id-index
