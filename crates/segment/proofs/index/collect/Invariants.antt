-- Where the loop stands: the links passed are the first ones of the chain, and their offsets are stored.
use Rattle.segment.proofs.index.Offsets.{CollectAt}
use Rattle.segment.proofs.index.collect.Given as goal

abbrev pub invariant-loop-n : goal.invariant-loop-n
invariant-loop-n l = CollectAt l.file l.n l.at l.prev l.offset-items
