-- Where the loop stands: i blocks are passed, and the next is to begin at `at`.
use Rattle.std.proofs.Common.{◌≡◌}
use Rattle.vecseg.specs.Payload.{block_count}
use Rattle.vec_read.proofs.walk.Turn.{WalkAt}
use Rattle.vec_read.proofs.walk.walk_blocks.Given as goal

abbrev pub invariant-loop-i : goal.invariant-loop-i
invariant-loop-i l = WalkAt l.s l.id l.summed l.i l.at l.sum.value l.sum.to l.kept × (l.blocks ≡ block_count l.s)
