-- Where the loop stands: none of the first i lines has a count above the largest so far.
use Rattle.std.proofs.Common.{◌≡◌}
use Rattle.vecseg.specs.Payload.{block_count}
use Rattle.vec_read.specs.lines.Counts.{CountsTo}
use Rattle.vec_read.proofs.lines.largest_count.Given as goal

abbrev pub invariant-loop-i : goal.invariant-loop-i
invariant-loop-i l = CountsTo l.s l.i l.largest × (l.blocks ≡ block_count l.s)
