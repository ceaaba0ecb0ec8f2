use Rattle.std.proofs.Common.{arith}
use Rattle.vecseg.specs.Payload.{block_count}
use Rattle.vec_read.proofs.lines.Counts.{counts_none, counts_next, counts_last}
use Rattle.vec_read.proofs.lines.largest_count.Goals as goal

pub u32_at-blocks-requires : goal.u32_at-blocks-requires
u32_at-blocks-requires c = omega (arith, c.requires.four)

pub loop-i-init : goal.loop-i-init
unfolding block_count
loop-i-init c = (counts_none _ _, c.u32_at-blocks.ensures)

pub u32_at-requires : goal.u32_at-requires
unfolding block_count
u32_at-requires c = omega (arith, c.requires.room, c.u32_at-blocks.ensures)

pub loop-i-preserved : goal.loop-i-preserved
loop-i-preserved c = (counts_next _ _ _ c.loop-i.invariant.0 _ _ c.u32_at.ensures (omega arith, omega arith), c.loop-i.invariant.1)

pub returns : goal.returns
returns c = counts_last _ _ _ _ c.loop-i.invariant.0 (omega (arith, c.loop-i.invariant.1))
