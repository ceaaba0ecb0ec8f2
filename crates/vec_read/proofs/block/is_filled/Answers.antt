use Rattle.std.proofs.Common.{arith, ◌∙◌}
use Rattle.octets.proofs.RoundLaws.{round64_ge}
use Rattle.vecseg.proofs.BlockLaws.{filled_short, filled_there}
use Rattle.vec_read.proofs.block.is_filled.Goals as goal

pub returns-then-s-end : goal.returns-then-s-end
returns-then-s-end c = filled_short _ _ (omega arith)

pub slice_bounds-is_zero-count : goal.slice_bounds-is_zero-count
slice_bounds-is_zero-count c = omega (arith, round64_ge c.args.at)

pub slice_bounds-is_zero-start : goal.slice_bounds-is_zero-start
slice_bounds-is_zero-start c = omega (arith, round64_ge c.args.at)

pub returns : goal.returns
returns c =
    (rw c.round_up-end.ensures at c.is_zero.ensures) ∙ filled_there c.args.at
    c.args.s.now (omega arith)
