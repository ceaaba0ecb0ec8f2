-- Where the loop stands: the first i lines are good.
use Rattle.vecseg.proofs.LineLaws.{LinesAt}
use Rattle.vec_read.proofs.lines.check_lines.Given as goal

abbrev pub invariant-loop-i : goal.invariant-loop-i
invariant-loop-i l = LinesAt l.s l.blocks l.i
