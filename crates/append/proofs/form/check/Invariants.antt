-- How many lines are passed.
use Rattle.batch.proofs.Lines.{BatchLinesAt}
use Rattle.append.proofs.form.check.Given as goal

abbrev pub invariant-loop-i : goal.invariant-loop-i
invariant-loop-i l = BatchLinesAt l.batch l.bodies l.i l.at
