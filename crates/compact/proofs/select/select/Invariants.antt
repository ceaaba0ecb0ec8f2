-- Which entries are passed, and what is selected of them.
use Rattle.compact.proofs.select.SelectLaws.{Selecting}
use Rattle.compact.proofs.select.select.Given as goal

abbrev pub invariant-loop-i : goal.invariant-loop-i
invariant-loop-i l = Selecting l.file l.initial.offsets l.offsets l.i l.n l.end
