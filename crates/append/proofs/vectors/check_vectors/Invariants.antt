-- How many bodies are checked.
use Rattle.batch.specs.Form.{bodies_of}
use Rattle.append.proofs.vectors.Vectors.{SumsAt}
use Rattle.append.proofs.vectors.check_vectors.Given as goal

abbrev pub invariant-loop-j : goal.invariant-loop-j
invariant-loop-j l = SumsAt (bodies_of l.batch.bytes.now) l.initial.sums l.sums l.j
