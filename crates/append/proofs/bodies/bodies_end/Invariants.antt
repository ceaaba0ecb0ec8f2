-- How many bodies are passed.
use Rattle.batch.specs.Form.{bodies_of}
use Rattle.append.proofs.bodies.Bodies.{EndAt}
use Rattle.append.proofs.bodies.bodies_end.Given as goal

abbrev pub invariant-loop-j : goal.invariant-loop-j
invariant-loop-j l = EndAt (bodies_of l.batch.bytes.now) l.start l.at l.j
