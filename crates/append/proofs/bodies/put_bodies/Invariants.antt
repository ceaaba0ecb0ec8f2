-- How many bodies are written.
use Rattle.batch.specs.Form.{bodies_of}
use Rattle.append.proofs.bodies.Bodies.{BodiesPut}
use Rattle.append.proofs.bodies.put_bodies.Given as goal

abbrev pub invariant-loop-j : goal.invariant-loop-j
invariant-loop-j l = BodiesPut (bodies_of l.batch.bytes.now) l.start l.first_id l.timestamp l.kept l.initial.buf l.buf l.initial.offsets l.offsets l.at l.j
