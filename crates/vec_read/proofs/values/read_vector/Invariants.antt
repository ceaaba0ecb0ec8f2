-- Where the loop stands: the values of the first d dimensions are copied.
use Rattle.vec_read.proofs.values.Vector.{VectorAt}
use Rattle.vec_read.proofs.values.read_vector.Given as goal

abbrev pub invariant-loop-d : goal.invariant-loop-d
invariant-loop-d l = VectorAt l.s l.place.offset l.place.count l.place.dim l.place.dtype l.place.index l.fn.buf l.buf l.d
