-- A vector by its id out of a payload: the payload is checked whole first, 5, 6 or 7; then 8 where no block holds the id;
-- then 9 where the buffer is short; else the vector's bytes at the buffer's front.
-- Assumes nothing.
use Rattle.std.specs.Prelude.{[], ◌∷◌, List, ℕ, cond, eqb, Result, Ok, Err}
use Rattle.answers.specs.Answer.{Answer, Accepted, Refusal}
use Rattle.vecseg.specs.declared.Vector.{Vector}
use Rattle.vecseg.specs.Find.{Place, vector_of, find_in}
use Rattle.std.proofs.Math.Option.{Option, none, some}
use Rattle.answers.specs.Write.{write_answer, write_buffer}
use Rattle.vecseg.specs.Payload.{check_of}

-- document 01's number and values for each case
abbrev pub vector_answer : Result Vector ℕ → Answer
vector_answer (Ok v) = Accepted (v.dim ∷ v.dtype ∷ v.length ∷ [])
vector_answer (Err e) = Refusal e []

-- a found vector: dim, dtype and the length written, or 9
unfoldable pub read_of : Place → Result ℕ ℕ → Result Vector ℕ
read_of p (Ok n) = Ok (record { dim = p.line.dim; dtype = p.line.dtype; length = n })
read_of p (Err e) = Err e

unfoldable pub placed_of : List ℕ → Option Place → List ℕ → Result Vector ℕ
placed_of s none buf = Err 8
placed_of s (some p) buf = read_of p (write_answer 0 (vector_of s p) buf)

unfoldable pub vector_in : List ℕ → ℕ → List ℕ → Result Vector ℕ
vector_in s id buf = cond (eqb (check_of s) 0) (placed_of s (find_in s id) buf) (Err (check_of s))

-- the buffer after it: a refusal leaves it as it was
unfoldable pub placed_buffer : List ℕ → Option Place → List ℕ → List ℕ
placed_buffer s none buf = buf
placed_buffer s (some p) buf = write_buffer 0 (vector_of s p) buf

unfoldable pub vector_buffer : List ℕ → ℕ → List ℕ → List ℕ
vector_buffer s id buf = cond (eqb (check_of s) 0) (placed_buffer s (find_in s id) buf) buf
