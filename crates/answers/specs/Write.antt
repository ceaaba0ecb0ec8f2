-- What a call that writes at the front of a buffer answers, and what the buffer then holds. Every writer of the store is
-- given by two things: the number by which its input is refused (0 for none), and the bytes that it writes.
-- Assumes nothing.
use Rattle.std.specs.Prelude.{ℕ, cond, List, [], ◌∷◌, eqb, leb, length, Result, Ok, Err}
use Rattle.octets.specs.Over.{over}
use Rattle.answers.specs.Answer.{Answer, Accepted, Refusal}

-- document 01's number and values for each case
abbrev pub wrote_answer : Result ℕ ℕ → Answer
wrote_answer (Ok n) = Accepted (n ∷ [])
wrote_answer (Err n) = Refusal n []

-- bad input is refused first, by its own number, then a buffer without room by 9
unfoldable pub write_answer : ℕ → List ℕ → List ℕ → Result ℕ ℕ
write_answer bad bytes buf = cond (eqb bad 0) (cond (leb (length bytes) (length buf)) (Ok (length bytes)) (Err 9)) (Err bad)

-- the bytes at the buffer's front, all behind them as it was; on a refusal all as it was
unfoldable pub write_buffer : ℕ → List ℕ → List ℕ → List ℕ
write_buffer bad bytes buf = cond (eqb bad 0) (cond (leb (length bytes) (length buf)) (over buf 0 bytes) buf) buf
