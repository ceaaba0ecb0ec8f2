-- Unsigned LEB128 in its shortest form, of a number below 2 ^ 64: what is written, and what is read.
-- Assumes nothing.
use Rattle.std.specs.Prelude.{ℕ, zero, suc, ◌+◌, ◌-◌, ◌*◌, ◌/◌, ◌%◌, ◌^◌, List, [], ◌∷◌, cond, ltb, eqb, Result, Ok, Err}
use Rattle.answers.specs.Answer.{Answer, Accepted, Refusal}
use Rattle.varint.specs.declared.Varint.{Varint}

-- a number in at most k bytes: seven bits a byte, the lowest first, and 128 in each but the last
unfoldable pub leb128 : ℕ → ℕ → List ℕ
leb128 zero n = []
leb128 (suc k) n = cond (ltb n 128) (n ∷ []) ((n % 128 + 128) ∷ leb128 k (n / 128))

-- the varint of a number
unfoldable pub varint_of : ℕ → List ℕ
varint_of n = leb128 10 n

-- a value that was read, of n bytes; and a varint that breaks a rule
abbrev pub read_as : ℕ → ℕ → Result Varint ℕ
read_as v n = Ok (record { value = v; length = n })

abbrev pub bad : Result Varint ℕ
bad = Err 5

-- a value that was read, or one of length 0 for a varint that breaks a rule
abbrev pub read_or_bad : Varint → Result Varint ℕ
read_or_bad r = cond (eqb r.length 0) bad (Ok r)

-- a byte of 128 or more before the rest, whose value is not 0 in a shortest form
unfoldable pub more : ℕ → Result Varint ℕ → Result Varint ℕ
more b (Ok r) = cond (eqb r.value 0) bad (read_as (b - 128 + 128 * r.value) (r.length + 1))
more b (Err e) = Err e

-- the value of at most k bytes at the front of a list, and how many it took
unfoldable pub decode : ℕ → List ℕ → Result Varint ℕ
decode zero s = bad
decode (suc k) [] = bad
decode (suc k) (b ∷ bs) = cond (ltb b 128) (read_as b 1) (more b (decode k bs))

-- at most 2 ^ 64 - 1
unfoldable pub below64 : Result Varint ℕ → Result Varint ℕ
below64 (Ok r) = cond (ltb r.value (2 ^ 64)) (Ok r) bad
below64 (Err e) = Err e

-- the varint at the front of a list
unfoldable pub read_varint : List ℕ → Result Varint ℕ
read_varint s = below64 (decode 10 s)

-- document 01's number and values for each case
abbrev pub varint_answer : Result Varint ℕ → Answer
varint_answer (Ok r) = Accepted (r.value ∷ r.length ∷ [])
varint_answer (Err e) = Refusal e []

-- what is read behind i bytes, whose value so far is acc, where the next has the weight p
unfoldable pub onto : ℕ → ℕ → ℕ → Result Varint ℕ → Result Varint ℕ
onto i acc p (Ok r) = cond (eqb r.value 0) bad (cond (ltb (acc + p * r.value) (2 ^ 64)) (read_as (acc + p * r.value) (i + r.length)) bad)
onto i acc p (Err e) = Err e
