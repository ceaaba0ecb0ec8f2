-- A component by its cases: by its kind, and by its bytes. Definitions only.
-- Assumes nothing.
use Rattle.std.specs.Prelude.{ℕ, ◌-◌, [], ◌∷◌, ℤ, pos, negsuc, Result, Ok, Err}
use Rattle.std.specs.Float.Ieee.{to_bits}
use Rattle.std.specs.Float.{binary32}
use Rattle.octets.specs.le.Le.{le_of}
use Rattle.answers.specs.Answer.{Answer, Accepted, Refusal}
use Rattle.vecseg.specs.Component.{component_of}
use Rattle.vecseg.specs.declared.Component.TheVariants.{Float, Signed, Unsigned}
use Rattle.reading.specs.Answers.{Value, Stored, NoValue}
use Rattle.vecseg.specs.declared.Component.{Component}
use Rattle.reading.specs.declared.ComponentBits.{ComponentBits}

-- 'answered as one of three kinds: a float, a signed or an unsigned small number'
unfoldable pub component_case : Value → Result Component ℕ
component_case (Stored dtype bytes) = Ok (component_of dtype bytes)
component_case (NoValue n) = Err n

-- a small number's byte in two's complement
unfoldable pub byte_of : ℤ → ℕ
byte_of (pos n) = n
byte_of (negsuc n) = 255 - n

-- the number and the values of each kind: its dtype, and its bytes as a number. The language has one NaN, so a NaN's bytes are those of that one.
unfoldable pub kind_answer : Result Component ℕ → Answer
kind_answer (Ok (Float x)) = Accepted (0 ∷ to_bits binary32 x ∷ [])
kind_answer (Ok (Signed i)) = Accepted (3 ∷ byte_of i ∷ [])
kind_answer (Ok (Unsigned b)) = Accepted (4 ∷ b ∷ [])
kind_answer (Err n) = Refusal n []

-- 'The float is promised by its four bytes': the dtype, and the bytes of the value as a number
unfoldable pub bits_case : Value → Result ComponentBits ℕ
bits_case (Stored dtype bytes) = Ok (record { dtype = dtype; bits = le_of bytes })
bits_case (NoValue n) = Err n

-- its number and values
unfoldable pub bits_answer : Result ComponentBits ℕ → Answer
bits_answer (Ok b) = Accepted (b.dtype ∷ b.bits ∷ [])
bits_answer (Err n) = Refusal n []
