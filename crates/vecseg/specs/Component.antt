-- A component as one of three kinds, by the bytes of its value: of dtype 0 a float, of 3 a signed number, else an unsigned one.
-- Assumes nothing.
use Rattle.std.specs.Prelude.{ℕ, ◌-◌, cond, ltb, eqb, ℤ, pos, negsuc, List, get_or}
use Rattle.std.specs.Float.Ieee.{of_bits}
use Rattle.std.specs.Float.{binary32}
use Rattle.octets.specs.le.Le.{le_of}
use Rattle.vecseg.specs.declared.Component.{Component}
use Rattle.vecseg.specs.declared.Component.TheVariants.{Float, Signed, Unsigned}

-- a byte in two's complement
abbrev pub signed_of : ℕ → ℤ
signed_of b = cond (ltb b 128) (pos b) (negsuc (255 - b))

-- the value of some bytes. The float is that of its four bytes; of a NaN's pattern the language has one NaN, without payload.
unfoldable pub component_of : ℕ → List ℕ → Component
component_of dtype bytes =
    cond (eqb dtype 0) (Float (of_bits binary32 (le_of bytes))) (cond (eqb dtype 3) (Signed (signed_of (get_or bytes 0 0))) (Unsigned (get_or bytes 0 0)))
