-- A component by its kind and by its bytes say the same: the number always, the values unless the bytes are a NaN's.
-- Assumes nothing.
use Rattle.std.specs.Prelude.{ℕ, ◌-◌, ◌<◌, ◌≡◌, refl, Bool, true, false, cond, not, List, [], ◌∷◌, T, ltb, pos, negsuc, Result, Ok}
use Rattle.std.proofs.Common.{ap, ◌∙◌, arith}
use Rattle.std.specs.Float.Ieee.{of_bits, is_nan}
use Rattle.std.specs.Float.{binary32}
use Rattle.std.specs.Float.Ieee.Bits.{to_bits-of_bits}
use Rattle.octets.specs.le.Le.{le_of}
use Rattle.answers.specs.Answer.{Accepted, number}
use Rattle.vecseg.specs.Component.{signed_of, component_of}
use Rattle.vecseg.specs.declared.Component.{Component}
use Rattle.vecseg.specs.declared.Component.TheVariants.{Float, Signed, Unsigned}
use Rattle.reading.specs.Answers.{Value, Stored, NoValue}
use Rattle.reading.specs.Component.{component_case, byte_of, kind_answer, bits_case, bits_answer}

-- the number, as the two promises of the function say it
pub kind_number : (r : Result Component ℕ) (v : Value) → r ≡ component_case v → (r ≡ component_case v) × (number (kind_answer r) ≡ number (bits_answer (bits_case v)))
unfolding component_case kind_answer bits_case bits_answer number
kind_number r v e = (e, ap (λ (x : Result Component ℕ). number (kind_answer x)) e ∙ same v)
  where
    kind : (k : Component) → number (kind_answer (Ok k)) ≡ 0
    kind (Float x) = refl
    kind (Signed i) = refl
    kind (Unsigned b) = refl

    same : (v : Value) → number (kind_answer (component_case v)) ≡ number (bits_answer (bits_case v))
    same (Stored dtype bytes) = kind (component_of dtype bytes)
    same (NoValue n) = refl

-- a byte in two's complement, and back
pub byte_back : (b : ℕ) → b < 256 → byte_of (signed_of b) ≡ b
unfolding byte_of
byte_back b h = pick (ltb b 128) refl
  where
    pick : (t : Bool) → ltb b 128 ≡ t → byte_of (cond t (pos b) (negsuc (255 - b))) ≡ b
    pick true p = refl
    pick false p = omega arith

-- the values: a float whose bytes are no NaN's, a signed and an unsigned byte
pub float_values : (bytes : List ℕ) → le_of bytes < 4294967296 → T (not (is_nan (of_bits binary32 (le_of bytes))))
    → kind_answer (component_case (Stored 0 bytes)) ≡ bits_answer (bits_case (Stored 0 bytes))
unfolding component_case component_of kind_answer bits_case bits_answer
float_values bytes h n = ap (λ (x : ℕ). Accepted (0 ∷ x ∷ [])) (to_bits-of_bits binary32 (le_of bytes) h n)

pub signed_values : (b : ℕ) → b < 256 → kind_answer (component_case (Stored 3 (b ∷ []))) ≡ bits_answer (bits_case (Stored 3 (b ∷ [])))
unfolding component_case component_of kind_answer bits_case bits_answer le_of
signed_values b h = ap (λ (x : ℕ). Accepted (3 ∷ x ∷ [])) (byte_back b h ∙ omega arith)

pub unsigned_values : (b : ℕ) → kind_answer (component_case (Stored 4 (b ∷ []))) ≡ bits_answer (bits_case (Stored 4 (b ∷ [])))
unfolding component_case component_of kind_answer bits_case bits_answer le_of
unsigned_values b = ap (λ (x : ℕ). Accepted (4 ∷ x ∷ [])) (omega arith)
