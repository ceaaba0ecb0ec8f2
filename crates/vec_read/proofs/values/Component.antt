-- A component as one of three kinds, by the bytes of its value: of dtype 0 a float, of 3 a signed number, else an unsigned one.
-- Assumes nothing.
use Rattle.std.specs.Prelude.{ℕ, ◌<◌, ◌≡◌, refl, List, Bool, true, false, cond, ◌||◌, eqb, get_or, take, drop}
use Rattle.std.proofs.Common.{sym, ap, ◌∙◌, add-zero, arith, ne_eqb, eqb-true, get_or-take, get_or-drop}
use Rattle.std.specs.Float.Ieee.{of_bits}
use Rattle.std.specs.Float.{binary32}
use Rattle.octets.specs.le.Le.{le_at}
use Rattle.vecseg.specs.Payload.{width}
use Rattle.vecseg.specs.declared.Component.TheVariants.{Float, Signed, Unsigned}
use Rattle.vecseg.specs.Component.{component_of, signed_of}

-- ---- the three ways out, of a value's bytes at a place

pub component_float : (s : List ℕ) (at dtype bits : ℕ) → dtype ≡ 0 → bits ≡ le_at 4 s at → Float (of_bits binary32 bits) ≡ component_of dtype (take (width dtype) (drop at s))
unfolding component_of width
component_float s at dtype bits e b = rw (e, b)

first_byte : (s : List ℕ) (at : ℕ) → get_or (take 1 (drop at s)) 0 0 ≡ get_or s at 0
first_byte s at = get_or-take 1 (drop at s) 0 0 (omega arith) ∙ get_or-drop at s 0 0 ∙ rw (add-zero at)

pub byte_wide : (dtype : ℕ) → (dtype ≡ 0 → ⊥) → 0 < width dtype → width dtype ≡ 1
unfolding width
byte_wide dtype a h = pick (eqb dtype 0) (eqb dtype 3 || eqb dtype 4) refl h
  where
    pick : (t u : Bool) → eqb dtype 0 ≡ t → 0 < cond t 4 (cond u 1 0) → ◌≡◌ {A = ℕ} (cond t 4 (cond u 1 0)) 1
    pick true u p q = absurd (a (eqb-true dtype 0 p))
    pick false true p q = refl
    pick false false p q = absurd (omega arith)

pub component_signed : (s : List ℕ) (at dtype : ℕ) → dtype ≡ 3 → Signed (signed_of (get_or s at 0)) ≡ component_of dtype (take (width dtype) (drop at s))
unfolding component_of width
component_signed s at dtype e = rw (e, first_byte s at)

pub component_unsigned : (s : List ℕ) (at dtype : ℕ) → (dtype ≡ 0 → ⊥) → (dtype ≡ 3 → ⊥) → 0 < width dtype → Unsigned (get_or s at 0) ≡ component_of dtype (take (width dtype) (drop at s))
unfolding component_of
component_unsigned s at dtype a b h =
    let w : width dtype ≡ 1 = byte_wide dtype a h in
    rw (ne_eqb dtype 0 a, ne_eqb dtype 3 b, w) (ap Unsigned (sym (first_byte s at)))
