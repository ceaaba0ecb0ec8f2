-- The ways out of the tests on a header, each with its law.
-- Assumes nothing.
use Rattle.std.specs.Prelude.{◌≡◌, refl, Bool, true, false, ◌&&◌, eqb, List, ◌++◌, ℕ, ◌≤◌, ◌<◌, leb, take, drop, get_or, replicate}
use Rattle.std.proofs.Common.{sym, ap, ◌∙◌, arith, le-leb}
use Rattle.std.proofs.Math.Bool.{and-true}
use Rattle.std.proofs.lemmas.Bool.{lt-leb}
use Rattle.octets.specs.Over.{over}
use Rattle.octets.specs.Zero.{all_zero, same_bytes}
use Rattle.octets.specs.le.Le.{le_bytes}
use Rattle.crc32c.specs.Crc.{crc_of}
use Rattle.segment.specs.Header.{all, magic, type_held, type_reserved, flags_held, head_sound, head_tests, kind_in, flags_in, id_in, content_hash}
use Rattle.segment.proofs.Tests.{all_fails}

-- ---- types

pub kind_byte : (t : ℕ) → t < 256 → leb 0x01 t ≡ type_held t
unfolding type_held
kind_byte t h = rw (le-leb t 0xFF (omega arith)) (sym (and-true (leb 0x01 t)))

pub reserved_low : (t : ℕ) → t < 0x0E → false ≡ type_reserved t
unfolding type_reserved
reserved_low t h = rw (lt-leb 0x0E t h)

pub reserved_high : (t : ℕ) → 0x0E ≤ t → leb t 0xEF ≡ type_reserved t
unfolding type_reserved
reserved_high t h = rw (le-leb 0x0E t h)

-- ---- the content hash, laid over zeros

pub hash_laid : (hash : List ℕ) (sum : ℕ) → hash ≡ over (replicate 16 0) 0 (le_bytes 4 sum) → hash ≡ le_bytes 4 sum ++ replicate 12 0
unfolding over le_bytes
hash_laid hash sum p = p

-- the hash that a payload's checksum makes is the payload's
pub hash_of : (payload hash : List ℕ) (sum : ℕ) → sum ≡ crc_of payload → hash ≡ le_bytes 4 sum ++ replicate 12 0 → hash ≡ content_hash payload
unfolding content_hash
hash_of payload hash sum e p = p ∙ ap (λ (n : ℕ). le_bytes 4 n ++ replicate 12 0) e

-- ---- a header's own bytes

-- a test fails
pub head_fails : (least : ℕ) (h : List ℕ) (i : ℕ) → get_or (head_tests least h) i true ≡ false → false ≡ head_sound least h
unfolding head_sound
head_fails least h i e = sym (all_fails (head_tests least h) i e)

-- all but the last hold, and the last decides
pub head_holds : (least : ℕ) (h : List ℕ) (r : Bool) → same_bytes (take 4 h) magic ≡ true → get_or h 0x04 0 ≡ 1 → type_held (kind_in h) ≡ true
    → flags_held (flags_in h) ≡ true → get_or h 0x20 0 ≡ 0 → all_zero (take 7 (drop 0x21 h)) ≡ true → all_zero (take 8 (drop 0x38 h)) ≡ true
    → r ≡ leb least (id_in h) → r ≡ head_sound least h
unfolding head_sound all
head_holds least h r magic-is version kind flags algo middle last id =
    id ∙ rw (magic-is, version, kind, flags, algo, middle, last) (sym (and-true (leb least (id_in h))))

-- a test that is asked where those before it hold, and one that is not
pub asked : {v before test : Bool} → before ≡ true → v ≡ test → v ≡ before && test
asked h e = e ∙ rw h

pub not_asked : {v before : Bool} (test : Bool) → before ≡ false → v ≡ before → v ≡ before && test
not_asked test h e = e ∙ rw h

conjunction : (a b c d e f g i : Bool)
    → (((((((a && b) && c) && d) && e) && f) && g) && i) ≡ (a && (b && (c && (d && (e && (f && (g && (i && true))))))))
conjunction true true true true true true true i = sym (and-true i)
conjunction true true true true true true false i = refl
conjunction true true true true true false g i = refl
conjunction true true true true false f g i = refl
conjunction true true true false e f g i = refl
conjunction true true false d e f g i = refl
conjunction true false c d e f g i = refl
conjunction false b c d e f g i = refl

-- all but the last, asked one by one, and the last: what stands after each
pub head_asked : (least : ℕ) (h : List ℕ) (v₂ v₃ v₄ v₅ v₆ v₇ : Bool) → v₂ ≡ same_bytes (take 4 h) magic && eqb (get_or h 0x04 0) 1 → v₃ ≡ v₂ && type_held (kind_in h)
    → v₄ ≡ v₃ && flags_held (flags_in h) → v₅ ≡ v₄ && eqb (get_or h 0x20 0) 0 → v₆ ≡ v₅ && all_zero (take 7 (drop 0x21 h)) → v₇ ≡ v₆ && all_zero (take 8 (drop 0x38 h))
    → head_sound least h ≡ v₇ && leb least (id_in h)
unfolding head_sound all
head_asked least h v₂ v₃ v₄ v₅ v₆ v₇ e₂ e₃ e₄ e₅ e₆ e₇ = rw (e₇, e₆, e₅, e₄, e₃, e₂)
    (sym
    (conjunction (same_bytes (take 4 h) magic) (eqb (get_or h 0x04 0) 1) (type_held (kind_in h)) (flags_held (flags_in h)) (eqb (get_or h 0x20 0) 0)
    (all_zero (take 7 (drop 0x21 h))) (all_zero (take 8 (drop 0x38 h))) (leb least (id_in h))))
