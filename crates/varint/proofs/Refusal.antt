-- A varint that is refused is refused by 5, so that a caller may pass the number on.
-- Assumes nothing.
use Rattle.std.specs.Prelude.{ℕ, zero, suc, ◌^◌, ◌≡◌, refl, Bool, true, false, cond, List, [], ◌∷◌, eqb, ltb, Result, Ok, Err}
use Rattle.std.proofs.Common.{subst}
use Rattle.varint.specs.declared.Varint.{Varint}
use Rattle.varint.specs.Varint.{read_as, bad, more, decode, below64, read_varint}

-- no value, or 5
unfoldable pub ByFive : Result Varint ℕ → Type 0
ByFive (Ok r) = Unit {0}
ByFive (Err e) = e ≡ 5

pick : (t : Bool) (x y : Result Varint ℕ) → ByFive x → ByFive y → ByFive (cond t x y)
pick true x y p q = p
pick false x y p q = q

five_more : (b : ℕ) (x : Result Varint ℕ) → ByFive x → ByFive (more b x)
unfolding more ByFive
five_more b (Ok r) p = pick (eqb r.value 0) bad (read_as _ _) refl tt
five_more b (Err e) p = p

five_decode : (k : ℕ) (s : List ℕ) → ByFive (decode k s)
unfolding decode ByFive
five_decode zero s = refl
five_decode (suc k) [] = refl
five_decode (suc k) (b ∷ bs) = pick (ltb b 128) (read_as b 1) (more b (decode k bs)) tt (five_more b (decode k bs) (five_decode k bs))

five_below : (x : Result Varint ℕ) → ByFive x → ByFive (below64 x)
unfolding below64 ByFive
five_below (Ok r) p = pick (ltb r.value (2 ^ 64)) (Ok r) bad tt refl
five_below (Err e) p = p

pub refused_five : (s : List ℕ) (e : ℕ) → read_varint s ≡ Err e → e ≡ 5
unfolding read_varint ByFive
refused_five s e q = subst ByFive q (five_below (decode 10 s) (five_decode 10 s))
