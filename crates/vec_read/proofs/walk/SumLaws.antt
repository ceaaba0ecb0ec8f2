-- The laws of specs/walk/Sum.antt.
-- Assumes nothing.
use Rattle.std.specs.Prelude.{ℕ, ◌+◌, ◌-◌, ◌≤◌, ◌≡◌, refl, Bool, true, false, List, length, take, drop}
use Rattle.std.proofs.Common.{sym, ◌∙◌, take_all}
use Rattle.std.proofs.Math.Path.{ap}
use native.Mathlib.Omega.{arith}
use Rattle.std.specs.Int.Bits.{xor_self}
use Rattle.crc32c.specs.Crc.{crc_from, crc_of}
use Rattle.crc32c.specs.Extend.{extended}
use Rattle.crc32c.proofs.ExtendLaws.{crc_of_part}
use Rattle.vec_read.specs.walk.Walk.{sum_of}
use Rattle.vec_read.specs.walk.Sum.{SumTo}

pub sum_not : (summed : Bool) (s : List ℕ) → summed ≡ false → 0 ≡ sum_of summed s
unfolding sum_of
sum_not summed s e = rw e

-- of nothing
pub sum_first : (summed : Bool) (s : List ℕ) (at : ℕ) → SumTo summed s 0 0 at
unfolding sum_of crc_of crc_from
sum_first true s at = record { taken = sym (xor_self 0xFFFF_FFFF); behind = omega arith }
sum_first false s at = record { taken = refl; behind = omega arith }

module _ (summed : Bool) (s : List ℕ) (value to at : ℕ) (st : SumTo summed s value to at) where
  -- left as it is
  pub sum_kept : (end : ℕ) → at ≤ end → SumTo summed s value to end
  sum_kept end h = let behind = st.behind in record { taken = st.taken; behind = omega arith }

  module _ (asked : summed ≡ true) where
    -- a part further
    part : (end r : ℕ) → at ≤ end → r ≡ extended value (take (end - to) (drop to s)) → r ≡ crc_of (take end s)
    unfolding sum_of
    part end r h p =
        let behind = st.behind in
        let e : to + (end - to) ≡ end = omega arith in
        let front : value ≡ crc_of (take to s) = rw asked at st.taken in
        p ∙ ap (λ (x : ℕ). extended x (take (end - to) (drop to s))) front ∙ crc_of_part s to (end - to) ∙ ap (λ (n : ℕ). crc_of (take n s)) e

    -- up to a block, and by the block's own
    pub sum_joined : (end before joined : ℕ) → at ≤ end → before ≡ extended value (take (at - to) (drop to s)) → joined ≡ extended before (take (end - at) (drop at s))
        → SumTo summed s joined end end
    unfolding sum_of
    sum_joined end before joined h p q =
        let e : at + (end - at) ≡ end = omega arith in
        let one : before ≡ crc_of (take at s) = part at before (omega arith) p in
        let two : joined ≡ crc_of (take end s) =
        q ∙ ap (λ (x : ℕ). extended x (take (end - at) (drop at s))) one ∙ crc_of_part s at (end - at) ∙ ap (λ (n : ℕ). crc_of (take n s)) e in
        record { taken = rw asked two; behind = omega arith }

    -- up to the end
    pub sum_last : at ≡ length s → (r : ℕ) → r ≡ extended value (take (length s - to) (drop to s)) → r ≡ sum_of summed s
    unfolding sum_of
    sum_last e r p = rw asked (part (length s) r (omega arith) p ∙ ap crc_of (take_all (length s) s (omega arith)))
