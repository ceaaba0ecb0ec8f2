-- The laws of specs/text/Written.antt.
-- Assumes nothing.
use Rattle.std.specs.Prelude.{ℕ, ◌+◌, ◌/◌, ◌%◌, ◌≤◌, ◌<◌, ◌≡◌, refl, List, [], ◌∷◌, ◌++◌, length, set}
use Rattle.std.proofs.Common.{sym, ap, ◌∙◌, arith, length-append}
use Rattle.octets.specs.Over.{over}
use Rattle.octets.proofs.OverLaws.{over_none, over_then, over_turn, length_over}
use Rattle.octets.specs.text.Text.{decimal}
use Rattle.octets.proofs.text.TextLaws.{decimal_one, decimal_more}
use Rattle.octets.specs.text.Written.{Written}

module _ {old mid : List ℕ} {at : ℕ} {xs : List ℕ} {end : ℕ} (w : Written old mid at xs end) where
  pub same_room : length mid ≡ length old
  same_room = ap length w.holds ∙ length_over old at xs w.room

  -- a piece right behind another
  pub then : {new ys : List ℕ} {end' : ℕ} → Written mid new end ys end' → Written old new at (xs ++ ys) end'
  then {new} {ys} {end'} v =
      let l = length-append xs ys in
      let s = same_room in
      let r = w.room in
      let e = w.ends in
      let q = v.room in
      let z = v.ends in
      record {
        room = omega arith;
        ends = omega arith;
        holds =
            v.holds ∙ ap (λ (k : ℕ). over mid k ys) w.ends ∙ over_then old mid at xs ys (length xs) w.holds refl w.room;
      }

  -- a byte right behind it
  pub then_byte : (b end' : ℕ) → end < length mid → end' ≡ end + 1 → Written old (set mid end b) at (xs ++ (b ∷ [])) end'
  then_byte b end' h e' =
      let l = length-append xs (b ∷ []) in
      let s = same_room in
      let r = w.room in
      let e = w.ends in
      record {
        room = omega arith;
        ends = omega arith;
        holds = ap (λ (k : ℕ). set mid k b) w.ends ∙ over_turn old mid at xs (length xs) b w.holds refl (omega arith);
      }

-- nothing is written yet
pub nothing : (old : List ℕ) (at : ℕ) → at ≤ length old → Written old old at [] at
nothing old at h = record { room = omega arith; ends = omega arith; holds = sym (over_none old at) }

-- ---- a number, digit by digit

pub digit_first : (old : List ℕ) (at n : ℕ) → n < 10 → at + length (decimal n) ≤ length old → Written old (set old at (48 + n)) at (decimal n) (at + 1)
digit_first old at n h r =
    let e = ap length (decimal_one n h) in
    rw (decimal_one n h) (then_byte (nothing old at (omega arith)) (48 + n) (at + 1) (omega arith) refl)

pub digit_next : (old mid : List ℕ) (at n last : ℕ) → 10 ≤ n → at + length (decimal n) ≤ length old → Written old mid at (decimal (n / 10)) last
    → Written old (set mid last (48 + n % 10)) at (decimal n) (last + 1)
digit_next old mid at n last h r w =
    let e = ap length (decimal_more n h) ∙ length-append (decimal (n / 10)) ((48 + n % 10) ∷ []) in
    let s = same_room w in
    let z = w.ends in
    rw (decimal_more n h) (then_byte w (48 + n % 10) (last + 1) (omega arith) refl)

-- the room of the digits but the last
pub digits_room : (at n m : ℕ) → 10 ≤ n → at + length (decimal n) ≤ m → (at + length (decimal (n / 10)) < m) × (n / 10 < n)
digits_room at n m h r =
    let e = ap length (decimal_more n h) ∙ length-append (decimal (n / 10)) ((48 + n % 10) ∷ []) in
    (omega arith, omega arith)

pub first_room : (at n m : ℕ) → n < 10 → at + length (decimal n) ≤ m → at < m
first_room at n m h r =
    let e = ap length (decimal_one n h) in
    omega arith
