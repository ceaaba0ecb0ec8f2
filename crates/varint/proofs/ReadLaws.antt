-- Laws of what is read: where the reading loop stands, and its ways out.
-- Assumes nothing.
use Prim.Native.Nat.{ℕ, suc, ◌+◌, ◌-◌, ◌*◌, ◌^◌, ◌≤◌, ◌<◌}
use Rattle.std.specs.Prelude.{◌≡◌, refl, List, Bool, cond, ltb, length, drop, Result, Ok, Err}
use Rattle.std.proofs.Common.{sym, ap, ◌∙◌, mul-add, mul-one, mul_assoc, add_assoc, mul-le-mul_left, pow-suc, add-one, lit<}
use Rattle.std.proofs.Math.Bool.{true, false}
use Rattle.std.proofs.Math.Nat.{pow-le-pow_right}
use native.Mathlib.Omega.{arith}
use Rattle.std.proofs.Math.Dec.{eqb}
use Rattle.std.proofs.Math.ListN.{get_or, drop_of_length-le}
use Rattle.std.proofs.Math.Seq.{drop-cons}
use borrow.Author.Tests.{lt-ltb, le-ltb, eq-eqb, ne_eqb, eqb-true, eqb-false, ltb-true, ltb-false}
use Rattle.varint.specs.declared.Varint.{Varint}
use Rattle.varint.specs.Varint.{read_as, bad, more, decode, below64, read_varint, onto}

first_more : (b : ℕ) (r : Result Varint ℕ) → below64 (more b r) ≡ onto 1 (b - 128) 128 r
unfolding onto more below64
first_more b (Err e) = refl
first_more b (Ok r) = pick (eqb r.value 0)
  where
    pick : (t : Bool) → below64 (cond t bad (read_as (b - 128 + 128 * r.value) (r.length + 1)))
        ≡ cond t bad (cond (ltb (b - 128 + 128 * r.value) (2 ^ 64)) (read_as (b - 128 + 128 * r.value) (1 + r.length)) bad)
    pick true = refl
    pick false =
        let e : r.length + 1 ≡ 1 + r.length = omega arith in
        rw e

-- one byte more is read
next_more : (i acc p b : ℕ) (r : Result Varint ℕ) → onto i acc p (more b r) ≡ onto (i + 1) (acc + p * (b - 128)) (p * 128) r
unfolding onto more
next_more i acc p b (Err e) = refl
next_more i acc p b (Ok r) = pick (eqb r.value 0) refl
  where
    v : ℕ
    v = r.value

    n : ℕ
    n = r.length

    pick : (t : Bool) → eqb v 0 ≡ t → onto i acc p (cond t bad (read_as (b - 128 + 128 * v) (n + 1)))
        ≡ cond t bad (cond (ltb (acc + p * (b - 128) + p * 128 * v) (2 ^ 64)) (read_as (acc + p * (b - 128) + p * 128 * v) (i + 1 + n)) bad)
    pick true t = refl
    pick false t =
        let nz : eqb (b - 128 + 128 * v) 0 ≡ false = ne_eqb (b - 128 + 128 * v) 0 (λ q. eqb-false v 0 t (omega arith)) in
        let e : acc + p * (b - 128 + 128 * v) ≡ acc + p * (b - 128) + p * 128 * v =
        ap (λ (m : ℕ). acc + m) (mul-add p (b - 128) (128 * v) ∙ ap (λ (m : ℕ). p * (b - 128) + m) (sym (mul_assoc p 128 v))) ∙ sym (add_assoc acc (p * (b - 128)) (p * 128 * v)) in
        let f : i + (n + 1) ≡ i + 1 + n = omega arith in
        rw (nz, e, f)

-- where a loop over the bytes stands: i are passed, of the value acc, and the next has the weight p
pub record ReadSoFar (i acc p : ℕ) : Type 0 where
  pub some : 1 ≤ i
  pub at_most : i ≤ 9
  pub low : acc < p
  pub weight : p ≡ 128 ^ i

pub starts : (x : ℕ) → x < 128 → ReadSoFar 1 x 128
starts x h = record { some = omega arith; at_most = omega arith; low = h; weight = refl }

-- a byte's weight: below 128 it takes no more than the next weight
under : (p b : ℕ) → b < 128 → p * b + p ≤ p * 128
under p b h =
    let e : p * (b + 1) ≡ p * b + p = mul-add p b 1 ∙ ap (λ (m : ℕ). p * b + m) (mul-one p) in
    omega (arith, e, mul-le-mul_left {m = b + 1} {n = 128} p (omega arith))

-- seven bits more fit 64
pub stands_fits : (i acc p b : ℕ) → ReadSoFar i acc p → i < 9 → b < 128 → (acc + p * b < 2 ^ 64) × (p * 128 < 2 ^ 64)
stands_fits i acc p b s h hb =
    let low = s.low in
    let e : 128 ^ suc i ≡ p * 128 = pow-suc 128 i ∙ ap (λ (m : ℕ). m * 128) (sym s.weight) in
    let f : 128 ^ suc i ≤ 128 ^ 9 = pow-le-pow_right {n = 128} (lit< tt) {i = suc i} {j = 9} h in
    (omega (arith, e, f, under p b hb), omega (arith, e, f))

pub stands_next : (i acc p b : ℕ) → ReadSoFar i acc p → i < 9 → b < 256 → 128 ≤ b → ReadSoFar (i + 1) (acc + p * (b - 128)) (p * 128)
stands_next i acc p b s h hb hb' =
    let l = s.low in
    record {
      some = omega arith;
      at_most = omega arith;
      low = omega (arith, under p (b - 128) (omega arith));
      weight = rw (add-one i, pow-suc 128 i) (ap (λ (m : ℕ). m * 128) s.weight);
    }

-- ---- the ways out, of what is left of the list s behind i bytes from a place
module _ (s : List ℕ) (at i acc p : ℕ) where
  -- what is still to be read
  unfoldable pub Left : Result Varint ℕ
  Left = onto i acc p (decode (10 - i) (drop (at + i) s))

module _ (s : List ℕ) (at i acc p : ℕ) (at_most : i ≤ 9) where
  fuel : 10 - i ≡ suc (9 - i)
  fuel = omega arith

  pub left_none : length s ≤ at + i → bad ≡ Left s at i acc p
  unfolding Left decode onto
  left_none h = rw (fuel, drop_of_length-le s {i = at + i} h)

  -- a last byte
  left-last : at + i < length s → get_or s (at + i) 0 < 128 → Left s at i acc p ≡ onto i acc p (read_as (get_or s (at + i) 0) 1)
  unfolding Left decode
  left-last h k = rw (fuel, drop-cons s (at + i) 0 h, lt-ltb (get_or s (at + i) 0) 128 k)

  -- a byte before others
  left-more : at + i < length s → 128 ≤ get_or s (at + i) 0
      → Left s at i acc p ≡ onto i acc p (more (get_or s (at + i) 0) (decode (9 - i) (drop (suc (at + i)) s)))
  unfolding Left decode
  left-more h k = rw (fuel, drop-cons s (at + i) 0 h, le-ltb (get_or s (at + i) 0) 128 k)

  pub left_next : at + i < length s → 128 ≤ get_or s (at + i) 0 → Left s at i acc p ≡ Left s at (i + 1) (acc + p * (get_or s (at + i) 0 - 128)) (p * 128)
  unfolding Left
  left_next h k =
      let e : 10 - (i + 1) ≡ 9 - i = omega arith in
      let f : at + (i + 1) ≡ suc (at + i) = omega arith in
      left-more h k ∙ next_more i acc p (get_or s (at + i) 0) (decode (9 - i) (drop (suc (at + i)) s)) ∙ rw (e, f)

  -- the ways out, of the byte b that stands there
  module _ (b : ℕ) (is : b ≡ get_or s (at + i) 0) (h : at + i < length s) where
    pub left_zero : b ≡ 0 → bad ≡ Left s at i acc p
    unfolding onto
    left_zero z =
        let k : get_or s (at + i) 0 < 128 = omega arith in
        let e : eqb (get_or s (at + i) 0) 0 ≡ true = eq-eqb (get_or s (at + i) 0) 0 (omega arith) in
        rw (left-last h k, e)

    pub left_value : b < 128 → (b ≡ 0 → ⊥) → acc + p * b < 2 ^ 64 → read_as (acc + p * b) (i + 1) ≡ Left s at i acc p
    unfolding onto
    left_value k z f =
        let k2 : get_or s (at + i) 0 < 128 = omega arith in
        let e : eqb b 0 ≡ false = ne_eqb b 0 z in
        rw (left-last h k2, ← is, e, lt-ltb (acc + p * b) (2 ^ 64) f)

    left_over : b < 128 → (b ≡ 0 → ⊥) → 2 ^ 64 ≤ acc + p * b → bad ≡ Left s at i acc p
    unfolding onto
    left_over k z f =
        let k2 : get_or s (at + i) 0 < 128 = omega arith in
        let e : eqb b 0 ≡ false = ne_eqb b 0 z in
        rw (left-last h k2, ← is, e, le-ltb (acc + p * b) (2 ^ 64) f)

    -- the tenth byte has nothing behind it
    left-full : i ≡ 9 → 128 ≤ b → bad ≡ Left s at i acc p
    unfolding onto decode more
    left-full n k =
        let k2 : 128 ≤ get_or s (at + i) 0 = omega arith in
        let e : 9 - i ≡ 0 = omega arith in
        rw (left-more h k2, e)

    -- the tenth byte is 1, or the varint is bad
    pub tenth_one : i ≡ 9 → ReadSoFar i acc p → b ≡ 1 → read_as (acc + p) 10 ≡ Left s at i acc p
    tenth_one n st o =
        let w : p ≡ 2 ^ 63 = (rw n at st.weight) in
        let l = st.low in
        let e : p * b ≡ p = (rw o (mul-one p)) in
        let f : i + 1 ≡ 10 = omega arith in
        let g : acc + p * b < 2 ^ 64 = omega arith in
        rw (e, f) at (left_value (omega arith) (λ z. omega arith) g)

    pub tenth_bad : i ≡ 9 → ReadSoFar i acc p → (b ≡ 1 → ⊥) → bad ≡ Left s at i acc p
    tenth_bad n st o = pick (eqb b 0) (ltb b 128) refl refl
      where
        pick : (t u : Bool) → eqb b 0 ≡ t → ltb b 128 ≡ u → bad ≡ Left s at i acc p
        pick true u e f = left_zero (eqb-true b 0 e)
        pick false false e f = left-full n (ltb-false b 128 f)
        pick false true e f =
            let z : b ≡ 0 → ⊥ = eqb-false b 0 e in
            let two : 2 ≤ b = omega arith in
            let w : p ≡ 2 ^ 63 = (rw n at st.weight) in
            let g : p * 2 ≤ p * b = mul-le-mul_left p two in
            left_over (ltb-true b 128 f) z (omega arith)

-- the ways out of a read at a place, of the byte b that stands there
module _ (s : List ℕ) (at : ℕ) where
  pub read_none : length s ≤ at → bad ≡ read_varint (drop at s)
  unfolding read_varint decode below64
  read_none h = rw (drop_of_length-le s {i = at} h)

  pub read_one : (b : ℕ) → b ≡ get_or s at 0 → at < length s → b < 128 → read_as b 1 ≡ read_varint (drop at s)
  unfolding read_varint decode below64
  read_one b is h k =
      let f : b < 2 ^ 64 = omega arith in
      rw (drop-cons s at 0 h, ← is, lt-ltb b 128 k, lt-ltb b (2 ^ 64) f)

  pub read_on : (b : ℕ) → b ≡ get_or s at 0 → at < length s → 128 ≤ b → onto 1 (b - 128) 128 (decode 9 (drop (at + 1) s)) ≡ read_varint (drop at s)
  unfolding read_varint decode
  read_on b is h k = rw (drop-cons s at 0 h, ← is, le-ltb b 128 k, add-one) (sym (first_more b (decode 9 (drop (suc at) s))))
