-- Laws of the block directory: a line by its bytes in the payload, the ways out of its check, and where a loop over the lines stands.
-- Assumes nothing.
use Prim.Native.Nat.{ℕ, zero, suc, ◌+◌, ◌-◌, ◌*◌, ◌≤◌, ◌<◌}
use Rattle.std.specs.Prelude.{◌≡◌, refl, Bool, true, false, cond, ◌&&◌, ◌||◌, List, eqb, leb, ltb, get_or, drop}
use Rattle.std.proofs.Common.{sym, ◌∙◌, mul-le-mul, get_or-drop}
use native.Mathlib.Omega.{arith}
use Rattle.std.proofs.Math.Seq.{drop-drop}
use borrow.Author.Tests.{le-leb, lt-leb, lt-ltb, ne_eqb, leb-true, ltb-true}
use Rattle.octets.proofs.ZeroLaws.{and_split}
use Rattle.octets.specs.le.Le.{le_at}
use Rattle.answers.specs.limits.Limits.{max_vectors, max_dim}
use Rattle.vecseg.specs.Payload.{Line, line_of, width, line_bad, first_of, lines_bad}

-- ---- a line at a place of the payload

pub record LineIs (s : List ℕ) (at : ℕ) : Type 0 where
  pub offset : (line_of (drop at s)).offset ≡ le_at 4 s at
  pub count : (line_of (drop at s)).count ≡ le_at 4 s (at + 4)
  pub dim : (line_of (drop at s)).dim ≡ le_at 2 s (at + 8)
  pub dtype : (line_of (drop at s)).dtype ≡ get_or s (at + 10) 0
  pub tier : (line_of (drop at s)).tier ≡ get_or s (at + 11) 0

pub line_is : (s : List ℕ) (at : ℕ) → LineIs s at
unfolding line_of
line_is s at =
    record {
      offset = refl;
      count = rw (drop-drop 4 at s);
      dim = rw (drop-drop 8 at s);
      dtype = get_or-drop at s 10 0;
      tier = get_or-drop at s 11 0;
    }

-- ---- the width of a dtype

pub width_f32 : (dtype : ℕ) → dtype ≡ 0 → 4 ≡ width dtype
unfolding width
width_f32 dtype e = rw e

pub width_byte : (dtype : ℕ) → dtype ≡ 3 → 1 ≡ width dtype
unfolding width
width_byte dtype e = rw e

pub width_unsigned : (dtype : ℕ) → dtype ≡ 4 → 1 ≡ width dtype
unfolding width
width_unsigned dtype e = rw e

pub width_none : (dtype : ℕ) → (dtype ≡ 0 → ⊥) → (dtype ≡ 3 → ⊥) → (dtype ≡ 4 → ⊥) → 0 ≡ width dtype
unfolding width
width_none dtype a b c = rw (ne_eqb dtype 0 a, ne_eqb dtype 3 b, ne_eqb dtype 4 c)

pub width_most : (dtype : ℕ) → width dtype ≤ 4
unfolding width
width_most dtype = pick (eqb dtype 0) (eqb dtype 3 || eqb dtype 4)
  where
    pick : (t u : Bool) → cond t 4 (cond u 1 0) ≤ 4
    pick true u = omega arith
    pick false true = omega arith
    pick false false = omega arith

-- columns within bounds
pub columns_fit : (count dim w : ℕ) → count ≤ 4096 → dim ≤ 1024 → w ≤ 4 → (count * dim ≤ 4194304) × (count * dim * w ≤ 16777216)
columns_fit count dim w a b c =
    let p : count * dim ≤ 4096 * 1024 = mul-le-mul a b in
    let q : count * dim * w ≤ 4096 * 1024 * 4 = mul-le-mul p c in
    (p, q)

-- ---- the ways out of a line's check

module _ (l : Line) where
  pub line_count_none : l.count < 1 → 5 ≡ line_bad l
  unfolding line_bad
  line_count_none h = rw (lt-leb 1 l.count h)

  pub line_count_over : 4096 < l.count → 5 ≡ line_bad l
  unfolding line_bad
  line_count_over h = rw (le-leb 1 l.count (omega arith), lt-leb l.count 4096 h)

  module _ (one : 1 ≤ l.count) (most : l.count ≤ 4096) where
    pub line_dim_none : l.dim < 1 → 5 ≡ line_bad l
    unfolding line_bad
    line_dim_none h = rw (le-leb 1 l.count one, le-leb l.count 4096 most, lt-leb 1 l.dim h)

    pub line_dim_over : 1024 < l.dim → 5 ≡ line_bad l
    unfolding line_bad
    line_dim_over h = rw (le-leb 1 l.count one, le-leb l.count 4096 most, le-leb 1 l.dim (omega arith), lt-leb l.dim 1024 h)

    module _ (some : 1 ≤ l.dim) (at_most : l.dim ≤ 1024) where
      pub line_dtype : width l.dtype ≡ 0 → 6 ≡ line_bad l
      unfolding line_bad
      line_dtype e = rw (le-leb 1 l.count one, le-leb l.count 4096 most, le-leb 1 l.dim some, le-leb l.dim 1024 at_most, e)

      pub line_good : 0 < width l.dtype → 0 ≡ line_bad l
      unfolding line_bad
      line_good h = rw (le-leb 1 l.count one, le-leb l.count 4096 most, le-leb 1 l.dim some, le-leb l.dim 1024 at_most, lt-ltb 0 (width l.dtype) h)

-- what an accepted line says
pub record LineGood (l : Line) : Type 0 where
  pub one : 1 ≤ l.count
  pub most : l.count ≤ 4096
  pub some : 1 ≤ l.dim
  pub at_most : l.dim ≤ 1024
  pub held : 0 < width l.dtype

pub line_accepted : (l : Line) → line_bad l ≡ 0 → LineGood l
unfolding line_bad
line_accepted l e = pick (leb 1 l.count && leb l.count max_vectors && leb 1 l.dim && leb l.dim max_dim) (ltb 0 (width l.dtype)) refl refl e
  where
    pick : (t u : Bool) → leb 1 l.count && leb l.count max_vectors && leb 1 l.dim && leb l.dim max_dim ≡ t → ltb 0 (width l.dtype) ≡ u
        → ◌≡◌ {A = ℕ} (cond t (cond u 0 6) 5) 0 → LineGood l
    pick false u p q z = absurd (omega arith)
    pick true false p q z = absurd (omega arith)
    pick true true p q z =
        let a = and_split _ _ p in
        let b = and_split _ _ a.0 in
        let c = and_split _ _ b.0 in
        record {
          one = leb-true 1 l.count c.0;
          most = leb-true l.count 4096 c.1;
          some = leb-true 1 l.dim b.1;
          at_most = leb-true l.dim 1024 a.1;
          held = ltb-true 0 (width l.dtype) q;
        }

-- ---- the first of two numbers

pub first_none : (a b : ℕ) → a ≡ 0 → first_of a b ≡ b
unfolding first_of
first_none a b e = rw e

pub first_bad : (a b : ℕ) → (a ≡ 0 → ⊥) → first_of a b ≡ a
unfolding first_of
first_bad zero b h = absurd (h refl)
first_bad (suc a) b h = refl

pub first_zero : (a b : ℕ) → first_of a b ≡ 0 → (a ≡ 0) × (b ≡ 0)
unfolding first_of
first_zero zero b e = (refl, e)
first_zero (suc a) b e = absurd (omega arith)

-- ---- where the loop over the lines stands: i are passed

pub record LinesAt (s : List ℕ) (n i : ℕ) : Type 0 where
  pub at_most : i ≤ n
  pub same : lines_bad (n - i) (drop (4 + 12 * i) s) ≡ lines_bad n (drop 4 s)

pub lines_first : (s : List ℕ) (n : ℕ) → LinesAt s n 0
lines_first s n = let e : n - 0 ≡ n = omega arith in record { at_most = omega arith; same = rw e }

module _ (s : List ℕ) (n i : ℕ) (st : LinesAt s n i) (h : i < n) where
  turn : lines_bad (n - i) (drop (4 + 12 * i) s) ≡ first_of (line_bad (line_of (drop (4 + 12 * i) s))) (lines_bad (n - (i + 1)) (drop (4 + 12 * (i + 1)) s))
  unfolding lines_bad
  turn =
      let fuel : n - i ≡ suc (n - (i + 1)) = omega arith in
      let e : 4 + 12 * i + 12 ≡ 4 + 12 * (i + 1) = omega arith in
      rw (fuel, drop-drop, e)

  pub lines_next : line_bad (line_of (drop (4 + 12 * i) s)) ≡ 0 → LinesAt s n (i + 1)
  lines_next z = record { at_most = omega arith; same = sym (first_none _ _ z) ∙ sym turn ∙ st.same }

  pub lines_stop : (b : ℕ) → b ≡ line_bad (line_of (drop (4 + 12 * i) s)) → (b ≡ 0 → ⊥) → b ≡ lines_bad n (drop 4 s)
  lines_stop b e nz = e ∙ sym (first_bad _ _ (λ z. nz (e ∙ z))) ∙ sym turn ∙ st.same

  -- a line of a directory that is accepted is accepted
  pub lines_good : lines_bad n (drop 4 s) ≡ 0 → LineGood (line_of (drop (4 + 12 * i) s))
  lines_good z = line_accepted _ (first_zero _ _ (sym turn ∙ st.same ∙ z)).0

  pub lines_on : lines_bad n (drop 4 s) ≡ 0 → LinesAt s n (i + 1)
  lines_on z = lines_next (first_zero _ _ (sym turn ∙ st.same ∙ z)).0

pub lines_last : (s : List ℕ) (n i : ℕ) → LinesAt s n i → n ≤ i → 0 ≡ lines_bad n (drop 4 s)
unfolding lines_bad
lines_last s n i st h =
    let at_most = st.at_most in
    let e : n - i ≡ 0 = omega arith in
    let one : lines_bad (n - i) (drop (4 + 12 * i) s) ≡ 0 = rw e in
    sym one ∙ st.same
