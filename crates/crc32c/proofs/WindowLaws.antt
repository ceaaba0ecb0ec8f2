-- The laws of specs/Window.antt.
-- Assumes nothing.
use Prim.Native.Nat.{ℕ, suc, ◌+◌, ◌-◌, ◌*◌, ◌^◌, ◌<◌, ◌≤◌}
use Rattle.std.specs.Prelude.{◌≡◌, refl, length, take, drop}
use Rattle.std.proofs.Math.Path.{sym, ap, ap₂}
use Rattle.std.proofs.Common.{◌∙◌, ⊎_elim, zero-add, eq-or-lt_of_le, add-one, length-drop, take-append-drop, get_or-set_same, length-take-le, take_all, drop-drop}
use mathlib.Core.List.{List, [], ◌∷◌, ◌++◌}
use native.Mathlib.Omega.{arith}
use Rattle.std.specs.Int.Bits.{bit_xor}
use Rattle.std.proofs.Math.ListN.{get_or, set}
use Rattle.std.proofs.Math.Seq.{get_or-set_other}
use Rattle.crc32c.specs.Crc.{poly, bits, crc_from}
use Rattle.crc32c.proofs.Xor.{xor_assoc, xor_swap, xor_twice}
use Rattle.crc32c.proofs.Words.{crc_from_byte, crc_from_append}
use Rattle.crc32c.specs.Sparse.{sum}
use Rattle.crc32c.proofs.Sparse.{sum_same, sum_xor, sum_bits, taps, Multiple, taps_back}
use Rattle.crc32c.specs.Span.{span}
use Rattle.crc32c.proofs.Span.{span_same, span_next}
use Rattle.crc32c.specs.Window.{held}

-- the places of a list are from 4 on and below another: the four bytes that a register starts with are within each
unfoldable pub Inside : List ℕ → ℕ → Type 0
Inside [] n = Unit {0}
Inside (k ∷ l) n = ((4 ≤ k) × (k < n)) × Inside l n

pub sum_inside : (f g : ℕ → ℕ) (l : List ℕ) (n : ℕ) → Inside l n → ((k : ℕ) → 4 ≤ k → k < n → f k ≡ g k) → sum f l ≡ sum g l
unfolding sum Inside
sum_inside f g [] n h e = refl
sum_inside f g (k ∷ l) n h e = ap₂ (λ (x y : ℕ). bit_xor x y) (e k h.0.0 h.0.1) (sum_inside f g l n h.1 e)

peel : (x y e : ℕ) → bit_xor (bit_xor (bit_xor x e) y) e ≡ bit_xor x y
peel x y e = ap (λ (z : ℕ). bit_xor z e) (sym (xor_swap x y e)) ∙ xor_assoc x (bit_xor y e) e ∙ ap (λ (z : ℕ). bit_xor x z) (xor_twice y e)

-- a multiple by its farthest place, the length of the window, and those inside
module _ (long : ℕ) (inner : List ℕ) (fits : Inside inner long) where
  pub held_same : (w v : List ℕ) (i j : ℕ) → ((n : ℕ) → n < long → get_or w (i + n) 0 ≡ get_or v (j + n) 0) → held (long ∷ inner) w i ≡ held (long ∷ inner) v j
  unfolding held sum
  held_same w v i j e =
      ap₂ (λ (x y : ℕ). bit_xor x y) (span_same w v i j long e)
      (sum_inside (λ k. span w i k) (λ k. span v j k) inner long fits (λ k _ h. span_same w v i j k (λ n hn. e n (omega arith))))

  -- the window a place further on: the bytes at all the places are taken in
  held_next : Multiple (long ∷ inner) → (w : List ℕ) (i : ℕ) → get_or w i 0 < 256
      → held (long ∷ inner) w (suc i) ≡ bits poly 8 (bit_xor (held (long ∷ inner) w i) (bit_xor (sum (λ k. get_or w (i + k) 0) (long ∷ inner)) (get_or w i 0)))
  unfolding held taps
  held_next good w i h =
      let reach = long ∷ inner in
      let x : ℕ = get_or w i 0 in
      let g : ℕ = sum (λ k. get_or w (i + k) 0) reach in
      let hx : x < 2 ^ 32 = omega arith in
      sum_same (λ k. span w (suc i) k) (λ k. bits poly 8 (bit_xor (bit_xor (span w i k) (get_or w (i + k) 0)) (bits poly (8 * k) x))) (λ k. span_next w i k) reach
      ∙ sum_bits 8 (λ k. bit_xor (bit_xor (span w i k) (get_or w (i + k) 0)) (bits poly (8 * k) x)) reach
      ∙ ap (λ (y : ℕ). bits poly 8 y)
      (sum_xor (λ k. bit_xor (span w i k) (get_or w (i + k) 0)) (λ k. bits poly (8 * k) x) reach
      ∙ ap₂ (λ (y z : ℕ). bit_xor y z) (sum_xor (λ k. span w i k) (λ k. get_or w (i + k) 0) reach) (taps_back reach good x hx)
      ∙ xor_assoc (sum (λ k. span w i k) reach) g x)

  -- a byte taken in: the new byte with those at the other places is the byte of the message
  pub taken_in : Multiple (long ∷ inner) → (w s : List ℕ) (i v : ℕ) → i < length s → i + long < length w → 0 < long → get_or w i 0 < 256
      → v ≡ bit_xor (bit_xor (get_or s i 0) (sum (λ k. get_or w (i + k) 0) inner)) (get_or w i 0)
      → crc_from (held (long ∷ inner) (set w (i + long) v) (i + 1)) (drop (i + 1) s) ≡ crc_from (held (long ∷ inner) w i) (drop i s)
  unfolding sum
  taken_in good w s i v hs hw pos hb ev =
      let u : List ℕ = set w (i + long) v in
      let old : (n : ℕ) → n < long → get_or u (i + n) 0 ≡ get_or w (i + n) 0 = λ n h. get_or-set_other w (i + long) (i + n) v 0 (λ e. omega arith) in
      let same : get_or u i 0 ≡ get_or w i 0 = get_or-set_other w (i + long) i v 0 (λ e. omega arith) in
      let hu : get_or u i 0 < 256 = omega arith in
      let others : ℕ = sum (λ k. get_or w (i + k) 0) inner in
      let x : ℕ = get_or w i 0 in
      let all : sum (λ k. get_or u (i + k) 0) (long ∷ inner) ≡ bit_xor v others =
      ap₂ (λ (y z : ℕ). bit_xor y z) (get_or-set_same w (i + long) v 0 hw)
      (sum_inside (λ k. get_or u (i + k) 0) (λ k. get_or w (i + k) 0) inner long fits (λ k _ h. old k h)) in
      ap (λ (y : ℕ). crc_from y (drop (i + 1) s))
      (ap (λ (n : ℕ). held (long ∷ inner) u n) (add-one i)
      ∙ held_next good u i hu
      ∙ ap₂ (λ (y z : ℕ). bits poly 8 (bit_xor y z)) (held_same u w i i old)
      (ap₂ (λ (y z : ℕ). bit_xor y z) (all ∙ ap (λ (y : ℕ). bit_xor y others) ev) same
      ∙ peel (bit_xor (get_or s i 0) others) others x
      ∙ xor_twice (get_or s i 0) others))
      ∙ sym (crc_from_byte (held (long ∷ inner) w i) s i hs)

  -- the window at a place brought to the front
  pub moved_held : (v w : List ℕ) (by : ℕ) → ((n : ℕ) → n < long → get_or w n 0 ≡ get_or v (by + n) 0) → held (long ∷ inner) w 0 ≡ held (long ∷ inner) v by
  moved_held v w by m = held_same w v 0 by (λ n h. ap (λ (k : ℕ). get_or w k 0) (zero-add n) ∙ m n h)

-- i bytes of the window at a place moved to the front
pub record Moved (v w : List ℕ) (by i : ℕ) : Type 0 where
  pub front : (n : ℕ) → n < i → get_or w n 0 ≡ get_or v (by + n) 0
  pub behind : (n : ℕ) → i ≤ n → get_or w n 0 ≡ get_or v n 0

pub moved_none : (v : List ℕ) (by : ℕ) → Moved v v by 0
moved_none v by = record { front = λ n h. omega arith; behind = λ n h. refl }

pub moved_next : (v w : List ℕ) (by i : ℕ) → i < length w → Moved v w by i → Moved v (set w i (get_or w (by + i) 0)) by (i + 1)
moved_next v w by i h m =
    let x : ℕ = get_or w (by + i) 0 in
    record {
      front = λ n hn.
          ⊎_elim
          (λ e. ap (λ (k : ℕ). get_or (set w i x) k 0) e ∙ get_or-set_same w i x 0 h ∙ m.behind (by + i) (omega arith) ∙ ap (λ (k : ℕ). get_or v (by + k) 0) (sym e))
          (λ l. get_or-set_other w i n x 0 (λ e. omega arith) ∙ m.front n l) (eq-or-lt_of_le {n = n} {m = i} (omega arith));
      behind = λ n hn. get_or-set_other w i n x 0 (λ e. omega arith) ∙ m.behind n (omega arith);
    }

-- a part taken in, and its window brought to the front; and the last part
pub part_turn : (reach u v w s : List ℕ) (at to n : ℕ) → at + n ≡ to → to ≤ length s
    → held reach v (length (take (to - at) (drop at s))) ≡ crc_from (held reach u 0) (take (to - at) (drop at s)) → held reach w 0 ≡ held reach v n
    → crc_from (held reach w 0) (drop to s) ≡ crc_from (held reach u 0) (drop at s)
part_turn reach u v w s at to n e h hv hw =
    let k : ℕ = to - at in
    let d : List ℕ = drop at s in
    let m : at + k ≡ to = omega arith in
    let l : n ≡ length (take k d) = omega (arith, length-take-le k d (omega (arith, length-drop at s))) in
    ap₂ (λ (x : ℕ) (r : List ℕ). crc_from x r) (hw ∙ ap (λ (x : ℕ). held reach v x) l ∙ hv)
    (sym (drop-drop k at s ∙ ap (λ (x : ℕ). drop x s) m))
    ∙ sym (crc_from_append (held reach u 0) (take k d) (drop k d))
    ∙ ap (λ (r : List ℕ). crc_from (held reach u 0) r) (take-append-drop k d)

pub part_last : (reach u v s : List ℕ) (at : ℕ)
    → held reach v (length (take (length s - at) (drop at s))) ≡ crc_from (held reach u 0) (take (length s - at) (drop at s))
    → held reach v (length s - at) ≡ crc_from (held reach u 0) (drop at s)
part_last reach u v s at hv =
    let d : List ℕ = drop at s in
    let all : take (length s - at) d ≡ d = take_all (length s - at) d (omega (arith, length-drop at s)) in
    ap (λ (n : ℕ). held reach v n) (sym (ap length all ∙ length-drop at s)) ∙ hv ∙ ap (λ (r : List ℕ). crc_from (held reach u 0) r) all

-- the same where the loop goes over the parts themselves
pub part_taken : (reach u v w rest part more : List ℕ) (n : ℕ) → rest ≡ part ++ more → length part ≡ n → held reach v (length part) ≡ crc_from (held reach u 0) part
    → held reach w 0 ≡ held reach v n → crc_from (held reach w 0) more ≡ crc_from (held reach u 0) rest
part_taken reach u v w rest part more n e l hv hw =
    ap (λ (x : ℕ). crc_from x more) (hw ∙ ap (λ (k : ℕ). held reach v k) (sym l) ∙ hv)
    ∙ sym (crc_from_append (held reach u 0) part more)
    ∙ ap (λ (r : List ℕ). crc_from (held reach u 0) r) (sym e)
