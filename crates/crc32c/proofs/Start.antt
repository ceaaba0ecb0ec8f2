-- The laws of specs/Start.antt.
-- Assumes nothing.
use Rattle.std.specs.Prelude.{ℕ, zero, suc, ◌+◌, ◌-◌, ◌*◌, ◌^◌, ◌<◌, ◌≤◌, ◌≡◌, refl, Bool, true, false, List, [], ◌∷◌, ◌++◌, length, get_or, drop, set, replicate}
use Rattle.std.proofs.Common.{sym, ap, ap₂, subst, ◌∙◌, arith, drop_of_length-le, get_or-drop}
use Rattle.std.specs.Int.Bits.{bit_xor, xor_zero_l, xor_zero_r}
use Rattle.std.proofs.Math.ListN.{get_or-eq_default}
use Rattle.octets.specs.Over.{over}
use Rattle.octets.specs.le.Le.{le_bytes}
use Rattle.octets.proofs.le.Laws.{bytes_le_bytes, length_le_bytes}
use Rattle.crc32c.specs.Crc.{poly, bits, byte_step, crc_from}
use Rattle.crc32c.proofs.Xor.{xor_assoc}
use Rattle.crc32c.proofs.Linear.{bits_add}
use Rattle.crc32c.proofs.Words.{le, crc_from_le}
use Rattle.crc32c.specs.Sparse.{sum, near, far}
use Rattle.crc32c.proofs.Sparse.{taps, Multiple, taps_back, near_multiple, far_multiple}
use Rattle.crc32c.specs.Span.{span}
use Rattle.crc32c.proofs.Span.{span_all}
use Rattle.crc32c.specs.Window.{held}
use Rattle.crc32c.proofs.WindowLaws.{Inside, sum_inside, held_same, taken_in, moved_held}
use Rattle.crc32c.specs.Start.{reach_of, size_of, inner_of}

-- the places inside, of the near multiple and of the far one
abbrev near_inner : List ℕ
near_inner = 142 ∷ 134 ∷ 62 ∷ 21 ∷ []

abbrev far_inner : List ℕ
far_inner = 4508 ∷ 2751 ∷ []

near_inside : Inside near_inner 299
unfolding Inside
near_inside = ((omega arith, omega arith), ((omega arith, omega arith), ((omega arith, omega arith), ((omega arith, omega arith), tt))))

far_inside : Inside far_inner 5275
unfolding Inside
far_inside = ((omega arith, omega arith), ((omega arith, omega arith), tt))

-- the bytes as the code adds them
near_byte : (s a b c d e : ℕ) → bit_xor (bit_xor (bit_xor (bit_xor (bit_xor s a) b) c) d) e ≡ bit_xor (bit_xor s (bit_xor a (bit_xor b (bit_xor c (bit_xor d 0))))) e
near_byte s a b c d e =
    ap (λ (x : ℕ). bit_xor x e)
    (xor_assoc (bit_xor (bit_xor s a) b) c d
    ∙ xor_assoc (bit_xor s a) b (bit_xor c d)
    ∙ xor_assoc s a (bit_xor b (bit_xor c d))
    ∙ ap (λ (x : ℕ). bit_xor s (bit_xor a (bit_xor b (bit_xor c x)))) (sym (xor_zero_r d)))

far_byte : (s a b e : ℕ) → bit_xor (bit_xor (bit_xor s a) b) e ≡ bit_xor (bit_xor s (bit_xor a (bit_xor b 0))) e
far_byte s a b e =
    ap (λ (x : ℕ). bit_xor x e) (xor_assoc s a b ∙ ap (λ (x : ℕ). bit_xor s (bit_xor a x)) (sym (xor_zero_r b)))

pub near_sum : (w : List ℕ) (i : ℕ)
    → bit_xor (bit_xor (bit_xor (get_or w (i + 142) 0) (get_or w (i + 134) 0)) (get_or w (i + 62) 0)) (get_or w (i + 21) 0)
    ≡ sum (λ k. get_or w (i + k) 0) (inner_of false)
unfolding sum inner_of
near_sum w i =
    let a : ℕ = get_or w (i + 142) 0 in
    let b : ℕ = get_or w (i + 134) 0 in
    let c : ℕ = get_or w (i + 62) 0 in
    let d : ℕ = get_or w (i + 21) 0 in
    xor_assoc (bit_xor a b) c d
    ∙ xor_assoc a b (bit_xor c d)
    ∙ ap (λ (x : ℕ). bit_xor a (bit_xor b (bit_xor c x))) (sym (xor_zero_r d))

pub far_sum : (w : List ℕ) (i : ℕ) → bit_xor (get_or w (i + 4508) 0) (get_or w (i + 2751) 0) ≡ sum (λ k. get_or w (i + k) 0) (inner_of true)
unfolding sum inner_of
far_sum w i = ap (λ (x : ℕ). bit_xor (get_or w (i + 4508) 0) x) (sym (xor_zero_r (get_or w (i + 2751) 0)))

pub near_turn : (w s : List ℕ) (i : ℕ) → i < length s → i + 299 < length w → get_or w i 0 < 256
    → crc_from (held near
    (set w (i + 299) (bit_xor (bit_xor (bit_xor (bit_xor (bit_xor (get_or s i 0) (get_or w (i + 142) 0)) (get_or w (i + 134) 0)) (get_or w (i + 62) 0)) (get_or w (i + 21) 0)) (get_or w i 0)))
    (i + 1)) (drop (i + 1) s) ≡ crc_from (held near w i) (drop i s)
unfolding sum
near_turn w s i hs hw hb = taken_in 299 near_inner near_inside near_multiple w s i _ hs hw (omega arith) hb
    (near_byte (get_or s i 0) (get_or w (i + 142) 0) (get_or w (i + 134) 0) (get_or w (i + 62) 0) (get_or w (i + 21) 0) (get_or w i 0))

pub far_turn : (w s : List ℕ) (i : ℕ) → i < length s → i + 5275 < length w → get_or w i 0 < 256
    → crc_from (held far (set w (i + 5275) (bit_xor (bit_xor (bit_xor (get_or s i 0) (get_or w (i + 4508) 0)) (get_or w (i + 2751) 0)) (get_or w i 0))) (i + 1)) (drop (i + 1) s)
    ≡ crc_from (held far w i) (drop i s)
unfolding sum
far_turn w s i hs hw hb = taken_in 5275 far_inner far_inside far_multiple w s i _ hs hw (omega arith) hb
    (far_byte (get_or s i 0) (get_or w (i + 4508) 0) (get_or w (i + 2751) 0) (get_or w i 0))

-- a byte taken in, of either
pub turn : (far? : Bool) (w s : List ℕ) (i v : ℕ) → i < length s → i + size_of far? < length w → get_or w i 0 < 256
    → v ≡ bit_xor (bit_xor (get_or s i 0) (sum (λ k. get_or w (i + k) 0) (inner_of far?))) (get_or w i 0)
    → crc_from (held (reach_of far?) (set w (i + size_of far?) v) (i + 1)) (drop (i + 1) s) ≡ crc_from (held (reach_of far?) w i) (drop i s)
unfolding reach_of size_of inner_of
turn true w s i v hs hw hb e = taken_in 5275 far_inner far_inside far_multiple w s i v hs hw (omega arith) hb e
turn false w s i v hs hw hb e = taken_in 299 near_inner near_inside near_multiple w s i v hs hw (omega arith) hb e

-- the window at a place brought to the front
pub moved : (far? : Bool) (v w : List ℕ) (by : ℕ) → ((n : ℕ) → n < size_of far? → get_or w n 0 ≡ get_or v (by + n) 0) → held (reach_of far?) w 0 ≡ held (reach_of far?) v by
unfolding reach_of size_of
moved true v w by m = moved_held 5275 far_inner far_inside v w by m
moved false v w by m = moved_held 299 near_inner near_inside v w by m

-- ---- the start

-- the four bytes of a register, and zeros behind them
number_of : (c : ℕ) → c < 2 ^ 32 → le 4 (le_bytes 4 c) 0 0 ≡ c
unfolding le le_bytes
number_of c h = omega arith

span_four : (c : ℕ) → c < 2 ^ 32 → span (le_bytes 4 c) 0 4 ≡ bits poly 32 c
unfolding crc_from
span_four c h =
    let b : List ℕ = le_bytes 4 c in
    let end : drop 4 b ≡ [] = drop_of_length-le b {i = 4} (omega (arith, length_le_bytes 4 c)) in
    sym (span_all b 4 (length_le_bytes 4 c))
    ∙ crc_from_le 4 0 b 0 0 (bytes_le_bytes 4 c) (omega (arith, length_le_bytes 4 c))
    ∙ ap₂ (λ (x : ℕ) (l : List ℕ). crc_from (bits poly 32 x) l) (xor_zero_l (le 4 b 0 0) ∙ number_of c h) end

span_start : (c k : ℕ) → c < 2 ^ 32 → span (le_bytes 4 c) 0 (4 + k) ≡ bits poly (8 * (4 + k)) c
unfolding span byte_step
span_start c zero h = span_four c h
span_start c (suc k) h =
    let b : List ℕ = le_bytes 4 c in
    let n : 4 + suc k ≡ suc (4 + k) = omega arith in
    let m : 8 * (4 + k) + 8 ≡ 8 * (4 + suc k) = omega arith in
    ap (λ (x : ℕ). span b 0 x) n
    ∙ ap₂ (λ (x y : ℕ). bits poly 8 (bit_xor x y)) (span_start c k h) (get_or-eq_default b 0 {n = 0 + (4 + k)} (omega (arith, length_le_bytes 4 c)))
    ∙ ap (λ (x : ℕ). bits poly 8 x) (xor_zero_r (bits poly (8 * (4 + k)) c))
    ∙ sym (bits_add poly (8 * (4 + k)) 8 c)
    ∙ ap (λ (x : ℕ). bits poly x c) m

span_from : (c k : ℕ) → c < 2 ^ 32 → 4 ≤ k → span (le_bytes 4 c) 0 k ≡ bits poly (8 * k) c
span_from c k h hk =
    let e : 4 + (k - 4) ≡ k = omega arith in
    subst (λ (n : ℕ). span (le_bytes 4 c) 0 n ≡ bits poly (8 * n) c) e (span_start c (k - 4) h)

held_bytes : (long : ℕ) (inner : List ℕ) → Inside inner long → 4 ≤ long → Multiple (long ∷ inner) → (c : ℕ) → c < 2 ^ 32 → held (long ∷ inner) (le_bytes 4 c) 0 ≡ c
unfolding held taps sum
held_bytes long inner fits l good c h =
    ap₂ (λ (x y : ℕ). bit_xor x y) (span_from c long h l)
    (sum_inside (λ k. span (le_bytes 4 c) 0 k) (λ k. bits poly (8 * k) c) inner long fits (λ k hk _. span_from c k h hk))
    ∙ taps_back (long ∷ inner) good c h

-- laid over the front of a list that has zeros there
start_same : (c : ℕ) (l : List ℕ) (n : ℕ) → get_or l n 0 ≡ 0 → get_or (over l 0 (le_bytes 4 c)) n 0 ≡ get_or (le_bytes 4 c) n 0
unfolding over le_bytes
start_same c l zero z = refl
start_same c l (suc zero) z = refl
start_same c l (suc (suc zero)) z = refl
start_same c l (suc (suc (suc zero))) z = refl
start_same c l (suc (suc (suc (suc n)))) z =
    let e : 4 + n ≡ suc (suc (suc (suc n))) = omega arith in
    get_or-drop 4 l n 0 ∙ ap (λ (k : ℕ). get_or l k 0) e ∙ z

pub started : (far? : Bool) (l : List ℕ) (c : ℕ) → c < 2 ^ 32 → ((n : ℕ) → n < size_of far? → get_or l n 0 ≡ 0) → held (reach_of far?) (over l 0 (le_bytes 4 c)) 0 ≡ c
unfolding reach_of size_of
started true l c h z =
    held_same 5275 far_inner far_inside _ _ 0 0 (λ n hn. start_same c l (0 + n) (z (0 + n) (omega arith)))
    ∙ held_bytes 5275 far_inner far_inside (omega arith) far_multiple c h
started false l c h z =
    held_same 299 near_inner near_inside _ _ 0 0 (λ n hn. start_same c l (0 + n) (z (0 + n) (omega arith)))
    ∙ held_bytes 299 near_inner near_inside (omega arith) near_multiple c h

-- a list whose front was cleared
zeros_front : (k n : ℕ) (t : List ℕ) → n < k → ◌≡◌ {A = ℕ} (get_or (replicate k 0 ++ t) n 0) 0
zeros_front zero n t h = omega arith
zeros_front (suc k) zero t h = refl
zeros_front (suc k) (suc n) t h = zeros_front k n t (omega arith)

pub cleared : (l : List ℕ) (k n : ℕ) → n < k → get_or (over l 0 (replicate k 0)) n 0 ≡ 0
unfolding over
cleared l k n h = zeros_front k n (drop (0 + length (replicate k 0)) l) h
