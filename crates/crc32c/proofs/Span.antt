-- The laws of specs/Span.antt.
-- Assumes nothing.
use Rattle.std.specs.Prelude.{ℕ, zero, suc, ◌+◌, ◌-◌, ◌*◌, ◌<◌, ◌≤◌, ◌≡◌, refl, List, [], ◌++◌, length, get_or, take, drop, set, replicate}
use Rattle.std.proofs.Common.{sym, ap, ap₂, ◌∙◌, add-zero, zero-add, add-one, arith, get_or-set_same, get_or-set_other, get_or-drop, append-nil, length-append, length-drop, length-take-le, take-append-drop, drop_of_length-le}
use Rattle.std.proofs.lemmas.List.{get_or-append_right, set-append_right}
use borrow.Rule.Slice.PartMut.{put_mid}
use Rattle.octets.proofs.Parts.{tail_all}
use Rattle.std.specs.Int.Bits.{bit_xor, xor_self, xor_zero_l}
use Rattle.std.proofs.lemmas.Nat.{xor_comm}
use Rattle.crc32c.specs.Crc.{poly, bits, byte_step, crc_from}
use Rattle.crc32c.proofs.Xor.{xor_assoc, xor_pairs, xor_swap}
use Rattle.crc32c.proofs.Linear.{bits_none, bits_xor, bits_zero, bits_add}
use Rattle.crc32c.proofs.Words.{crc_from_more, crc_from_end}
use Rattle.crc32c.specs.Span.{span}

-- it is that of the bytes only
pub span_same : (w v : List ℕ) (i j k : ℕ) → ((n : ℕ) → n < k → get_or w (i + n) 0 ≡ get_or v (j + n) 0) → span w i k ≡ span v j k
unfolding span
span_same w v i j zero e = refl
span_same w v i j (suc k) e = ap₂ (λ (x y : ℕ). byte_step x y) (span_same w v i j k (λ n h. e n (omega arith))) (e k (omega arith))

-- a place further on
pub span_next : (w : List ℕ) (i k : ℕ)
    → span w (suc i) k ≡ bits poly 8 (bit_xor (bit_xor (span w i k) (get_or w (i + k) 0)) (bits poly (8 * k) (get_or w i 0)))
unfolding span byte_step
span_next w i zero =
    let x : ℕ = get_or w i 0 in
    sym
    (ap (λ (n : ℕ). bits poly 8 (bit_xor (get_or w n 0) (bits poly 0 x))) (add-zero i)
    ∙ ap (λ (y : ℕ). bits poly 8 y) (ap (λ (y : ℕ). bit_xor x y) (bits_none poly x) ∙ xor_self x)
    ∙ bits_zero poly 8)
span_next w i (suc k) =
    let x : ℕ = get_or w i 0 in
    let a : ℕ = bit_xor (span w i k) (get_or w (i + k) 0) in
    let b : ℕ = bits poly (8 * k) x in
    let n : suc i + k ≡ i + suc k = omega arith in
    let m : 8 * k + 8 ≡ 8 * suc k = omega arith in
    let v : ℕ = get_or w (i + suc k) 0 in
    ap₂ (λ (y z : ℕ). bits poly 8 (bit_xor y z)) (span_next w i k ∙ bits_xor poly 8 a b) (ap (λ (z : ℕ). get_or w z 0) n)
    ∙ ap (λ (y : ℕ). bits poly 8 y)
    (xor_assoc (bits poly 8 a) (bits poly 8 b) v ∙ xor_swap (bits poly 8 a) (bits poly 8 b) v)
    ∙ ap (λ (y : ℕ). bits poly 8 (bit_xor (bit_xor (bits poly 8 a) v) y))
    (sym (bits_add poly (8 * k) 8 x) ∙ ap (λ (z : ℕ). bits poly z x) m)

-- a byte added to a message
pub add_turn : (o m w : List ℕ) (at d i : ℕ) → d + i < length m → get_or m (d + i) 0 ≡ get_or o (d + i) 0
    → span m 0 (d + i) ≡ bit_xor (span w at i) (span o 0 (d + i))
    → span (set m (d + i) (bit_xor (get_or m (d + i) 0) (get_or w (at + i) 0))) 0 (d + (i + 1)) ≡ bit_xor (span w at (i + 1)) (span o 0 (d + (i + 1)))
unfolding span byte_step
add_turn o m w at d i h e hm =
    let n : d + (i + 1) ≡ suc (d + i) = omega arith in
    let x : ℕ = get_or o (d + i) 0 in
    let y : ℕ = get_or w (at + i) 0 in
    let v : ℕ = bit_xor (get_or m (d + i) 0) y in
    let u : List ℕ = set m (d + i) v in
    let a : ℕ = span w at i in
    let b : ℕ = span o 0 (d + i) in
    let front : span u 0 (d + i) ≡ bit_xor a b = span_same u m 0 0 (d + i) (λ k hk. get_or-set_other m (d + i) (0 + k) v 0 (λ q. omega arith)) ∙ hm in
    let new : get_or u (0 + (d + i)) 0 ≡ bit_xor y x =
    ap (λ (k : ℕ). get_or u k 0) (zero-add (d + i)) ∙ get_or-set_same m (d + i) v 0 h ∙ ap (λ (z : ℕ). bit_xor z y) e ∙ xor_comm x y in
    ap (λ (k : ℕ). span u 0 k) n
    ∙ ap₂ (λ (j k : ℕ). bits poly 8 (bit_xor j k)) front new
    ∙ ap (λ (k : ℕ). bits poly 8 k) (xor_pairs a b y x)
    ∙ bits_xor poly 8 (bit_xor a y) (bit_xor b x)
    ∙ ap₂ (λ (j k : ℕ). bit_xor j k) (ap (λ (k : ℕ). span w at k) (sym (add-one i)))
    (ap (λ (k : ℕ). bits poly 8 (bit_xor b (get_or o k 0))) (sym (zero-add (d + i))) ∙ ap (λ (k : ℕ). span o 0 k) (sym n))

-- a loop that adds to the bytes of a message from d on, which it has as a list of their own: i of them are added
pub record Adds (o items w : List ℕ) (d i : ℕ) : Type 0 where
  pub front : span (take d o ++ items) 0 (d + i) ≡ bit_xor (span w 0 i) (span o 0 (d + i))
  pub behind : (n : ℕ) → i ≤ n → get_or items n 0 ≡ get_or o (d + n) 0

pub adds_first : (o w : List ℕ) (d : ℕ) → Adds o (take (length o - d) (drop d o)) w d 0
unfolding span
adds_first o w d =
    record {
      front = rw (tail_all o d, take-append-drop) (sym (xor_zero_l (span o 0 (d + 0))));
      behind = λ n h. rw (tail_all o d, get_or-drop);
    }

pub adds_next : (o items w : List ℕ) (d i : ℕ) → d ≤ length o → i < length items → Adds o items w d i
    → Adds o (set items i (bit_xor (get_or items i 0) (get_or w i 0))) w d (i + 1)
adds_next o items w d i h hi st =
    let long : length (take d o) ≡ d = length-take-le d o h in
    let place : d + i - d ≡ i = omega arith in
    let room : d + i < length (take d o ++ items) = omega (arith, length-append (take d o) items) in
    let here : get_or (take d o ++ items) (d + i) 0 ≡ get_or items i 0 =
    get_or-append_right (take d o) items d (d + i) 0 long (omega arith) ∙ ap (λ (n : ℕ). get_or items n 0) place in
    let v : ℕ = bit_xor (get_or items i 0) (get_or w i 0) in
    let there : set (take d o ++ items) (d + i) v ≡ take d o ++ set items i v =
    set-append_right (take d o) items d (d + i) v long (omega arith) ∙ ap (λ (n : ℕ). take d o ++ set items n v) place in
    let turn = add_turn o (take d o ++ items) w 0 d i room (here ∙ st.behind i (omega arith)) st.front in
    record {
      front = rw (here, zero-add, there) at turn;
      behind = λ n hn. get_or-set_other items i n v 0 (λ e. omega arith) ∙ st.behind n (omega arith);
    }

pub adds_last : (o items w : List ℕ) (d i k : ℕ) → d + k ≡ length o → length items ≡ k → k ≡ i → Adds o items w d i
    → (length (put_mid d (length o - d) o items) ≡ length o)
    × (span (put_mid d (length o - d) o items) 0 (length o) ≡ bit_xor (span w 0 k) (span o 0 (length o)))
adds_last o items w d i k e hk hi st =
    let none : drop (length o - d) (drop d o) ≡ [] = drop_of_length-le (drop d o) {i = length o - d} (omega (arith, length-drop d o)) in
    let long : length (take d o) ≡ d = length-take-le d o (omega arith) in
    let turn : span (take d o ++ items) 0 (d + k) ≡ bit_xor (span w 0 k) (span o 0 (d + k)) = rw hi st.front in
    rw (none, append-nil) (omega (arith, length-append (take d o) items), rw e at turn)

-- a message whole
span_rest : (m : List ℕ) (i : ℕ) → i ≤ length m → crc_from (span m 0 i) (drop i m) ≡ crc_from 0 m
unfolding span
span_rest m zero h = refl
span_rest m (suc i) h =
    let hi : i < length m = omega arith in
    ap (λ (k : ℕ). crc_from (byte_step (span m 0 i) (get_or m k 0)) (drop (suc i) m)) (zero-add i)
    ∙ sym (crc_from_more (span m 0 i) m i hi)
    ∙ span_rest m i (omega arith)

pub span_all : (m : List ℕ) (n : ℕ) → length m ≡ n → crc_from 0 m ≡ span m 0 n
span_all m n e =
    sym (span_rest m n (omega arith)) ∙ crc_from_end (span m 0 n) m n (omega arith)

-- zeros
pub zeros_at : (a n : ℕ) → ◌≡◌ {A = ℕ} (get_or (replicate a 0) n 0) 0
zeros_at zero n = refl
zeros_at (suc a) zero = refl
zeros_at (suc a) (suc n) = zeros_at a n

pub span_none : (a k : ℕ) → span (replicate a 0) 0 k ≡ 0
unfolding span byte_step
span_none a zero = refl
span_none a (suc k) =
    ap₂ (λ (x y : ℕ). bits poly 8 (bit_xor x y)) (span_none a k) (zeros_at a (0 + k)) ∙ bits_zero poly 8

-- a message of n bytes with a register, and one that some bytes have been added to
abbrev pub Leaves : List ℕ → ℕ → ℕ → Type 0
Leaves m n x = (length m ≡ n) × (span m 0 n ≡ x)

pub added : (o m w : List ℕ) (at k n x : ℕ) → Leaves o n x → (length m ≡ length o) × (span m 0 (length o) ≡ bit_xor (span w at k) (span o 0 (length o)))
    → Leaves m n (bit_xor (span w at k) x)
added o m w at k n x l e = (
  e.0 ∙ l.0,
  ap (λ (j : ℕ). span m 0 j) (sym l.0) ∙ e.1 ∙ ap (λ (y : ℕ). bit_xor (span w at k) y) (ap (λ (j : ℕ). span o 0 j) l.0 ∙ l.1),
)

pub left_by : (m : List ℕ) (n x : ℕ) → Leaves m n x → crc_from 0 m ≡ x
left_by m n x l = span_all m n l.0 ∙ l.1
