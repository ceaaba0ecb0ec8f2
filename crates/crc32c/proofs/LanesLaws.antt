-- Four lanes of eight bytes each: the register of each lane is added to its word, of four in a row, and goes on by thirty-two bytes.
-- What the four stand for together is the checksum's one register.
-- Assumes nothing.
use Rattle.std.specs.Prelude.{ℕ, ◌+◌, ◌≤◌, ◌≡◌, List, length, drop}
use Rattle.std.proofs.Common.{sym, ap, ap₂, subst, ◌∙◌, arith}
use Rattle.std.specs.Int.Bits.{bit_xor, xor_zero_r}
use Rattle.crc32c.specs.Crc.{poly, bits, crc_from}
use Rattle.crc32c.proofs.Xor.{xor_assoc, xor_pairs}
use Rattle.crc32c.proofs.Linear.{bits_xor, bits_zero, bits_add}
use Rattle.octets.specs.le.Le.{Bytes}
use Rattle.crc32c.specs.Words.{eight}
use Rattle.crc32c.proofs.Words.{word, eight_word, crc_from_word}
use Rattle.crc32c.specs.Ahead.{Ahead}

-- the register after two words, and after four, each with its lane's register added
unfoldable pub two : ℕ → ℕ → ℕ
two x y = bit_xor (bits poly 128 x) (bits poly 64 y)

unfoldable pub four : ℕ → ℕ → ℕ → ℕ → ℕ
four x y z w = bit_xor (bits poly 128 (two x y)) (two z w)

two_xor : (x y u v : ℕ) → two (bit_xor x u) (bit_xor y v) ≡ bit_xor (two x y) (two u v)
unfolding two
two_xor x y u v =
    ap₂ (λ (j k : ℕ). bit_xor j k) (bits_xor poly 128 x u) (bits_xor poly 64 y v)
    ∙ xor_pairs (bits poly 128 x) (bits poly 128 u) (bits poly 64 y) (bits poly 64 v)

four_xor : (x y z w r t u v : ℕ) → four (bit_xor x r) (bit_xor y t) (bit_xor z u) (bit_xor w v) ≡ bit_xor (four x y z w) (four r t u v)
unfolding four
four_xor x y z w r t u v =
    ap₂ (λ (j k : ℕ). bit_xor (bits poly 128 j) k) (two_xor x y r t) (two_xor z w u v)
    ∙ ap (λ (j : ℕ). bit_xor j (bit_xor (two z w) (two u v))) (bits_xor poly 128 (two x y) (two r t))
    ∙ xor_pairs (bits poly 128 (two x y)) (bits poly 128 (two r t)) (two z w) (two u v)

-- with nothing behind the first word
two_none : (x : ℕ) → two x 0 ≡ bits poly 128 x
unfolding two
two_none x = ap (λ (k : ℕ). bit_xor (bits poly 128 x) k) (bits_zero poly 64) ∙ xor_zero_r (bits poly 128 x)

four_none : (x : ℕ) → four x 0 0 0 ≡ bits poly 256 x
unfolding four
four_none x =
    ap₂ (λ (j k : ℕ). bit_xor (bits poly 128 j) k) (two_none x) (two_none 0 ∙ bits_zero poly 128)
    ∙ xor_zero_r (bits poly 128 (bits poly 128 x))
    ∙ sym (bits_add poly 128 128 x)

-- two words in a row, and two more
two_row : (x y : ℕ) → bits poly 64 (bit_xor (bits poly 64 x) y) ≡ two x y
unfolding two
two_row x y = bits_xor poly 64 (bits poly 64 x) y ∙ ap (λ (k : ℕ). bit_xor k (bits poly 64 y)) (sym (bits_add poly 64 64 x))

four_row : (x y z w : ℕ) → two (bit_xor (two x y) z) w ≡ four x y z w
unfolding four
four_row x y z w = two_xor (two x y) 0 z w ∙ ap (λ (k : ℕ). bit_xor k (two z w)) (two_none (two x y))

-- lanes that are thirty-two bytes on are the one register thirty-two bytes on
two_ahead : (x y a b : ℕ) → Ahead 256 x a → Ahead 256 y b → two a b ≡ bits poly 256 (two x y)
unfolding two
two_ahead x y a b ha hb =
    ap₂ (λ (j k : ℕ). bit_xor j k) (ha 120 ∙ bits_add poly 128 256 x) (hb 56 ∙ bits_add poly 64 256 y)
    ∙ sym (bits_xor poly 256 (bits poly 128 x) (bits poly 64 y))

four_ahead : (x y z w a b d e : ℕ) → Ahead 256 x a → Ahead 256 y b → Ahead 256 z d → Ahead 256 w e
    → four a b d e ≡ bits poly 256 (four x y z w)
unfolding four
four_ahead x y z w a b d e ha hb hd he =
    ap₂ (λ (j k : ℕ). bit_xor (bits poly 128 j) k) (two_ahead x y a b ha hb) (two_ahead z w d e hd he)
    ∙ ap (λ (j : ℕ). bit_xor j (bits poly 256 (two z w))) (sym (bits_add poly 256 128 (two x y)) ∙ bits_add poly 128 256 (two x y))
    ∙ sym (bits_xor poly 256 (bits poly 128 (two x y)) (two z w))

four_next : (x y z w a b d e r t u v : ℕ) → Ahead 256 x a → Ahead 256 y b → Ahead 256 z d → Ahead 256 w e
    → four (bit_xor a r) (bit_xor b t) (bit_xor d u) (bit_xor e v) ≡ four (bit_xor (four x y z w) r) t u v
four_next x y z w a b d e r t u v ha hb hd he =
    four_xor a b d e r t u v
    ∙ ap (λ (k : ℕ). bit_xor k (four r t u v)) (four_ahead x y z w a b d e ha hb hd he ∙ sym (four_none (four x y z w)))
    ∙ sym (four_xor (four x y z w) 0 0 0 r t u v)

-- two words more, and four
crc_from_two : (c : ℕ) (s : List ℕ) (i : ℕ) → Bytes s → i + 16 ≤ length s
    → crc_from c (drop i s) ≡ crc_from (two (bit_xor c (word s i)) (word s (i + 8))) (drop (i + 16) s)
crc_from_two c s i hs h =
    let h1 : i + 8 ≤ length s = omega arith in
    let h2 : i + 8 + 8 ≤ length s = omega arith in
    let e : i + 8 + 8 ≡ i + 16 = omega arith in
    crc_from_word c s i hs h1
    ∙ crc_from_word (bits poly 64 (bit_xor c (word s i))) s (i + 8) hs h2
    ∙ ap₂ (λ (k n : ℕ). crc_from k (drop n s)) (two_row (bit_xor c (word s i)) (word s (i + 8))) e

crc_from_four : (c : ℕ) (s : List ℕ) (i : ℕ) → Bytes s → i + 32 ≤ length s
    → crc_from c (drop i s) ≡ crc_from (four (bit_xor c (word s i)) (word s (i + 8)) (word s (i + 16)) (word s (i + 24))) (drop (i + 32) s)
crc_from_four c s i hs h =
    let h1 : i + 16 ≤ length s = omega arith in
    let h2 : i + 16 + 16 ≤ length s = omega arith in
    let e1 : i + 16 + 8 ≡ i + 24 = omega arith in
    let e2 : i + 16 + 16 ≡ i + 32 = omega arith in
    let x : ℕ = bit_xor c (word s i) in
    let y : ℕ = word s (i + 8) in
    let z : ℕ = word s (i + 16) in
    crc_from_two c s i hs h1
    ∙ crc_from_two (two x y) s (i + 16) hs h2
    ∙ ap₂ (λ (k n : ℕ). crc_from (two (bit_xor (two x y) z) (word s k)) (drop n s)) e1 e2
    ∙ ap (λ (k : ℕ). crc_from k (drop (i + 32) s)) (four_row x y z (word s (i + 24)))

-- the lanes a, b, d and e at the place i, where the register c was at the start
pub record Lanes (c : ℕ) (s : List ℕ) (a b d e i : ℕ) : Type 0 where
  pub room : i + 32 ≤ length s
  pub same : crc_from
      (four (bit_xor a (word s i)) (bit_xor b (word s (i + 8))) (bit_xor d (word s (i + 16))) (bit_xor e (word s (i + 24))))
      (drop (i + 32) s)
      ≡ crc_from c s

pub lanes_first : (c : ℕ) (s : List ℕ) → Bytes s → 32 ≤ length s → Lanes c s c 0 0 0 0
lanes_first c s hs h = record { room = h; same = sym (crc_from_four c s 0 hs h) }

-- a lane's turn, by the word that was read
pub lane : (n : ℕ) (s : List ℕ) (i a u x : ℕ) → u ≡ eight s i → Ahead n (bit_xor a u) x → Ahead n (bit_xor a (word s i)) x
lane n s i a u x e h = subst (λ (k : ℕ). Ahead n (bit_xor a k) x) (e ∙ eight_word s i) h

pub lanes_next : (c : ℕ) (s : List ℕ) (a b d e i x y z w : ℕ) → Bytes s → Lanes c s a b d e i → i + 64 ≤ length s
    → Ahead 256 (bit_xor a (word s i)) x → Ahead 256 (bit_xor b (word s (i + 8))) y
    → Ahead 256 (bit_xor d (word s (i + 16))) z → Ahead 256 (bit_xor e (word s (i + 24))) w → Lanes c s x y z w (i + 32)
lanes_next c s a b d e i x y z w hs l h hx hy hz hw =
    let h1 : i + 32 + 32 ≤ length s = omega arith in
    let f : ℕ = four (bit_xor a (word s i)) (bit_xor b (word s (i + 8))) (bit_xor d (word s (i + 16))) (bit_xor e (word s (i + 24))) in
    record {
      room = h1;
      same =
          ap (λ (k : ℕ). crc_from k (drop (i + 32 + 32) s))
          (four_next _ _ _ _ x y z w (word s (i + 32)) (word s (i + 32 + 8)) (word s (i + 32 + 16)) (word s (i + 32 + 24)) hx hy hz hw)
          ∙ sym (crc_from_four f s (i + 32) hs h1)
          ∙ l.same;
    }

-- a lane's word behind another lane's register x, by the word that was read
pub joined : (s : List ℕ) (i x b u y : ℕ) → u ≡ eight s i → Ahead 64 (bit_xor (bit_xor x b) u) y → Ahead 64 (bit_xor x (bit_xor b (word s i))) y
joined s i x b u y e h =
    subst (λ (k : ℕ). Ahead 64 k y) (xor_assoc x b u ∙ ap (λ (k : ℕ). bit_xor x (bit_xor b k)) (e ∙ eight_word s i)) h

-- a word, taken on as it is, and the next
two_on : (x y r : ℕ) → Ahead 64 x r → bits poly 64 (bit_xor r y) ≡ two x y
unfolding two
two_on x y r hr = bits_xor poly 64 r y ∙ ap (λ (k : ℕ). bit_xor k (bits poly 64 y)) (hr 56)

-- three of the four words at the lanes' place, one after the other: what is left starts with the fourth
pub lanes_last : (c : ℕ) (s : List ℕ) (a b d e i x y z : ℕ) → Bytes s → Lanes c s a b d e i → Ahead 64 (bit_xor a (word s i)) x
    → Ahead 64 (bit_xor x (bit_xor b (word s (i + 8)))) y → Ahead 64 (bit_xor y (bit_xor d (word s (i + 16)))) z
    → crc_from (bit_xor z e) (drop (i + 24) s) ≡ crc_from c s
unfolding four
lanes_last c s a b d e i x y z hs l hx hy hz =
    let j : ℕ = bit_xor a (word s i) in
    let k : ℕ = bit_xor b (word s (i + 8)) in
    let m : ℕ = bit_xor d (word s (i + 16)) in
    let n : ℕ = bit_xor e (word s (i + 24)) in
    let h : i + 24 + 8 ≤ length s = omega arith in
    let e1 : i + 24 + 8 ≡ i + 32 = omega arith in
    crc_from_word (bit_xor z e) s (i + 24) hs h
    ∙ ap₂ (λ (t p : ℕ). crc_from (bits poly 64 t) (drop p s)) (xor_assoc z e (word s (i + 24))) e1
    ∙ ap (λ (t : ℕ). crc_from t (drop (i + 32) s))
    (two_on (bit_xor y m) n z hz
    ∙ two_xor y 0 m n
    ∙ ap (λ (t : ℕ). bit_xor t (two m n))
    (two_none y ∙ hy 120 ∙ bits_add poly 64 128 (bit_xor x k) ∙ ap (λ (t : ℕ). bits poly 128 t) (two_on j k x hx)))
    ∙ l.same
