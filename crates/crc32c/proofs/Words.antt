-- The laws of specs/Words.antt.
-- Assumes nothing.
use Rattle.std.specs.Prelude.{ℕ, zero, suc, ◌+◌, ◌*◌, ◌/◌, ◌%◌, ◌^◌, ◌≤◌, ◌<◌, ◌≡◌, refl, List, [], ◌∷◌, ◌++◌, length, get_or, drop}
use Rattle.std.proofs.Common.{sym, ap, ap₂, subst, ◌∙◌, add-zero, add-one, arith, drop_of_length-le, drop-cons}
use Rattle.std.specs.Int.Bits.{bit_xor, xor_zero_r, xor_shifted}
use Rattle.std.proofs.lemmas.Nat.{xor_lt}
use Rattle.octets.specs.le.Le.{Bytes}
use Rattle.crc32c.specs.Crc.{poly, bits, byte_step, crc_from, crc_of}
use Rattle.crc32c.proofs.Linear.{bits_xor, bits_add, bits_shifted, bits_lt}
use Rattle.crc32c.proofs.Xor.{xor_swap}
use Rattle.crc32c.specs.Ahead.{Ahead}
use Rattle.crc32c.proofs.Ahead.{ahead_reduced}
use Rattle.crc32c.specs.Words.{eight}

-- one byte more
pub crc_from_more : (c : ℕ) (s : List ℕ) (i : ℕ) → i < length s → crc_from c (drop i s) ≡ crc_from (byte_step c (get_or s i 0)) (drop (suc i) s)
unfolding crc_from
crc_from_more c s i h = rw (drop-cons s i 0 h)

pub crc_from_byte : (c : ℕ) (s : List ℕ) (i : ℕ) → i < length s
    → crc_from c (drop i s) ≡ crc_from (bits poly 8 (bit_xor c (get_or s i 0))) (drop (i + 1) s)
unfolding byte_step
crc_from_byte c s i h = rw add-one (crc_from_more c s i h)

-- no byte more
pub crc_from_end : (c : ℕ) (s : List ℕ) (i : ℕ) → length s ≤ i → crc_from c (drop i s) ≡ c
unfolding crc_from
crc_from_end c s i h = rw (drop_of_length-le s {i = i} h)

-- one list after another
pub crc_from_append : (c : ℕ) (s t : List ℕ) → crc_from c (s ++ t) ≡ crc_from (crc_from c s) t
unfolding crc_from
crc_from_append c [] t = refl
crc_from_append c (b ∷ s) t = crc_from_append (byte_step c b) s t

-- the number of k bytes at the place i + j of a list, the lowest byte first
unfoldable pub le : ℕ → List ℕ → ℕ → ℕ → ℕ
le zero s i j = 0
le (suc k) s i j = get_or s (i + j) 0 + 256 * le k s i (suc j)

-- eight bits of a number take its lowest byte in, and leave the rest to be taken in after it
byte_first : (c b l : ℕ) → b < 256 → bits poly 8 (bit_xor c (b + 256 * l)) ≡ bit_xor (byte_step c b) l
unfolding byte_step
byte_first c b l hb =
    let e : b + 256 * l ≡ l * 2 ^ 8 + b = omega arith in
    ap (λ (x : ℕ). bits poly 8 (bit_xor c x)) (e ∙ sym (xor_shifted l 8 b hb))
    ∙ ap (λ (x : ℕ). bits poly 8 x) (xor_swap c (l * 2 ^ 8) b)
    ∙ bits_xor poly 8 (bit_xor c b) (l * 2 ^ 8)
    ∙ ap (λ (x : ℕ). bit_xor (bits poly 8 (bit_xor c b)) x) (bits_shifted poly 8 l)

pub crc_from_le : (k c : ℕ) (s : List ℕ) (i j : ℕ) → Bytes s → i + (j + k) ≤ length s
    → crc_from c (drop (i + j) s) ≡ crc_from (bits poly (8 * k) (bit_xor c (le k s i j))) (drop (i + (j + k)) s)
unfolding le bits
crc_from_le zero c s i j hs h = ap₂ (λ (x n : ℕ). crc_from x (drop (i + n) s)) (sym (xor_zero_r c)) (sym (add-zero j))
crc_from_le (suc k) c s i j hs h =
    let b : ℕ = get_or s (i + j) 0 in
    let l : ℕ = le k s i (suc j) in
    let h1 : i + j < length s = omega arith in
    let h2 : i + (suc j + k) ≤ length s = omega arith in
    let n1 : suc (i + j) ≡ i + suc j = omega arith in
    let n2 : suc j + k ≡ j + suc k = omega arith in
    let n3 : 8 + 8 * k ≡ 8 * suc k = omega arith in
    crc_from_more c s (i + j) h1
    ∙ ap (λ (n : ℕ). crc_from (byte_step c b) (drop n s)) n1
    ∙ crc_from_le k (byte_step c b) s i (suc j) hs h2
    ∙ ap₂ (λ (x n : ℕ). crc_from (bits poly (8 * k) x) (drop (i + n) s)) (sym (byte_first c b l (hs (i + j)))) n2
    ∙ ap (λ (x : ℕ). crc_from x (drop (i + (j + suc k)) s))
    (sym (bits_add poly 8 (8 * k) (bit_xor c (b + 256 * l))) ∙ ap (λ (n : ℕ). bits poly n (bit_xor c (b + 256 * l))) n3)

-- the number of the eight bytes at a place, by its rule and written out
abbrev pub word : List ℕ → ℕ → ℕ
word s i = le 8 s i 0

pub eight_word : (s : List ℕ) (i : ℕ) → eight s i ≡ word s i
unfolding le
eight_word s i = rw (add-zero i) (omega arith)

-- eight bytes more
pub crc_from_word : (c : ℕ) (s : List ℕ) (i : ℕ) → Bytes s → i + 8 ≤ length s
    → crc_from c (drop i s) ≡ crc_from (bits poly 64 (bit_xor c (word s i))) (drop (i + 8) s)
crc_from_word c s i hs h = ap (λ (n : ℕ). crc_from c (drop n s)) (sym (add-zero i)) ∙ crc_from_le 8 c s i 0 hs h

-- the same by the word that was read: taken on as it is, where another word follows; and reduced
pub crc_from_on : (c : ℕ) (s : List ℕ) (i u r : ℕ) → Bytes s → i + 16 ≤ length s → u ≡ eight s i → Ahead 64 (bit_xor c u) r
    → crc_from r (drop (i + 8) s) ≡ crc_from c (drop i s)
crc_from_on c s i u r hs h eu hr =
    let h1 : i + 8 ≤ length s = omega arith in
    let h2 : i + 8 + 8 ≤ length s = omega arith in
    let x : ℕ = bit_xor c (word s i) in
    let w : ℕ = word s (i + 8) in
    let hx : Ahead 64 x r = subst (λ (k : ℕ). Ahead 64 (bit_xor c k) r) (eu ∙ eight_word s i) hr in
    crc_from_word r s (i + 8) hs h2
    ∙ ap (λ (k : ℕ). crc_from k (drop (i + 8 + 8) s))
    (bits_xor poly 64 r w
    ∙ ap (λ (k : ℕ). bit_xor k (bits poly 64 w)) (hx 56 ∙ bits_add poly 64 64 x)
    ∙ sym (bits_xor poly 64 (bits poly 64 x) w))
    ∙ sym (crc_from_word (bits poly 64 x) s (i + 8) hs h2)
    ∙ sym (crc_from_word c s i hs h1)

pub crc_from_reduced : (c : ℕ) (s : List ℕ) (i u r q : ℕ) → Bytes s → i + 8 ≤ length s → u ≡ eight s i
    → Ahead 64 (bit_xor c u % 2 ^ 48 * 2 ^ 16) r → q ≡ bits poly 16 (bit_xor r (bit_xor c u / 2 ^ 48)) → crc_from q (drop (i + 8) s) ≡ crc_from c (drop i s)
crc_from_reduced c s i u r q hs h eu hr eq =
    ap (λ (k : ℕ). crc_from k (drop (i + 8) s))
    (eq ∙ ahead_reduced (bit_xor c u) r hr ∙ ap (λ (k : ℕ). bits poly 64 (bit_xor c k)) (eu ∙ eight_word s i))
    ∙ sym (crc_from_word c s i hs h)

-- the register and the checksum have 32 bits
pub crc_from_lt : (c : ℕ) (s : List ℕ) → c < 2 ^ 32 → Bytes s → crc_from c s < 2 ^ 32
unfolding crc_from byte_step
crc_from_lt c [] hc hs = hc
crc_from_lt c (b ∷ s) hc hs =
    let hb : b < 256 = hs 0 in
    crc_from_lt (byte_step c b) s (bits_lt 8 (bit_xor c b) (xor_lt 32 c b hc (omega arith))) (λ k. hs (suc k))

-- the checksum by the register that the bytes leave
pub crc_of_by : (s : List ℕ) (x : ℕ) → x ≡ crc_from 0xFFFF_FFFF s → bit_xor x 0xFFFF_FFFF ≡ crc_of s
unfolding crc_of
crc_of_by s x e = ap (λ (y : ℕ). bit_xor y 0xFFFF_FFFF) e

pub crc_of_lt : (s : List ℕ) → Bytes s → crc_of s < 2 ^ 32
unfolding crc_of
crc_of_lt s hs = xor_lt 32 (crc_from 0xFFFF_FFFF s) 0xFFFF_FFFF (crc_from_lt 0xFFFF_FFFF s (omega arith) hs) (omega arith)
