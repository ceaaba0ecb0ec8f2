-- How the words of a slice are taken in, where a loop goes over the words themselves.
-- Assumes nothing.
use Rattle.std.specs.Prelude.{ℕ, ◌+◌, ◌-◌, ◌*◌, ◌/◌, ◌%◌, ◌^◌, ◌≤◌, ◌<◌, ◌≡◌, List, ◌++◌, length, take, drop}
use Rattle.std.proofs.Common.{sym, ap, ◌∙◌, arith, length-append, length-drop, length-take-le, take-take}
use Rattle.std.specs.Int.Bits.{bit_xor}
use Rattle.octets.specs.le.Le.{Bytes}
use Rattle.crc32c.specs.Crc.{poly, bits, crc_from}
use Rattle.crc32c.specs.Words.{eight}
use Rattle.crc32c.specs.Ahead.{Ahead}
use Rattle.crc32c.proofs.Words.{crc_from_on, crc_from_reduced}
use Rattle.crc32c.proofs.Chunks.{Left, At, at_front, at_drop, at_chunk, eight_at}

-- a front of a front
pub front_at : (s words front : List ℕ) (m n : ℕ) → words ≡ take n s → front ≡ take m words → m ≤ n → At s 0 front
front_at s words front m n ew ef h = rw (ef, ew, take-take m n s h) (at_front s m)

-- a word that another follows
pub word_taken : (s front rest word more : List ℕ) (x u r : ℕ) → Bytes s → At s 0 front → length front + 8 ≤ length s → Left front rest 8
    → rest ≡ word ++ more → length word ≡ 8 → u ≡ eight word 0 → Ahead 64 (bit_xor x u) r
    → crc_from r (drop (length front - length more) s) ≡ crc_from x (drop (length front - length rest) s)
word_taken s front rest word more x u r hs f h st e l eu hr =
    let i : ℕ = length front - length rest in
    let short = st.short in
    let long : length rest ≡ length word + length more = rw e (length-append word more) in
    let next : length front - length more ≡ i + 8 = omega arith in
    let place : i + 0 ≡ i = omega arith in
    let here : u ≡ eight s i = eu ∙ eight_at s i word 0 (at_chunk s front rest word more 8 f st e) (omega arith) ∙ ap (λ (n : ℕ). eight s n) place in
    ap (λ (n : ℕ). crc_from r (drop n s)) next ∙ crc_from_on x s i u r hs (omega arith) here hr

-- the last word, behind those before it
pub word_last : (s words front rest last : List ℕ) (n x u r q : ℕ) → Bytes s → words ≡ take n s → n ≤ length s → 8 ≤ n → n % 8 ≡ 0
    → length front ≡ n - 8 → last ≡ drop (n - 8) words → Left front rest 8 → length rest < 8 → u ≡ eight last 0
    → Ahead 64 (bit_xor x u % 2 ^ 48 * 2 ^ 16) r → q ≡ bits poly 16 (bit_xor r (bit_xor x u / 2 ^ 48))
    → crc_from q (drop n s) ≡ crc_from x (drop (length front - length rest) s)
word_last s words front rest last n x u r q hs ew hn h8 hm lf el st hr eu ha eq =
    let same = st.same in
    let place : length front - length rest ≡ n - 8 = omega arith in
    let next : n ≡ n - 8 + 8 = omega arith in
    let long : length words ≡ n = rw ew (length-take-le n s hn) in
    let f : At s (0 + (n - 8)) (drop (n - 8) words) = at_drop s 0 words (n - 8) (rw ew (at_front s n)) in
    let zero : 0 + (n - 8) + 0 ≡ n - 8 = omega arith in
    let here : u ≡ eight s (n - 8) =
    eu ∙ ap (λ (l : List ℕ). eight l 0) el ∙ eight_at s (0 + (n - 8)) (drop (n - 8) words) 0 f (omega (arith, length-drop (n - 8) words)) ∙ ap (λ (k : ℕ). eight s k) zero in
    ap (λ (k : ℕ). crc_from q (drop k s)) next
    ∙ crc_from_reduced x s (n - 8) u r q hs (omega arith) here ha eq
    ∙ ap (λ (k : ℕ). crc_from x (drop k s)) (sym place)
