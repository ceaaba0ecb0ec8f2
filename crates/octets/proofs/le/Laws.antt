-- Laws of little-endian numbers, once for every width: a number's next byte, its bound, what is written is read back.
-- Assumes nothing.
use Rattle.std.specs.Prelude.{ℕ, zero, suc, ◌+◌, ◌-◌, ◌*◌, ◌/◌, ◌%◌, ◌^◌, ◌≤◌, ◌<◌, ◌≡◌, refl, List, [], ◌∷◌, ◌++◌, length, take, drop, get_or, set}
use Rattle.std.proofs.Common.{sym, ap, ◌∙◌, div-one, div-lt_iff_lt-mul, pow-suc, add-one, arith, lit<, length-append, length-drop, drop-cons, take_at, get_or-drop, length-take-le, take-take}
use Rattle.std.proofs.lemmas.List.{get_or_at, get_or-take}
use Rattle.std.proofs.Math.Nat.{div-div-eq-div-mul, pow-succ', pow-le-pow_right}
use Rattle.octets.specs.Over.{over}
use Rattle.octets.proofs.OverLaws.{over_none, over_turn, over_long}
use Rattle.octets.specs.le.Le.{le_of, le_at, le_bytes, Bytes}

-- ---- bytes

pub bytes_tail : (b : ℕ) (s : List ℕ) → Bytes (b ∷ s) → Bytes s
bytes_tail b s t i = t (suc i)

pub bytes_drop : (n : ℕ) (s : List ℕ) → Bytes s → Bytes (drop n s)
bytes_drop n s t i = rw (get_or-drop n s i 0) (t (n + i))

pub bytes_take : (n : ℕ) (s : List ℕ) → Bytes s → Bytes (take n s)
bytes_take zero s t i = omega arith
bytes_take (suc n) [] t i = omega arith
bytes_take (suc n) (b ∷ s) t zero = t 0
bytes_take (suc n) (b ∷ s) t (suc i) = bytes_take n s (bytes_tail b s t) i

pub bytes_append : (s r : List ℕ) → Bytes s → Bytes r → Bytes (s ++ r)
bytes_append [] r p q i = q i
bytes_append (b ∷ s) r p q zero = p 0
bytes_append (b ∷ s) r p q (suc i) = bytes_append s r (bytes_tail b s p) q i

pub bytes_le_bytes : (k n : ℕ) → Bytes (le_bytes k n)
unfolding le_bytes
bytes_le_bytes zero n i = omega arith
bytes_le_bytes (suc k) n zero = omega arith
bytes_le_bytes (suc k) n (suc i) = bytes_le_bytes k (n / 256) i

-- ---- a number by its bytes

-- a number of k + 1 bytes by its lowest byte and the k above it
pub le_step : (k : ℕ) (s : List ℕ) (at : ℕ) → at < length s → le_at (suc k) s at ≡ get_or s at 0 + 256 * le_at k s (suc at)
unfolding le_of
le_step k s at h = rw (drop-cons s at 0 h)

pub le_of_lt : (s : List ℕ) → Bytes s → le_of s < 256 ^ length s
unfolding le_of
le_of_lt [] t = omega arith
le_of_lt (b ∷ s) t = let h : b < 256 = t 0 in rw pow-suc (omega (arith, le_of_lt s (bytes_tail b s t)))

pub length_le_bytes : (k n : ℕ) → length (le_bytes k n) ≡ k
unfolding le_bytes
length_le_bytes zero n = refl
length_le_bytes (suc k) n = ap suc (length_le_bytes k (n / 256))

-- what is written is read back
pub le_of_le_bytes : (k n : ℕ) → n < 256 ^ k → le_of (le_bytes k n) ≡ n
unfolding le_of le_bytes
le_of_le_bytes zero n h = omega arith
le_of_le_bytes (suc k) n h =
    let q : n / 256 < 256 ^ k = (div-lt_iff_lt-mul (lit< tt)).1 (rw pow-suc at h) in
    rw (le_of_le_bytes k (n / 256) q) (omega arith)

pub le_bytes_le_of : (s : List ℕ) → Bytes s → le_bytes (length s) (le_of s) ≡ s
unfolding le_of le_bytes
le_bytes_le_of [] t = refl
le_bytes_le_of (b ∷ s) t =
    let h : b < 256 = t 0 in
    let r : (b + 256 * le_of s) % 256 ≡ b = omega arith in
    let q : (b + 256 * le_of s) / 256 ≡ le_of s = omega arith in
    rw (r, q) (ap (λ (x : List ℕ). b ∷ x) (le_bytes_le_of s (bytes_tail b s t)))

-- the bytes of a number that stands at a place are those that spell it
pub le_back : (s : List ℕ) (k a : ℕ) → Bytes s → a + k ≤ length s → le_bytes k (le_at k s a) ≡ take k (drop a s)
le_back s k a t h =
    let n : length (take k (drop a s)) ≡ k = length-take-le k (drop a s) (omega (arith, length-drop a s)) in
    ap (λ (m : ℕ). le_bytes m (le_at k s a)) (sym n) ∙ le_bytes_le_of (take k (drop a s)) (bytes_take k (drop a s) (bytes_drop a s t))

-- a number of k bytes is below 256 to the power k
pub le_fits : (s : List ℕ) (k a : ℕ) → Bytes s → a + k ≤ length s → le_at k s a < 256 ^ k
le_fits s k a t h =
    let n : length (take k (drop a s)) ≡ k = length-take-le k (drop a s) (omega (arith, length-drop a s)) in
    rw n at (le_of_lt (take k (drop a s)) (bytes_take k (drop a s) (bytes_drop a s t)))

-- a number that stands at the front of bytes, whatever comes after it
pub le_at_front : (k n : ℕ) (r : List ℕ) → n < 256 ^ k → le_at k (le_bytes k n ++ r) 0 ≡ n
le_at_front k n r h = rw (take_at (le_bytes k n) r k (length_le_bytes k n)) (le_of_le_bytes k n h)

-- the bytes of a number by the highest and those below it
pub le_bytes_more : (k n : ℕ) → le_bytes (suc k) n ≡ le_bytes k n ++ (n / 256 ^ k % 256 ∷ [])
unfolding le_bytes
le_bytes_more zero n = rw (div-one n)
le_bytes_more (suc k) n =
    ap (λ (l : List ℕ). n % 256 ∷ l)
    (le_bytes_more k (n / 256)
    ∙ ap (λ (m : ℕ). le_bytes k (n / 256) ++ (m % 256 ∷ [])) (div-div-eq-div-mul n 256 (256 ^ k) ∙ ap (λ (m : ℕ). n / m) (sym (pow-succ' 256 k))))

-- ---- where the loops stand

-- the reading loop, from the highest byte down: r is the number of the k - i bytes from at + i on
pub record Reads (s : List ℕ) (at k i r : ℕ) : Type 0 where
  pub at_most : i ≤ k
  pub value : r ≡ le_at (k - i) s (at + i)
  pub room : r < 256 ^ (k - i)

pub reads_first : (s : List ℕ) (at k : ℕ) → Reads s at k k 0
unfolding le_of
reads_first s at k =
    let e : k - k ≡ 0 = omega arith in
    record { at_most = omega arith; value = rw e; room = rw e (lit< tt) }

-- a number with room for n bytes, and one byte more, has room for n + 1, and fits 64 bits where n is below 8
more : (r b n : ℕ) → r < 256 ^ n → b < 256 → r * 256 + b < 256 ^ suc n
more r b n h hb = rw (pow-suc 256 n) (omega arith)

pub reads_fits : (s : List ℕ) (at k i r b : ℕ) → Reads s at k i r → k ≤ 8 → 0 < i → b < 256 → r * 256 + b < 2 ^ 64
reads_fits s at k i r b st hk hi hb =
    let at_most = st.at_most in
    omega (arith, more r b (k - i) st.room hb, pow-le-pow_right {n = 256} (lit< tt) {i = suc (k - i)} {j = 8} (omega arith))

pub reads_next : (s : List ℕ) (at k i r b : ℕ) → Reads s at k i r → 0 < i → at + k ≤ length s → b ≡ get_or s (at + (i - 1)) 0 → b < 256
    → Reads s at k (i - 1) (r * 256 + b)
reads_next s at k i r b st hi hs is hb =
    let at_most = st.at_most in
    let e : k - (i - 1) ≡ suc (k - i) = omega arith in
    let e2 : at + i ≡ suc (at + (i - 1)) = omega arith in
    let p : r ≡ le_at (k - i) s (suc (at + (i - 1))) = rw e2 at st.value in
    record {
      at_most = omega arith;
      value = rw e (omega (arith, p, le_step (k - i) s (at + (i - 1)) (omega arith)));
      room = rw e (more r b (k - i) st.room hb);
    }

pub reads_last : (s : List ℕ) (at k i r : ℕ) → Reads s at k i r → i ≤ 0 → (r ≡ le_at k s at) × (r < 256 ^ k)
reads_last s at k i r st h =
    let e : k - i ≡ k = omega arith in
    let e2 : at + i ≡ at = omega arith in
    (rw (e, e2) at st.value, rw e at st.room)

-- the same where the loop goes over the part itself, from its end: `rest` is what it has left
pub record ReadsBack (s : List ℕ) (at k : ℕ) (rest : List ℕ) (r : ℕ) : Type 0 where
  pub front : rest ≡ take (length rest) (drop at s)
  pub reads : Reads s at k (length rest) r

pub back_first : (s : List ℕ) (at k n : ℕ) (rest : List ℕ) → at + k ≤ length s → n ≡ k → rest ≡ take n (drop at s) → ReadsBack s at k rest 0
back_first s at k n rest h e is =
    let long : length rest ≡ k = rw is (length-take-le n (drop at s) (omega (arith, length-drop at s)) ∙ e) in
    record { front = rw long (is ∙ ap (λ (m : ℕ). take m (drop at s)) e); reads = rw long (reads_first s at k) }

pub back_next : (s : List ℕ) (at k : ℕ) (rest left : List ℕ) (r b : ℕ) → ReadsBack s at k rest r → at + k ≤ length s → k ≤ 8 → Bytes s → rest ≡ left ++ (b ∷ [])
    → (r * 256 + b < 2 ^ 64) × ReadsBack s at k left (r * 256 + b)
back_next s at k rest left r b st h h8 t e =
    let long : length rest ≡ suc (length left) = rw e (simp length-append (omega arith)) in
    let at_most = st.reads.at_most in
    let front : left ++ (b ∷ []) ≡ take (length rest) (drop at s) = sym e ∙ st.front in
    let here : b ≡ get_or s (at + length left) 0 =
    sym (get_or_at left b [] 0 (length left) refl)
    ∙ ap (λ (l : List ℕ). get_or l (length left) 0) front
    ∙ get_or-take (length rest) (drop at s) (length left) 0 (omega arith)
    ∙ get_or-drop at s (length left) 0 in
    let one : length rest - 1 ≡ length left = omega arith in
    let byte : b < 256 = omega (arith, t (at + length left)) in (
      reads_fits s at k (length rest) r b st.reads h8 (omega arith) byte,
      record {
        front =
            sym (take_at left (b ∷ []) (length left) refl)
            ∙ ap (take (length left)) front
            ∙ take-take (length left) (length rest) (drop at s) (omega arith);
        reads = rw one at (reads_next s at k (length rest) r b st.reads (omega arith) h (rw one here) byte);
      },
    )

-- the writing loop: i bytes are written, and rest is what is left of x
pub record Writes (s₀ s : List ℕ) (at k x i rest : ℕ) : Type 0 where
  pub at_most : i ≤ k
  pub laid : s ≡ over s₀ at (le_bytes i x)
  pub left : rest ≡ x / 256 ^ i

pub writes_first : (s : List ℕ) (at k x : ℕ) → Writes s s at k x 0 x
unfolding le_bytes
writes_first s at k x = record { at_most = omega arith; laid = sym (over_none s at); left = sym (div-one x) }

pub writes_next : (s₀ s : List ℕ) (at k x i rest : ℕ) → Writes s₀ s at k x i rest → at + k ≤ length s₀ → i < k
    → Writes s₀ (set s (at + i) (rest % 256)) at k x (i + 1) (rest / 256)
writes_next s₀ s at k x i rest st hs hi =
    record {
      at_most = omega arith;
      laid = rw (add-one, le_bytes_more, ← st.left) (over_turn s₀ s at (le_bytes i x) i (rest % 256) st.laid (length_le_bytes i x) (omega arith));
      left = rw (add-one, st.left, pow-suc) (div-div-eq-div-mul x (256 ^ i) 256);
    }

pub writes_long : (s₀ s : List ℕ) (at k x i rest : ℕ) → Writes s₀ s at k x i rest → at + k ≤ length s₀ → length s ≡ length s₀
writes_long s₀ s at k x i rest st hs =
    let at_most = st.at_most in
    over_long s₀ s at (le_bytes i x) i st.laid (length_le_bytes i x) (omega arith)

pub writes_last : (s₀ s : List ℕ) (at k x i rest : ℕ) → Writes s₀ s at k x i rest → k ≤ i → s ≡ over s₀ at (le_bytes k x)
writes_last s₀ s at k x i rest st h =
    let at_most = st.at_most in
    let e : i ≡ k = omega arith in
    rw e at st.laid
