-- What is written is read back, for every number below 2 ^ 64 and whatever bytes follow; and how long it is.
-- Assumes nothing.
use Rattle.std.specs.Prelude.{ℕ, zero, suc, ◌+◌, ◌-◌, ◌*◌, ◌/◌, ◌%◌, ◌^◌, ◌≤◌, ◌<◌, ◌≡◌, refl, Bool, true, false, cond, List, [], ◌∷◌, ◌++◌, ltb, eqb, length, Result, Ok, Err}
use Rattle.std.proofs.Common.{ap, ◌∙◌, div-lt_iff_lt-mul, pow-suc, lt_of_not-le, add-one, arith, lit<, lt-ltb, le-ltb, ne_eqb, ltb-true}
use Rattle.std.proofs.Math.Decide.{dec_le}
use Rattle.varint.specs.declared.Varint.{Varint}
use Rattle.varint.specs.Varint.{leb128, varint_of, read_as, bad, more, decode, below64, read_varint}
use Rattle.varint.proofs.WriteLaws.{leb_last, leb_more}

decode_last : (k b : ℕ) (s : List ℕ) → b < 128 → decode (suc k) (b ∷ s) ≡ read_as b 1
unfolding decode
decode_last k b s h = rw (lt-ltb b 128 h)

decode_more : (k b : ℕ) (s : List ℕ) → 128 ≤ b → decode (suc k) (b ∷ s) ≡ more b (decode k s)
unfolding decode
decode_more k b s h = rw (le-ltb b 128 h)

more_value : (n m : ℕ) → 128 ≤ n → more (n % 128 + 128) (read_as (n / 128) m) ≡ read_as n (suc m)
unfolding more
more_value n m h =
    let z : eqb (n / 128) 0 ≡ false = ne_eqb (n / 128) 0 (omega arith) in
    let v : n % 128 + 128 - 128 + 128 * (n / 128) ≡ n = omega arith in
    rw (z, v, add-one)

decode_leb : (k n : ℕ) (r : List ℕ) → n < 128 ^ suc k → decode (suc k) (leb128 (suc k) n ++ r) ≡ read_as n (length (leb128 (suc k) n))
decode_leb zero n r h = let q : n < 128 = omega arith in rw (leb_last 0 n q) (decode_last 0 n r q)
decode_leb (suc k) n r h = go (dec_le 128 n) (decode_leb k (n / 128) r ((div-lt_iff_lt-mul (lit< tt)).1 (rw (pow-suc 128 (suc k)) at h)))
  where
    go : Dec (128 ≤ n) → decode (suc k) (leb128 (suc k) (n / 128) ++ r) ≡ read_as (n / 128) (length (leb128 (suc k) (n / 128)))
        → decode (suc (suc k)) (leb128 (suc (suc k)) n ++ r) ≡ read_as n (length (leb128 (suc (suc k)) n))
    go (no q) ih = rw (leb_last (suc k) n (lt_of_not-le q)) (decode_last (suc k) n r (lt_of_not-le q))
    go (yes q) ih =
        rw (leb_more (suc k) n q)
        (decode_more (suc k) (n % 128 + 128) (leb128 (suc k) (n / 128) ++ r) (omega arith) ∙ rw ih (more_value n (length (leb128 (suc k) (n / 128))) q))

-- the round trip
pub read_varint_of : (n : ℕ) (r : List ℕ) → n < 2 ^ 64 → read_varint (varint_of n ++ r) ≡ read_as n (length (varint_of n))
unfolding read_varint varint_of below64
read_varint_of n r h = rw (decode_leb 9 n r (omega arith), lt-ltb n (2 ^ 64) h)

-- ---- what a value that was read says of the bytes

abbrev value_in : Result Varint ℕ → ℕ
value_in (Ok r) = r.value
value_in (Err e) = 0

abbrev length_in : Result Varint ℕ → ℕ
length_in (Ok r) = r.length
length_in (Err e) = 0

-- equal answers have equal values and lengths
pub read_as_same : (v n w m : ℕ) → read_as v n ≡ read_as w m → (v ≡ w) × (n ≡ m)
read_as_same v n w m e = (ap value_in e, ap length_in e)

decode_fits : (k : ℕ) (s : List ℕ) (v n : ℕ) → decode k s ≡ read_as v n → n ≤ length s
unfolding decode more
decode_fits zero s v n e = let z : ◌≡◌ {A = ℕ} 0 1 = cc in omega arith
decode_fits (suc k) [] v n e = let z : ◌≡◌ {A = ℕ} 0 1 = cc in omega arith
decode_fits (suc k) (b ∷ s) v n e = go (ltb b 128) (decode k s) (decode_fits k s) e
  where
    inner : (t : Bool) (w m : ℕ) → m ≤ length s → cond t bad (read_as (b - 128 + 128 * w) (m + 1)) ≡ read_as v n → n ≤ suc (length s)
    inner true w m h q = let z : ◌≡◌ {A = ℕ} 0 1 = cc in omega arith
    inner false w m h q = omega (arith, (read_as_same _ _ _ _ q).1)

    go : (t : Bool) (d : Result Varint ℕ) → ((w m : ℕ) → d ≡ read_as w m → m ≤ length s) → cond t (read_as b 1) (more b d) ≡ read_as v n → n ≤ suc (length s)
    go true d ih q = omega (arith, (read_as_same _ _ _ _ q).1)
    go false (Err x) ih q = let z : ◌≡◌ {A = ℕ} 0 1 = cc in omega arith
    go false (Ok r) ih q = inner (eqb r.value 0) r.value r.length (ih r.value r.length refl) q

-- it lies in the bytes, and fits 64 bits
pub read_fits : (s : List ℕ) (v n : ℕ) → read_varint s ≡ read_as v n → (n ≤ length s) × (v < 2 ^ 64)
unfolding read_varint below64
read_fits s v n e = go (decode 10 s) (decode_fits 10 s) e
  where
    inner : (t : Bool) (w m : ℕ) → ltb w (2 ^ 64) ≡ t → m ≤ length s → cond t (read_as w m) bad ≡ read_as v n → (n ≤ length s) × (v < 2 ^ 64)
    inner true w m q h p =
        let same = read_as_same w m v n p in
        (omega arith, omega (arith, ltb-true w (2 ^ 64) q))
    inner false w m q h p = let z : ◌≡◌ {A = ℕ} 0 1 = cc in omega arith

    go : (d : Result Varint ℕ) → ((w m : ℕ) → d ≡ read_as w m → m ≤ length s) → below64 d ≡ read_as v n → (n ≤ length s) × (v < 2 ^ 64)
    go (Err x) ih q = let z : ◌≡◌ {A = ℕ} 0 1 = cc in omega arith
    go (Ok r) ih q = inner (ltb r.value (2 ^ 64)) r.value r.length refl (ih r.value r.length refl) q

-- a varint has at most ten bytes
leb_short : (k n : ℕ) → length (leb128 k n) ≤ k
unfolding leb128
leb_short zero n = omega arith
leb_short (suc k) n = go (ltb n 128) (leb_short k (n / 128))
  where
    go : (t : Bool) → length (leb128 k (n / 128)) ≤ k → length (cond t (n ∷ []) ((n % 128 + 128) ∷ leb128 k (n / 128))) ≤ suc k
    go true h = omega arith
    go false h = omega arith

pub varint_short : (n : ℕ) → length (varint_of n) ≤ 10
unfolding varint_of
varint_short n = leb_short 10 n
