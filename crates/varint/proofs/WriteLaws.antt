-- Laws of what is written: the last byte, a byte before it, the places of both in the whole, and where the writing loops stand.
-- Assumes nothing.
use Rattle.std.specs.Prelude.{ℕ, zero, suc, ◌+◌, ◌-◌, ◌*◌, ◌/◌, ◌%◌, ◌^◌, ◌≤◌, ◌<◌, ◌≡◌, refl, List, [], ◌∷◌, length, get_or, take, drop, set}
use Rattle.std.proofs.Common.{ap, ◌∙◌, pow-suc, add-one, arith, length-drop, drop-cons, take-suc, length-take-le, lt-ltb, le-ltb}
use Rattle.std.proofs.Math.Seq.{take-length}
use Rattle.octets.specs.Over.{over}
use Rattle.octets.proofs.OverLaws.{over_turn}
use Rattle.varint.specs.Varint.{leb128, varint_of}

pub leb_last : (k n : ℕ) → n < 128 → leb128 (suc k) n ≡ n ∷ []
unfolding leb128
leb_last k n h = rw (lt-ltb n 128 h)

pub leb_more : (k n : ℕ) → 128 ≤ n → leb128 (suc k) n ≡ (n % 128 + 128) ∷ leb128 k (n / 128)
unfolding leb128
leb_more k n h = rw (le-ltb n 128 h)

-- a list that goes on from d with b has b there
pub record Goes (v : List ℕ) (d b : ℕ) (bs : List ℕ) : Type 0 where
  pub within : d < length v
  pub here : get_or v d 0 ≡ b
  pub on : drop (suc d) v ≡ bs

goes : (v : List ℕ) (d b : ℕ) (bs : List ℕ) → drop d v ≡ b ∷ bs → Goes v d b bs
goes v d b bs e =
    let h : d < length v = omega (arith, length-drop d v, ap length e) in
    let f = drop-cons v d 0 h in
    record { within = h; here = cc; on = cc }

-- the room that is left for a number, by how many bytes were written
pub room_more : (k n : ℕ) → 128 ≤ n → n < 128 ^ k → (2 ≤ k) × (n / 128 < 128 ^ (k - 1))
room_more zero n h q = omega arith
room_more (suc zero) n h q = omega arith
room_more (suc (suc k)) n h q =
    let e : suc (suc k) - 1 ≡ suc k = omega arith in
    let p : n < 128 ^ suc k * 128 = rw (pow-suc 128 (suc k)) at q in
    (omega arith, rw e (omega arith))

-- where a loop over the bytes of x stands: d are passed, and rest is what is left of x
pub record WrittenSoFar (x d rest : ℕ) : Type 0 where
  pub at_most : d ≤ 9
  pub left : drop d (varint_of x) ≡ leb128 (10 - d) rest
  pub room : rest < 128 ^ (10 - d)

pub stands_first : (x : ℕ) → x < 2 ^ 64 → WrittenSoFar x 0 x
unfolding varint_of
stands_first x h = record { at_most = omega arith; left = refl; room = omega arith }

pub stands_byte : (x d rest : ℕ) → WrittenSoFar x d rest → 128 ≤ rest → Goes (varint_of x) d (rest % 128 + 128) (leb128 (9 - d) (rest / 128))
stands_byte x d rest s h =
    let at_most = s.at_most in
    let e : 10 - d ≡ suc (9 - d) = omega arith in
    goes (varint_of x) d _ _ ((rw e at s.left) ∙ leb_more (9 - d) rest h)

pub stands_more : (x d rest : ℕ) → WrittenSoFar x d rest → 128 ≤ rest → WrittenSoFar x (d + 1) (rest / 128)
stands_more x d rest s h =
    let at_most = s.at_most in
    let r = room_more (10 - d) rest h s.room in
    let e : 10 - (d + 1) ≡ 9 - d = omega arith in
    let f : 10 - d - 1 ≡ 9 - d = omega arith in
    record { at_most = omega (arith, r.0); left = rw (e, add-one) (stands_byte x d rest s h).on; room = rw e (rw f at r.1) }

pub stands_last : (x d rest : ℕ) → WrittenSoFar x d rest → rest < 128 → Goes (varint_of x) d rest []
stands_last x d rest s h =
    let at_most = s.at_most in
    let e : 10 - d ≡ suc (9 - d) = omega arith in
    goes (varint_of x) d _ _ ((rw e at s.left) ∙ leb_last (9 - d) rest h)

pub last_length : (v : List ℕ) (d b : ℕ) → Goes v d b [] → d + 1 ≡ length v
last_length v d b g =
    let w = g.within in
    omega (arith, length-drop (suc d) v, ap length g.on)

-- one byte written behind the first d
pub laid : (v out₀ out : List ℕ) (at d b : ℕ) (bs : List ℕ) → Goes v d b bs → out ≡ over out₀ at (take d v) → at + length v ≤ length out₀
    → set out (at + d) b ≡ over out₀ at (take (d + 1) v)
laid v out₀ out at d b bs g p h =
    let w = g.within in
    rw (add-one d, take-suc v d 0 w, g.here)
    (over_turn out₀ out at (take d v) d b p (length-take-le d v (omega arith)) (omega arith))

pub all_laid : (v : List ℕ) (d b : ℕ) → Goes v d b [] → take (d + 1) v ≡ v
all_laid v d b g = rw (last_length v d b g) (take-length v)
