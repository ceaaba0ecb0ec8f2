-- The laws of specs/values/Vector.antt.
-- Assumes nothing.
use Prim.Native.Nat.{ℕ, zero, suc, ◌+◌, ◌-◌, ◌*◌, ◌≤◌, ◌<◌}
use Rattle.std.specs.Prelude.{◌≡◌, List, ◌++◌, length, take, drop}
use Rattle.std.proofs.Math.Path.{refl, sym}
use Rattle.std.proofs.Common.{ap, ◌∙◌, append_assoc, append-nil, mul-le-mul, mul_comm, zero-add, add-one, length-append, length-drop, length-take-le}
use Rattle.std.proofs.Math.Nat.{suc-mul}
use native.Mathlib.Omega.{arith}
use borrow.Rule.Slice.PartMut.{put_mid}
use Rattle.octets.specs.Over.{over}
use Rattle.octets.proofs.OverLaws.{over_none, over_then, length_over}
use Rattle.octets.proofs.Parts.{back}
use Rattle.vecseg.specs.Payload.{width}
use Rattle.vecseg.specs.Find.{Place, value_at, values_from, vector_of}
use Rattle.vec_read.specs.values.Vector.{place_with, Bounds}

values_with : (s : List ℕ) (p : Place) (n d : ℕ) → values_from s p n d ≡ values_from s (place_with p.line.offset p.line.count p.line.dim p.line.dtype p.index) n d
unfolding values_from value_at place_with
values_with s p zero d = refl
values_with s p (suc n) d = rw (values_with s p n (suc d))

pub vector_with : (s : List ℕ) (p : Place) → vector_of s p ≡ vector_of s (place_with p.line.offset p.line.count p.line.dim p.line.dtype p.index)
unfolding vector_of place_with
vector_with s p = values_with s p p.line.dim 0

-- ---- the room that the values take, of numbers within bounds

pub record ValueRoom (n offset count dim w index d : ℕ) : Type 0 where
  pub row : d * count ≤ 4194304
  pub from : offset + (d * count + index) * w + w ≤ n
  pub to : d * w + w ≤ dim * w
  pub all : dim * w ≤ 4096

pub value_room : (n offset count dim w index d : ℕ) → Bounds n offset count dim w index → d < dim → ValueRoom n offset count dim w index d
value_room n offset count dim w index d b h =
    let most = b.most in
    let at_most = b.at_most in
    let small = b.small in
    let index_in = b.index_in in
    let rows : suc d * count ≤ dim * count = mul-le-mul h (omega arith) in
    let e : suc d * count ≡ d * count + count = suc-mul d count in
    let within : suc (d * count + index) ≤ count * dim = omega (arith, mul_comm count dim) in
    let wide : suc (d * count + index) * w ≤ count * dim * w = mul-le-mul within (omega arith) in
    let f : suc (d * count + index) * w ≡ (d * count + index) * w + w = suc-mul (d * count + index) w in
    let row : d * count ≤ 1024 * 4096 = mul-le-mul {n₂ = 1024} {m₂ = 4096} (omega arith) most in
    let up : suc d * w ≤ dim * w = mul-le-mul h (omega arith) in
    let all : dim * w ≤ 1024 * 4 = mul-le-mul at_most small in
    record { row = row; from = omega (arith, b.room); to = omega (arith, suc-mul d w); all = all }

pub all_room : (n offset count dim w index : ℕ) → Bounds n offset count dim w index → dim * w ≤ 4096
all_room n offset count dim w index b = mul-le-mul b.at_most b.small

-- ---- the values

values_more : (s : List ℕ) (p : Place) (n d : ℕ) → values_from s p (suc n) d ≡ values_from s p n d ++ value_at s p (d + n)
unfolding values_from
values_more s p zero d = let e : d + 0 ≡ d = omega arith in rw e (append-nil (value_at s p d))
values_more s p (suc n) d =
    let e : suc d + n ≡ d + suc n = omega arith in
    ap (λ (l : List ℕ). value_at s p d ++ l) (values_more s p n (suc d))
    ∙ sym (append_assoc (value_at s p d) (values_from s p n (suc d)) (value_at s p (suc d + n)))
    ∙ rw e

-- where the loop stands: d values are written at the front of the buffer
pub record VectorAt (s : List ℕ) (offset count dim dtype index : ℕ) (buf₀ buf : List ℕ) (d : ℕ) : Type 0 where
  pub at_most : d ≤ dim
  pub same_length : length buf ≡ length buf₀
  pub laid : buf ≡ over buf₀ 0 (values_from s (place_with offset count dim dtype index) d 0)

module _ (s : List ℕ) (offset count dim dtype index : ℕ) (b : Bounds (length s) offset count dim (width dtype) index) where
  value-is : (d : ℕ) → value_at s (place_with offset count dim dtype index) d ≡ take (width dtype) (drop (offset + (d * count + index) * width dtype) s)
  unfolding value_at place_with
  value-is d = refl

  value-length : (d : ℕ) → d < dim → length (value_at s (place_with offset count dim dtype index) d) ≡ width dtype
  value-length d h =
      let r = (value_room (length s) offset count dim (width dtype) index d b h).from in
      rw (value-is d) (length-take-le (width dtype) (drop (offset + (d * count + index) * width dtype) s) (omega (arith, length-drop (offset + (d * count + index) * width dtype) s)))

  pub values_length : (d : ℕ) → d ≤ dim → length (values_from s (place_with offset count dim dtype index) d 0) ≡ d * width dtype
  unfolding values_from
  values_length zero h = omega arith
  values_length (suc d) h =
      let e : 0 + d ≡ d = omega arith in
      rw (values_more s (place_with offset count dim dtype index) d 0, e)
      (length-append (values_from s (place_with offset count dim dtype index) d 0) (value_at s (place_with offset count dim dtype index) d)
      ∙ omega (arith, values_length d (omega arith), value-length d h, suc-mul d (width dtype)))

  pub vector_length : length (vector_of s (place_with offset count dim dtype index)) ≡ dim * width dtype
  unfolding vector_of place_with
  vector_length = values_length dim (omega arith)

  pub vector_first : (buf : List ℕ) → VectorAt s offset count dim dtype index buf buf 0
  unfolding values_from
  vector_first buf = record { at_most = omega arith; same_length = refl; laid = sym (over_none buf 0) }

  -- the part of the buffer from the next value's place on came back with that value at its front
  pub vector_next : (buf₀ buf ys : List ℕ) (d : ℕ) → VectorAt s offset count dim dtype index buf₀ buf d → d < dim → dim * width dtype ≤ length buf₀
      → ys ≡ over (take (length buf - d * width dtype) (drop (d * width dtype) buf)) 0
      (take (offset + (d * count + index) * width dtype + width dtype - (offset + (d * count + index) * width dtype)) (drop (offset + (d * count + index) * width dtype) s))
      → VectorAt s offset count dim dtype index buf₀ (put_mid (d * width dtype) (length buf - d * width dtype) buf ys) (d + 1)
  vector_next buf₀ buf ys d st h room p =
      let same_length = st.same_length in
      let w : ℕ = width dtype in
      let at : ℕ = offset + (d * count + index) * width dtype in
      let v : List ℕ = value_at s (place_with offset count dim dtype index) d in
      let r = value_room (length s) offset count dim (width dtype) index d b h in
      let to = r.to in
      let e : at + w - at ≡ w = omega arith in
      let n : length v ≡ w = value-length d h in
      let q : ys ≡ over (take (length buf - d * w) (drop (d * w) buf)) 0 v = rw (e, ← (value-is d)) at p in
      let one : put_mid (d * w) (length buf - d * w) buf ys ≡ over buf (d * w) v = back buf (d * w) ys v q (omega arith) in
      let z : 0 + d * w ≡ d * w = omega arith in
      let two : over buf (0 + d * w) v ≡ over buf₀ 0 (values_from s (place_with offset count dim dtype index) d 0 ++ v) =
      over_then buf₀ buf 0 (values_from s (place_with offset count dim dtype index) d 0) v (d * w) st.laid (values_length d (omega arith)) (omega arith) in
      let two2 : over buf (d * w) v ≡ over buf₀ 0 (values_from s (place_with offset count dim dtype index) d 0 ++ v) = rw z at two in
      let m = values_more s (place_with offset count dim dtype index) d 0 in
      let m2 : values_from s (place_with offset count dim dtype index) (suc d) 0 ≡ values_from s (place_with offset count dim dtype index) d 0 ++ v = m ∙ rw (zero-add d) in
      let three : put_mid (d * w) (length buf - d * w) buf ys ≡ over buf₀ 0 (values_from s (place_with offset count dim dtype index) (suc d) 0) = one ∙ two2 ∙ rw m2 in
      record {
        at_most = omega arith;
        same_length = ap length three ∙ length_over buf₀ 0 (values_from s (place_with offset count dim dtype index) (suc d) 0) (omega (arith, values_length (suc d) h, suc-mul d (width dtype)));
        laid = rw add-one three;
      }

  pub vector_last : (buf₀ buf : List ℕ) (d : ℕ) → VectorAt s offset count dim dtype index buf₀ buf d → dim ≤ d → buf ≡ over buf₀ 0 (vector_of s (place_with offset count dim dtype index))
  unfolding vector_of place_with
  vector_last buf₀ buf d st h =
      let at_most = st.at_most in
      let e : d ≡ dim = omega arith in
      rw e at st.laid
