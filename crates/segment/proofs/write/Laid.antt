-- The steps of writing a segment: the header's fields laid over zeros; the header, the payload and the padding, each right behind the one before.
-- Assumes nothing.
use Rattle.std.specs.Prelude.{◌≡◌, ℕ, ◌+◌, ◌-◌, ◌≤◌, take, drop, set}
use Rattle.std.proofs.Math.Path.{refl, ap}
use Rattle.std.proofs.Common.{sym, ◌∙◌, length-append, drop-drop}
use mathlib.Core.List.{List, [], ◌∷◌, ◌++◌, append-nil, append_assoc}
use Rattle.std.proofs.Math.Nat.{zero-add}
use native.Mathlib.Omega.{arith}
use Rattle.std.proofs.Math.ListN.{length, replicate, length-drop, length-replicate}
use Rattle.std.proofs.Math.Seq.{length-take-le}
use borrow.Rule.Slice.PartMut.{put_mid}
use Rattle.octets.specs.Over.{over}
use Rattle.octets.proofs.OverLaws.{length_over, over_then, over_next, over_swap}
use Rattle.octets.proofs.Parts.{back}
use Rattle.octets.specs.Round.{round64, padding}
use Rattle.octets.proofs.RoundLaws.{round64_ge}
use Rattle.octets.specs.le.Le.{le_bytes}
use Rattle.segment.specs.Header.{magic, content_hash}
use Rattle.segment.specs.Written.{header_of, header, segment}
use Rattle.segment.proofs.WrittenLaws.{header_of_length, hash_length, header_length, segment_length}

-- ---- the header

-- what stands before the hash
abbrev fields : ℕ → ℕ → ℕ → ℕ → ℕ → List ℕ
fields kind flags id timestamp len =
    magic ++ (1 ∷ kind ∷ []) ++ le_bytes 2 flags ++ le_bytes 8 id ++ le_bytes 8 len ++ le_bytes 8 timestamp ++ replicate 8 0

module _ (kind flags id timestamp len : ℕ) where
  fields_laid : (h1 h2 h3 h4 h5 : List ℕ) → h1 ≡ over (replicate 64 0) 0 magic → h2 ≡ over (set (set h1 0x04 1) 0x05 kind) 0x06 (le_bytes 2 flags)
      → h3 ≡ over h2 0x08 (le_bytes 8 id) → h4 ≡ over h3 0x10 (le_bytes 8 len) → h5 ≡ over h4 0x18 (le_bytes 8 timestamp)
      → h5 ≡ fields kind flags id timestamp len ++ replicate 24 0
  unfolding over le_bytes
  fields_laid h1 h2 h3 h4 h5 e1 e2 e3 e4 e5 = rw (e5, e4, e3, e2, e1)

  pub header_laid : (hash h1 h2 h3 h4 h5 h6 : List ℕ) → length hash ≡ 16 → h1 ≡ over (replicate 64 0) 0 magic
      → h2 ≡ over (set (set h1 0x04 1) 0x05 kind) 0x06 (le_bytes 2 flags) → h3 ≡ over h2 0x08 (le_bytes 8 id) → h4 ≡ over h3 0x10 (le_bytes 8 len)
      → h5 ≡ over h4 0x18 (le_bytes 8 timestamp) → h6 ≡ over (take 24 (drop 0x28 h5)) 0 hash
      → put_mid 0x28 24 h5 h6 ≡ header_of kind flags id timestamp len hash
  unfolding over le_bytes header_of
  header_laid hash h1 h2 h3 h4 h5 h6 n e1 e2 e3 e4 e5 e6 =
      rw (e6, fields_laid h1 h2 h3 h4 h5 e1 e2 e3 e4 e5, zero-add, n, append-nil)

-- ---- the segment

-- a part of a buffer that comes back is laid over it
mid : (xs : List ℕ) (a k : ℕ) (ys : List ℕ) → length ys ≡ k → put_mid a k xs ys ≡ over xs a ys
unfolding over
mid xs a k ys e = rw (drop-drop, e)

pub segment_size : (kind flags id timestamp : ℕ) (payload : List ℕ) (m : ℕ) → m ≡ round64 (length payload) → 64 + m ≡ length (segment kind flags id timestamp payload)
segment_size kind flags id timestamp payload m e = rw e (sym (segment_length kind flags id timestamp payload))

module _ (kind flags id timestamp : ℕ) (payload b0 : List ℕ) (room : 64 + round64 (length payload) ≤ length b0) where
  abbrev head : List ℕ
  head = header kind flags id timestamp payload

  -- the payload, right behind the header
  pub payload_laid : (b1 y hash : List ℕ) → hash ≡ content_hash payload → b1 ≡ over b0 0 (header_of kind flags id timestamp (length payload) hash)
      → y ≡ over (take (length b1 - 64) (drop 64 b1)) 0 payload → put_mid 64 (length b1 - 64) b1 y ≡ over b0 0 (head ++ payload)
  unfolding header
  payload_laid b1 y hash e p q =
      let n = header_length kind flags id timestamp payload in
      let r : length payload ≤ round64 (length payload) = round64_ge (length payload) in
      let p2 : b1 ≡ over b0 0 head = p ∙ ap (λ (h : List ℕ). over b0 0 (header_of kind flags id timestamp (length payload) h)) e in
      let l : length b1 ≡ length b0 = rw p2 (length_over b0 0 head (omega arith)) in
      back b1 64 y payload q (omega arith) ∙ over_then b0 b1 0 head payload 64 p2 n (omega arith)

  -- the padding, right behind the payload
  pub padding_laid : (b2 z : List ℕ) (m : ℕ) → m ≡ round64 (length payload) → b2 ≡ over b0 0 (head ++ payload)
      → z ≡ replicate (length (take (64 + m - (64 + length payload)) (drop (64 + length payload) b2))) 0
      → put_mid (64 + length payload) (64 + m - (64 + length payload)) b2 z ≡ over b0 0 (segment kind flags id timestamp payload)
  unfolding segment padding
  padding_laid b2 z m e p q =
      let n = header_length kind flags id timestamp payload in
      let r : length payload ≤ round64 (length payload) = round64_ge (length payload) in
      let hp : length (head ++ payload) ≡ 64 + length payload = simp (length-append, header_length) refl in
      let l : length b2 ≡ length b0 = rw p (length_over b0 0 (head ++ payload) (omega arith)) in
      let k : 64 + m - (64 + length payload) ≡ round64 (length payload) - length payload = omega arith in
      let t : length (take (64 + m - (64 + length payload)) (drop (64 + length payload) b2)) ≡ 64 + m - (64 + length payload) =
      length-take-le (64 + m - (64 + length payload)) (drop (64 + length payload) b2) (simp length-drop (omega arith)) in
      let zs : z ≡ replicate (round64 (length payload) - length payload) 0 = q ∙ ap (λ (j : ℕ). replicate j 0) (t ∙ k) in
      let zl : length z ≡ 64 + m - (64 + length payload) = ap length q ∙ length-replicate _ 0 ∙ t in
      mid b2 (64 + length payload) (64 + m - (64 + length payload)) z zl
      ∙ (rw zero-add at (over_then b0 b2 0 (head ++ payload) z (64 + length payload) p hp (omega arith)))
      ∙ ap (λ (x : List ℕ). over b0 0 (head ++ payload ++ x)) zs

-- ---- a header before a payload that is already in place

pub in_place : (kind flags id timestamp : ℕ) (payload b0 b1 : List ℕ) → 64 + round64 (length payload) ≤ length b0 → b1 ≡ over b0 64 (payload ++ padding (length payload))
    → over b1 0 (header_of kind flags id timestamp (length payload) (content_hash payload)) ≡ over b0 0 (segment kind flags id timestamp payload)
unfolding segment header
in_place kind flags id timestamp payload b0 b1 h p =
    let head = header_of kind flags id timestamp (length payload) (content_hash payload) in
    let n : length head ≡ 64 = header_of_length kind flags id timestamp (length payload) (content_hash payload) (hash_length payload) in
    let e : 0 + length head ≡ 64 = omega arith in
    ap (λ (b : List ℕ). over b 0 head) p
    ∙ over_swap b0 0 head 64 (payload ++ padding (length payload)) (omega arith) (omega arith)
    ∙ (rw e at (over_next b0 0 head (payload ++ padding (length payload)) (omega arith)))
    ∙ ap (over b0 0) (sym (append_assoc head payload (padding (length payload))))
