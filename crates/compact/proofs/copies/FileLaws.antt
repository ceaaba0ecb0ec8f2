-- The fresh file as it is written: the manifest's payload at its place, the segments before it, the places in its entries, its header. What the buffer
-- holds after each step.
-- Assumes nothing.
use Prim.Native.Nat.{ℕ, ◌+◌, ◌-◌, ◌*◌, ◌%◌, ◌≤◌}
use Rattle.std.specs.Prelude.{◌≡◌, take, drop}
use Rattle.std.proofs.Math.Path.{sym, ap, ap₂}
use Rattle.std.proofs.Common.{◌∙◌, length-append}
use mathlib.Core.List.{List, [], ◌++◌, append_assoc, append-nil}
use native.Mathlib.Omega.{arith}
use Rattle.std.proofs.Math.ListN.{length}
use borrow.Rule.Slice.PartMut.{put_mid}
use Rattle.octets.specs.Over.{over}
use Rattle.octets.proofs.OverLaws.{over_next, over_swap, over_at, length_over}
use Rattle.octets.proofs.Parts.{back}
use Rattle.octets.specs.Round.{round64, padding}
use Rattle.segment.specs.Header.{content_hash}
use Rattle.segment.specs.Written.{header_of, header, segment}
use Rattle.segment.proofs.WrittenLaws.{header_of_length, hash_length, padding_none}
use Rattle.manifest.specs.Sized.{record_by}
use Rattle.manifest.specs.Payload.{manifest_kind, entry_size, payload_length, root}
use Rattle.manifest.specs.At.{entries_at, record_head, fill, payload_at}
use Rattle.manifest.proofs.At.{record_ge, length_record_head, length_payload_at}
use Rattle.compact.specs.copies.Copies.{Standing, copies_at, places_at, placed}
use Rattle.compact.proofs.copies.CopyLaws.{places_length, places_inside}
use Rattle.compact.proofs.copies.PlaceLaws.{placed_entries, same_copies, standing_inside}

-- a payload takes a multiple of 64 bytes
payload_even : (c : ℕ) → payload_length c % 64 ≡ 0
unfolding payload_length record_by round64
payload_even c = omega arith

-- the entries stand in it
pub entries_fit : (c : ℕ) → 8 + entry_size * c ≤ payload_length c
unfolding payload_length
entries_fit c = omega (arith, record_ge c)

-- a payload: its head, its entries, and the rest
payload_split : (f os ss : List ℕ) (at id : ℕ) → payload_at f os ss at id ≡ record_head (length os) ++ (entries_at f os ss ++ (fill (length os) ++ root (length os) at id))
unfolding payload_at
payload_split f os ss at id = simp append_assoc

module _ (f os : List ℕ) (h : Standing f os) (ss : List ℕ) (at id : ℕ) where
  abbrev copies : List ℕ
  copies = copies_at f os

  abbrev places : List ℕ
  places = places_at f 0 os

  -- the payload by the old file, and the one by the copies
  abbrev old : List ℕ
  old = payload_at f os ss at id

  abbrev new : List ℕ
  new = payload_at copies places ss at id

  pub old_length : length old ≡ payload_length (length os)
  old_length = length_payload_at f os ss at id (standing_inside f os h)

  pub new_length : length new ≡ payload_length (length os)
  new_length = length_payload_at copies places ss at id (places_inside f os h) ∙ ap payload_length (places_length f 0 os)

  -- the places in the entries make the one of the other
  placed-payload : (s : List ℕ) (body : ℕ) → body + payload_length (length os) ≤ length s → placed (body + 8) places (over s body old) ≡ over s body new
  placed-payload s body room =
      let n : ℕ = length os in
      let first : List ℕ = record_head (length os) in
      let rest : List ℕ = fill (length os) ++ root (length os) at id in
      let k : length (record_head (length os)) ≡ 8 = length_record_head (length os) in
      let whole : 8 + length (entries_at f os ss ++ (fill (length os) ++ root (length os) at id)) ≡ payload_length (length os) =
      sym
      (sym old_length
      ∙ ap length (payload_split f os ss at id)
      ∙ length-append (record_head (length os)) (entries_at f os ss ++ (fill (length os) ++ root (length os) at id))
      ∙ ap (λ (m : ℕ). m + length (entries_at f os ss ++ (fill (length os) ++ root (length os) at id))) k) in
      let apart : (x : List ℕ) → over (over s body (record_head (length os))) (body + 8) x ≡ over s body (record_head (length os) ++ x) =
      λ x. rw k at (over_next s body (record_head (length os)) x (omega arith)) in
      let long : length (over s body (record_head (length os))) ≡ length s = length_over s body (record_head (length os)) (omega arith) in
      ap (λ (x : List ℕ). placed (body + 8) places (over s body x)) (payload_split f os ss at id)
      ∙ ap (placed (body + 8) places) (sym (apart (entries_at f os ss ++ (fill (length os) ++ root (length os) at id))))
      ∙ placed_entries f copies os places ss (body + 8) (over s body (record_head (length os))) (fill (length os) ++ root (length os) at id) (same_copies f os h)
      (standing_inside f os h) (omega arith)
      ∙ apart (entries_at copies places ss ++ (fill (length os) ++ root (length os) at id))
      ∙ ap (over s body)
      (sym (payload_split copies places ss at id
      ∙ ap (λ (m : ℕ). record_head m ++ (entries_at copies places ss ++ (fill m ++ root m at id))) (places_length f 0 os)))

  module _ (buf₀ : List ℕ) (end : at ≡ length copies) (room : at + (64 + payload_length (length os)) ≤ length buf₀) where
    -- the buffer with the segments alone
    abbrev front : List ℕ
    front = over buf₀ 0 copies

    front_length : length front ≡ length buf₀
    front_length = length_over buf₀ 0 copies (omega arith)

    -- the payload is written first, then the segments, then the places
    pub places_put : (buf₁ buf₂ buf₃ : List ℕ) → buf₁ ≡ over buf₀ (at + 64) old → buf₂ ≡ over buf₁ 0 copies → buf₃ ≡ placed (at + 64 + 8) places buf₂
        → buf₃ ≡ over front (at + 64) new
    places_put buf₁ buf₂ buf₃ e₁ e₂ e₃ =
        e₃
        ∙ ap (placed (at + 64 + 8) places)
        (e₂ ∙ ap (λ (x : List ℕ). over x 0 copies) e₁ ∙ over_swap buf₀ 0 copies (at + 64) old (omega arith) (omega arith))
        ∙ placed-payload front (at + 64) (omega (arith, front_length))

    module _ (buf₃ : List ℕ) (e : buf₃ ≡ over front (at + 64) new) where
      -- it is read back, for its hash
      pub payload_back : (len : ℕ) → len ≡ payload_length (length os) → take (at + 64 + len - (at + 64)) (drop (at + 64) buf₃) ≡ new
      payload_back len k =
          let n : at + 64 + len - (at + 64) ≡ length new = omega (arith, new_length) in
          ap (λ (m : ℕ). take m (drop (at + 64) buf₃)) n
          ∙ ap (λ (x : List ℕ). take (length new) (drop (at + 64) x)) e
          ∙ over_at front (at + 64) new (omega (arith, front_length))

      same_length : length buf₃ ≡ length buf₀
      same_length = ap length e ∙ length_over front (at + 64) new (omega (arith, front_length, new_length)) ∙ front_length

      -- the header before it makes it a segment, right behind the others
      pub file_put : (ts len : ℕ) (hash y : List ℕ) → len ≡ payload_length (length os) → hash ≡ content_hash new
          → y ≡ over (take (length buf₃ - at) (drop at buf₃)) 0 (header_of manifest_kind 0 id ts len hash)
          → put_mid at (length buf₃ - at) buf₃ y ≡ over buf₀ 0 (copies ++ segment manifest_kind 0 id ts new)
      unfolding segment header
      file_put ts len hash y k q p =
          let head : List ℕ = header_of manifest_kind 0 id ts (length new) (content_hash new) in
          let n : length (header_of manifest_kind 0 id ts (length new) (content_hash new)) ≡ 64 =
          header_of_length manifest_kind 0 id ts (length new) (content_hash new) (hash_length new) in
          let as_said : header_of manifest_kind 0 id ts len hash ≡ header_of manifest_kind 0 id ts (length new) (content_hash new) =
          ap₂ (header_of manifest_kind 0 id ts) (k ∙ sym new_length) q in
          let none : padding (length new) ≡ [] = padding_none new (ap (λ (m : ℕ). m % 64) new_length ∙ payload_even (length os)) in
          let all : head ++ new ≡ head ++ new ++ padding (length new) = sym (ap (λ (z : List ℕ). head ++ new ++ z) none ∙ append-nil (head ++ new)) in
          let behind : at ≡ 0 + length copies = omega arith in
          back buf₃ at y head (p ∙ ap (over (take (length buf₃ - at) (drop at buf₃)) 0) as_said) (omega (arith, same_length))
          ∙ ap (λ (x : List ℕ). over x at head) e
          ∙ over_swap front at head (at + 64) new (omega arith) (omega (arith, front_length))
          ∙ (rw n at (over_next front at head new (omega (arith, front_length))))
          ∙ ap (over front at) all
          ∙ ap (λ (m : ℕ). over front m (head ++ new ++ padding (length new))) behind
          ∙ over_next buf₀ 0 copies (head ++ new ++ padding (length new)) (omega arith)
