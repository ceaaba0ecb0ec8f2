-- The manifest's segment, right behind the bodies; and a body as the code reads it off the batch's line.
-- Assumes nothing.
use Rattle.std.specs.Prelude.{ℕ, ◌+◌, ◌-◌, ◌*◌, ◌≤◌, ◌≡◌, List, length, take, drop, get_or}
use Rattle.std.proofs.Common.{sym, ap, ◌∙◌, arith}
use borrow.Rule.Slice.PartMut.{put_mid}
use Rattle.octets.specs.Over.{over}
use Rattle.octets.proofs.Parts.{back}
use Rattle.octets.specs.Round.{round64}
use Rattle.octets.specs.le.Le.{le_at}
use Rattle.segment.specs.Written.{segment}
use Rattle.segment.proofs.WrittenLaws.{segment_length}
use Rattle.batch.specs.Form.{Body, bodies_of}
use Rattle.batch.specs.Lines.{no_body}
use Rattle.batch.proofs.Lines.{BodyAt}
use Rattle.appending.specs.Append.{body_size}

pub manifest_laid : (buf y : List ℕ) (at kind flags id ts : ℕ) (part payload : List ℕ) → part ≡ payload
    → y ≡ over (take (length buf - at) (drop at buf)) 0 (segment kind flags id ts part) → at + (64 + round64 (length payload)) ≤ length buf
    → put_mid at (length buf - at) buf y ≡ over buf at (segment kind flags id ts payload)
manifest_laid buf y at kind flags id ts part payload e p h =
    back buf at y (segment kind flags id ts payload) (p ∙ ap (λ (x : List ℕ). over (take (length buf - at) (drop at buf)) 0 (segment kind flags id ts x)) e)
    (omega (arith, segment_length kind flags id ts payload))

-- ---- a body, as the code reads it off the batch's line j

module _ (s : List ℕ) (j : ℕ) (a : BodyAt s j) (from len : ℕ) (f : from ≡ le_at 4 s (16 + 16 * j + 4)) (l : len ≡ le_at 4 s (16 + 16 * j + 8)) where
  pub body_part : take (from + len - from) (drop from s) ≡ (get_or (bodies_of s) j no_body).payload
  body_part =
      let e : from + len - from ≡ len = omega arith in
      ap (λ (n : ℕ). take n (drop from s)) (e ∙ l) ∙ ap (λ (n : ℕ). take (le_at 4 s (16 + 16 * j + 8)) (drop n s)) f ∙ sym a.payload_is

  pub body_inside : from + len ≤ length s
  body_inside = omega (arith, a.room, f, l)

  pub body_segment : (kind flags id ts : ℕ) → kind ≡ get_or s (16 + 16 * j) 0 → flags ≡ le_at 2 s (16 + 16 * j + 2)
      → segment kind flags id ts (take (from + len - from) (drop from s))
      ≡ segment (get_or (bodies_of s) j no_body).kind (get_or (bodies_of s) j no_body).flags id ts (get_or (bodies_of s) j no_body).payload
  body_segment kind flags id ts k g =
      ap (λ (x : ℕ). segment x flags id ts (take (from + len - from) (drop from s))) (k ∙ sym a.kind_is)
      ∙ ap (λ (x : ℕ). segment (get_or (bodies_of s) j no_body).kind x id ts (take (from + len - from) (drop from s))) (g ∙ sym a.flags_is)
      ∙ ap (segment (get_or (bodies_of s) j no_body).kind (get_or (bodies_of s) j no_body).flags id ts) body_part

  -- it takes as many bytes as the body does
  pub body_length : (kind flags id ts : ℕ) → length (segment kind flags id ts (take (from + len - from) (drop from s))) ≡ body_size (get_or (bodies_of s) j no_body)
  body_length kind flags id ts =
      segment_length kind flags id ts (take (from + len - from) (drop from s)) ∙ ap (λ (x : List ℕ). 64 + round64 (length x)) body_part

-- a body by its type, flags and bytes, as they were read off the batch
pub body_written : (b : Body) (kind flags : ℕ) (payload : List ℕ) → kind ≡ b.kind → flags ≡ b.flags → payload ≡ b.payload → (id ts : ℕ)
    → (segment kind flags id ts payload ≡ segment b.kind b.flags id ts b.payload) × (length (segment kind flags id ts payload) ≡ body_size b)
body_written b kind flags payload k g p id ts =
    let e : segment kind flags id ts payload ≡ segment b.kind b.flags id ts b.payload = rw (k, g, p) in
    (e, ap length e ∙ segment_length b.kind b.flags id ts b.payload)
