-- The cases that document 01 marks (P) under 'Worked numbers': one table, and one statement that all its lines hold. Each layer adds its lines here.
-- Assumes nothing.
use Rattle.std.specs.Prelude.{ℕ, ◌-◌, ◌^◌, ◌≤◌, ◌<◌, ◌≡◌, List, [], ◌∷◌, ◌++◌, length, take, replicate, Err}
use Rattle.std.proofs.Math.Option.{none}
use Rattle.answers.specs.Answer.{Accepted, Refusal}
use Rattle.varint.specs.Varint.{varint_of, read_varint}
use Rattle.idmap.specs.Encode.{map_bytes}
use Rattle.batch.specs.Form.{bodies_of}
use Rattle.appending.specs.Append.{manifest_at, append_answer, Appends}
use Rattle.worked.specs.Batches.{no_bodies, one_body}
use Rattle.manifest.specs.Opening.{open_answer}

-- the list of document 002's delta example
abbrev example : List ℕ
example = 100 ∷ 105 ∷ 108 ∷ 120 ∷ 200 ∷ []

pub record Table : Type 0 where
  -- varints
  pub zero_is : varint_of 0 ≡ 0x00 ∷ []
  pub v127_is : varint_of 127 ≡ 0x7F ∷ []
  pub v128_is : varint_of 128 ≡ 0x80 ∷ 0x01 ∷ []
  pub v16384_is : varint_of 16384 ≡ 0x80 ∷ 0x80 ∷ 0x01 ∷ []
  pub largest_is : varint_of (2 ^ 64 - 1) ≡ replicate 9 0xFF ++ (0x01 ∷ [])
  pub not_shortest : read_varint (0x80 ∷ 0x00 ∷ []) ≡ Err 5
  -- id maps: encoding 1, the interval, the count 5; then the restart offsets, then the varints
  pub interval_64 : map_bytes example 1 64 ≡ (1 ∷ 64 ∷ 0 ∷ 5 ∷ 0 ∷ 0 ∷ 0 ∷ []) ++ ((0 ∷ 0 ∷ 0 ∷ 0 ∷ []) ++ (0x64 ∷ 0x05 ∷ 0x03 ∷ 0x0C ∷ 0x50 ∷ []))
  pub interval_2 : map_bytes example 1 2
      ≡ (1 ∷ 2 ∷ 0 ∷ 5 ∷ 0 ∷ 0 ∷ 0 ∷ [])
      ++ ((0 ∷ 0 ∷ 0 ∷ 0 ∷ 2 ∷ 0 ∷ 0 ∷ 0 ∷ 4 ∷ 0 ∷ 0 ∷ 0 ∷ []) ++ (0x64 ∷ 0x05 ∷ 0x6C ∷ 0x0C ∷ 0xC8 ∷ 0x01 ∷ []))
  -- opening: N = 0
  pub nothing_opened : open_answer [] ≡ Refusal 2 (0 ∷ [])
  -- appending, to a buffer that is long enough. An empty batch on an empty file: end 4,224
  pub empty_batch : (old : List ℕ) → 4224 ≤ length old → append_answer old 0 no_bodies [] ≡ Accepted (4224 ∷ 0 ∷ 0 ∷ [])
  -- one 100-byte META body instead: manifest at 192, end 4,416
  pub body_place : (body : List ℕ) → length body ≡ 100 → manifest_at none (bodies_of (one_body body)) ≡ 192
  pub body_batch : (body : List ℕ) → length body ≡ 100 → (old : List ℕ) → 4416 ≤ length old → append_answer old 0 (one_body body) [] ≡ Accepted (4416 ∷ 1 ∷ 1 ∷ [])
  -- an empty batch after it: end 8,704
  pub then_batch : (body : List ℕ) → length body ≡ 100 → (ts : ℕ) → ts < 2 ^ 64 → (old new vs : List ℕ) → Appends old 0 (one_body body) [] ts (Accepted vs) new
      → (old₂ : List ℕ) → 8704 ≤ length old₂ → take 4416 old₂ ≡ take 4416 new → append_answer old₂ 4416 no_bodies [] ≡ Accepted (8704 ∷ 2 ∷ 2 ∷ [])
