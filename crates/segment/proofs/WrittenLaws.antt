-- How long a written header and segment are.
-- Assumes nothing.
use Rattle.std.specs.Prelude.{◌≡◌, refl, List, [], ℕ, ◌+◌, ◌≤◌, ◌-◌, ◌*◌, ◌/◌, ◌%◌, length, replicate}
use Rattle.std.proofs.Common.{ap, length-append, arith}
use Rattle.std.proofs.lemmas.List.{length-replicate}
use Rattle.octets.specs.le.Le.{le_bytes}
use Rattle.segment.specs.Header.{content_hash, size}
use Rattle.segment.specs.Written.{header_of, header, segment, link_of}
use Rattle.octets.specs.Round.{round64, padding}
use Rattle.octets.proofs.RoundLaws.{round64_ge}

-- ---- lengths

pub hash_length : (payload : List ℕ) → length (content_hash payload) ≡ 16
unfolding content_hash le_bytes
hash_length payload = refl

pub header_of_length : (kind flags id timestamp len : ℕ) (hash : List ℕ) → length hash ≡ 16 → length (header_of kind flags id timestamp len hash) ≡ 64
unfolding header_of le_bytes
header_of_length kind flags id timestamp len hash h = simp length-append (omega arith)

pub header_length : (kind flags id timestamp : ℕ) (payload : List ℕ) → length (header kind flags id timestamp payload) ≡ 64
unfolding header
header_length kind flags id timestamp payload = header_of_length kind flags id timestamp (length payload) (content_hash payload) (hash_length payload)

pub padding_length : (payload : List ℕ) → length payload + length (padding (length payload)) ≡ round64 (length payload)
unfolding padding
padding_length payload =
    let q : length payload ≤ round64 (length payload) = round64_ge (length payload) in
    simp length-replicate (omega arith)

pub segment_length : (kind flags id timestamp : ℕ) (payload : List ℕ) → length (segment kind flags id timestamp payload) ≡ 64 + round64 (length payload)
unfolding segment
segment_length kind flags id timestamp payload =
    let p = padding_length payload in
    simp (length-append, header_length) (omega arith)

-- a segment is as long as its link
pub link_length : (at kind flags id timestamp : ℕ) (payload : List ℕ)
    → length (segment kind flags id timestamp payload) ≡ size (link_of at kind flags id timestamp payload)
unfolding size link_of
link_length at kind flags id timestamp payload = segment_length kind flags id timestamp payload

pub link_of_size : (at kind flags id timestamp : ℕ) (payload : List ℕ) → size (link_of at kind flags id timestamp payload) ≡ 64 + round64 (length payload)
unfolding size link_of
link_of_size at kind flags id timestamp payload = refl

-- a payload of a multiple of 64 bytes has no padding
pub padding_none : (payload : List ℕ) → length payload % 64 ≡ 0 → padding (length payload) ≡ []
unfolding padding round64
padding_none payload h =
    let e : (length payload + 63) / 64 * 64 - length payload ≡ 0 = omega arith in
    ap (λ (n : ℕ). replicate n 0) e
