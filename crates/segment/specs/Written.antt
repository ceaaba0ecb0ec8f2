-- What is written for a segment: the header, the payload, zeros to a multiple of 64; and the link that it is.
-- Assumes nothing.
use Rattle.std.specs.Prelude.{List, [], ◌∷◌, ◌++◌, ℕ, length, replicate}
use Rattle.octets.specs.Round.{padding}
use Rattle.octets.specs.le.Le.{le_bytes}
use Rattle.segment.specs.Header.{magic, content_hash, Link}

-- a header with a payload's length and its hash
unfoldable pub header_of : ℕ → ℕ → ℕ → ℕ → ℕ → List ℕ → List ℕ
header_of kind flags id timestamp len hash =
    magic ++ (1 ∷ kind ∷ []) ++ le_bytes 2 flags ++ le_bytes 8 id ++ le_bytes 8 len ++ le_bytes 8 timestamp ++ replicate 8 0 ++ hash ++ replicate 8 0

unfoldable pub header : ℕ → ℕ → ℕ → ℕ → List ℕ → List ℕ
header kind flags id timestamp payload = header_of kind flags id timestamp (length payload) (content_hash payload)

-- 'Every segment is padded, the last too'
unfoldable pub segment : ℕ → ℕ → ℕ → ℕ → List ℕ → List ℕ
segment kind flags id timestamp payload = header kind flags id timestamp payload ++ payload ++ padding (length payload)

-- the link that a segment written at a place is
unfoldable pub link_of : ℕ → ℕ → ℕ → ℕ → ℕ → List ℕ → Link
link_of at kind flags id timestamp payload =
    record { offset = at; id = id; kind = kind; flags = flags; timestamp = timestamp; hash = content_hash payload; payload = payload }
