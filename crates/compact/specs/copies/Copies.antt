-- The fresh file by the old one and some offsets alone: the segments that stand there, where each comes to stand, and the manifest of them.
-- Definitions only.
-- Assumes nothing.
use Rattle.std.specs.Prelude.{ℕ, ◌+◌, ◌≤◌, ◌<◌, List, [], ◌∷◌, ◌++◌, length, take, drop, get_or, replicate}
use Rattle.octets.specs.Over.{over}
use Rattle.octets.specs.Round.{round64}
use Rattle.octets.specs.le.Le.{le_bytes}
use Rattle.segment.specs.Header.{length_at}
use Rattle.segment.specs.Written.{segment}
use Rattle.manifest.specs.Payload.{manifest_kind, entry_size}
use Rattle.manifest.specs.At.{payload_at}

-- how many bytes the segment at a place takes, as its header says
abbrev pub size_in : List ℕ → ℕ → ℕ
size_in f o = 64 + round64 (length_at f o)

-- at each of some places a segment stands whole in the file
abbrev pub Standing : List ℕ → List ℕ → Type 0
Standing f os = (i : ℕ) → i < length os → get_or os i 0 + size_in f (get_or os i 0) ≤ length f

-- its bytes, header, payload and padding
unfoldable pub copy_at : List ℕ → ℕ → List ℕ
copy_at f o = take (size_in f o) (drop o f)

unfoldable pub copies_at : List ℕ → List ℕ → List ℕ
copies_at f [] = []
copies_at f (o ∷ os) = copy_at f o ++ copies_at f os

-- where each begins, the first at a place
unfoldable pub places_at : List ℕ → ℕ → List ℕ → List ℕ
places_at f at [] = []
places_at f at (o ∷ os) = at ∷ places_at f (at + length (copy_at f o)) os

-- some entries with these places: the first eight bytes of each, from a place of a buffer on
unfoldable pub placed : ℕ → List ℕ → List ℕ → List ℕ
placed base [] s = s
placed base (p ∷ ps) s = placed (base + entry_size) ps (over s base (le_bytes 8 p))

-- the segments, and at a place the manifest of them, all live
unfoldable pub file_at : List ℕ → List ℕ → ℕ → ℕ → ℕ → List ℕ
file_at f os at id timestamp =
    copies_at f os ++ segment manifest_kind 0 id timestamp (payload_at (copies_at f os) (places_at f 0 os) (replicate (length os) 0) at id)
