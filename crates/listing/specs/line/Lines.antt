-- The lister's text, line by line.
-- The laws stand in proofs/line/Lines.antt. Definitions only.
-- Assumes nothing.
use Rattle.std.specs.Prelude.{ℕ, List}
use Rattle.segment.specs.Header.{id_at, kind_at, length_at}
use Rattle.segment.specs.Step.{whole_at}
use Rattle.reading.specs.Listing.{line}

-- the line of the segment whose header begins at p, as the file has its fields
unfoldable pub text_line_at : List ℕ → ℕ → List ℕ → List ℕ
text_line_at f p word =
    line (id_at f p) (kind_at f p) p (length_at f p) word (whole_at f p (length_at f p))
