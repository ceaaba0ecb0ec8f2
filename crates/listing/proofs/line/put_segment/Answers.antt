-- `listing::line::put_segment` meets its contract: the fields are read off the header, and the line's pieces written one behind the other.
use Rattle.std.proofs.Common.{refl}
use Rattle.listing.proofs.line.Lines.{line_written}
use Rattle.listing.proofs.line.put_segment.Goals as goal

pub returns-clause-text : goal.returns-clause-text
returns-clause-text c =
    line_written _ _ _ _ _ _ _ c.u64_at.ensures refl c.u64_at-length.ensures c.is_whole.ensures
    c.put_columns-named.ensures.text c.put_columns-placed.ensures.text c.put_bytes-stated.ensures c.put_check.ensures.text
