-- `listing::line::put_columns` meets its contract: two numbers, each with the space behind it.
use Rattle.octets.specs.text.Text.{ascii}
use Rattle.octets.proofs.text.Written.{then}
use Rattle.listing.proofs.line.put_columns.Goals as goal

pub returns-clause-text : goal.returns-clause-text
unfolding ascii
returns-clause-text c = then c.put_number-next.ensures.buf c.put_number.ensures.buf
