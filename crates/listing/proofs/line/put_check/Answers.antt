-- `listing::line::put_check` meets its contract: the word for either case.
use Rattle.octets.specs.text.Text.{ascii}
use Rattle.listing.proofs.line.Lines.{check_ok, check_bad}
use Rattle.listing.proofs.line.put_check.Goals as goal

pub returns-then-whole-clause-text : goal.returns-then-whole-clause-text
unfolding ascii
returns-then-whole-clause-text c = check_ok _ c.if-whole.true c.put_bytes.ensures

pub returns-clause-text : goal.returns-clause-text
unfolding ascii
returns-clause-text c = check_bad _ c.if-whole.false c.put_bytes-2.ensures
