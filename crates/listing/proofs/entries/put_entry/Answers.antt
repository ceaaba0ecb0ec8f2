-- `listing::entries::put_entry` meets its contract: the word for either state.
use Rattle.octets.specs.text.Text.{ascii}
use Rattle.listing.proofs.line.Lines.{state_live, state_retired}
use Rattle.listing.proofs.entries.put_entry.Goals as goal

pub returns-then-state-eq0-clause-text : goal.returns-then-state-eq0-clause-text
unfolding ascii
returns-then-state-eq0-clause-text c = state_live _ _ _ c.if-state-eq0.true c.put_segment.ensures.text

pub returns-clause-text : goal.returns-clause-text
unfolding ascii
returns-clause-text c = state_retired _ _ _ c.if-state-eq0.false c.put_segment-2.ensures.text
