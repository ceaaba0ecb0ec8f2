-- `listing::list` meets its contract: the text is put together first, then copied where there is room.
use Rattle.std.proofs.Common.{arith}
use Rattle.listing.proofs.text.Whole.{text_short, text_copied}
use Rattle.listing.proofs.list.Goals as goal

pub returns-then-n-buffer-clause-answer : goal.returns-then-n-buffer-clause-answer
returns-then-n-buffer-clause-answer c = (text_short c.put_text-n.ensures c.args.buffer.now (omega arith)).0

pub returns-then-n-buffer-clause-buffer : goal.returns-then-n-buffer-clause-buffer
returns-then-n-buffer-clause-buffer c = (text_short c.put_text-n.ensures c.args.buffer.now (omega arith)).1

pub returns-clause-answer : goal.returns-clause-answer
returns-clause-answer c = (text_copied c.put_text-n.ensures c.args.buffer.now _ (omega arith) c.copy.ensures).0

pub returns-clause-buffer : goal.returns-clause-buffer
returns-clause-buffer c = (text_copied c.put_text-n.ensures c.args.buffer.now _ (omega arith) c.copy.ensures).1
