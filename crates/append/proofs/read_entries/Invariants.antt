-- How many entries are read.
use Rattle.append.proofs.Entries.{ReadAt}
use Rattle.append.proofs.read_entries.Given as goal

abbrev pub invariant-loop-i : goal.invariant-loop-i
invariant-loop-i l = ReadAt l.file l.offsets l.initial.entry_ids l.entry_ids l.initial.kinds l.kinds l.i
