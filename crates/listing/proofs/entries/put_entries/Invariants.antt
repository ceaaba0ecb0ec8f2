-- How many entries are written.
use Rattle.listing.proofs.entries.Entries.{EntriesAt}
use Rattle.listing.proofs.entries.put_entries.Given as goal

abbrev pub invariant-loop-i : goal.invariant-loop-i
invariant-loop-i l = EntriesAt l.directory.file.now l.initial.text l.text l.at l.directory.manifest.count l.i l.end
