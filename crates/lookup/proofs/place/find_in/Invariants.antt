-- Where the search through the directory stands.
use Rattle.lookup.proofs.place.Find.{FindAt}
use Rattle.lookup.proofs.place.find_in.Given as goal

abbrev pub invariant-loop-i : goal.invariant-loop-i
invariant-loop-i l = FindAt l.directory.file.now l.id l.directory.manifest.count l.i
