-- Where the search through the directory stands.
use Rattle.std.specs.Prelude.{◌≡◌, length}
use Rattle.lookup.proofs.in_segment.LocatedLaws.{SegmentsPassed}
use Rattle.lookup.proofs.in_file.find_down.Given as goal

abbrev pub invariant-loop-i : goal.invariant-loop-i
invariant-loop-i l = SegmentsPassed l.directory.file.now l.id l.directory.manifest.count l.i × (length l.scratch ≡ length l.initial.scratch)
