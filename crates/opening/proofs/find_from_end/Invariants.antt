-- Where the search stands: the boundaries above the next one are tried, and the links that are left begin below them.
use Rattle.std.proofs.Common.{◌≡◌, ◌+◌, ◌-◌, ◌*◌, length, take}
use Rattle.segment.proofs.index.Down.{DownAt}
use Rattle.manifest.specs.Payload.{confirmed}
use Rattle.opening.proofs.find_from_end.Given as goal

abbrev pub invariant-loop-tried : goal.invariant-loop-tried
invariant-loop-tried l =
    record {
      left : l.left ≡ take (length l.left) l.offsets;
      search : DownAt confirmed l.file l.offsets (length l.offsets) ((l.boundaries + 1 - l.tried) * 64) (length l.left);
    }
