-- Where the loops stand: between groups, and in one.
use Rattle.std.proofs.Common.{◌+◌}
use Rattle.idmap_read.proofs.delta.Next.{StartAt, GroupAt}
use Rattle.idmap_read.proofs.delta.decode_delta.Given as goal

abbrev pub invariant-loop-g : goal.invariant-loop-g
invariant-loop-g l = StartAt l.s l.count l.r l.start l.prev l.pos l.g l.ids

abbrev pub invariant-loop-i : goal.invariant-loop-i
invariant-loop-i l = GroupAt l.s l.count l.r l.start l.i l.prev l.pos (l.g + 1) l.stop l.ids
