-- Where the loops stand: the ids before this one are read, the last of them prev.
use Rattle.std.proofs.Common.{◌+◌, ◌*◌}
use Rattle.idmap.proofs.DecodeLaws.{RawAt}
use Rattle.idmap_read.proofs.decode.decode_raw.Given as goal

abbrev pub invariant-loop-t : goal.invariant-loop-t
invariant-loop-t l = RawAt l.s l.count (4 * l.t) l.prev l.ids

abbrev pub invariant-loop-k : goal.invariant-loop-k
invariant-loop-k l = RawAt l.s l.count (4 * l.t + l.k) l.prev l.ids

abbrev pub invariant-loop-i : goal.invariant-loop-i
invariant-loop-i l = RawAt l.s l.count l.i l.prev l.ids
