-- What is left of the slice makes of the window's register what all of it makes of the first.
use Rattle.std.proofs.Common.{◌≡◌}
use Rattle.crc32c.specs.Crc.{crc_from}
use Rattle.crc32c.specs.Window.{held}
use Rattle.crc32c.specs.Start.{reach_of}
use Rattle.crc32c.proofs.Chunks.{Left}
use Rattle.crc32c.proofs.window.take_in.Given as goal

abbrev pub invariant-loop-part : goal.invariant-loop-part
invariant-loop-part g l = record {
  left : Left l.s l.part-iterator.rest.now 8192;
  chunk : l.part-iterator.size ≡ 8192;
  same : crc_from (held (reach_of g.M.Multiple.is_far) l.w 0) l.part-iterator.rest.now
      ≡ crc_from (held (reach_of g.M.Multiple.is_far) l.initial.w 0) l.s;
}
