-- What is left of the slice makes of the window's register what all of it makes of the first.
use Rattle.std.proofs.Common.{◌≡◌, drop}
use Rattle.crc32c.specs.Crc.{crc_from}
use Rattle.crc32c.specs.Window.{held}
use Rattle.crc32c.specs.Start.{reach_of}
use Rattle.crc32c.proofs.window.run.Given as goal

abbrev pub invariant-loop-i : goal.invariant-loop-i
invariant-loop-i g l =
    crc_from (held (reach_of g.M.Multiple.is_far) l.w l.i) (drop l.i l.s)
    ≡ crc_from (held (reach_of g.M.Multiple.is_far) l.initial.w 0) l.s
