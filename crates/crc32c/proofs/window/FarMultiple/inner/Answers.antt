use Rattle.std.proofs.Common.{arith}
use Rattle.crc32c.specs.Start.{size_of}
use Rattle.crc32c.proofs.Start.{far_sum}
use Rattle.crc32c.proofs.window.FarMultiple.inner.Goals as goal

pub bounds-w-i : goal.bounds-w-i
unfolding size_of
bounds-w-i c = omega arith

pub bounds-w-i-2 : goal.bounds-w-i-2
unfolding size_of
bounds-w-i-2 c = omega arith

pub returns : goal.returns
returns c = far_sum c.args.w.now c.args.i
