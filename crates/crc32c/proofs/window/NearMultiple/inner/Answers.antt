use Rattle.std.proofs.Common.{arith}
use Rattle.crc32c.specs.Start.{size_of}
use Rattle.crc32c.proofs.Start.{near_sum}
use Rattle.crc32c.proofs.window.NearMultiple.inner.Goals as goal

pub bounds-w-i : goal.bounds-w-i
unfolding size_of
bounds-w-i c = omega arith

pub bounds-w-i-2 : goal.bounds-w-i-2
unfolding size_of
bounds-w-i-2 c = omega arith

pub bounds-w-i-3 : goal.bounds-w-i-3
unfolding size_of
bounds-w-i-3 c = omega arith

pub bounds-w-i-4 : goal.bounds-w-i-4
unfolding size_of
bounds-w-i-4 c = omega arith

pub returns : goal.returns
returns c = near_sum c.args.w.now c.args.i
