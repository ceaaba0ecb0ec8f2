-- The invariant: the steps that are left make of the register what all of them make of the first.
use Rattle.std.proofs.Common.{◌≡◌, ◌-◌}
use Rattle.crc32c.specs.Crc.{bits}
use Rattle.crc32c.proofs.steps.Given as goal

abbrev pub invariant-loop : goal.invariant-loop
invariant-loop l = bits l.p (l.k - l.counter) l.register ≡ bits l.p l.k l.x
