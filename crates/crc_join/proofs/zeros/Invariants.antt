-- The zero bytes that are left make of the register what all of them make of the first.
use Prim.Native.Nat.{◌*◌, ◌-◌, ◌^◌, ◌<◌}
use mathlib.Core.Path.{◌≡◌}
use Rattle.crc32c.specs.Crc.{poly, bits}
use Rattle.crc_join.proofs.zeros.Given as goal

abbrev pub invariant-loop-power : goal.invariant-loop-power
invariant-loop-power l =
    (l.m < 2 ^ (32 - l.power-index))
    × ((l.x < 2 ^ 32) × (bits poly (8 * (l.m * 2 ^ l.power-index)) l.x ≡ bits poly (8 * l.n) l.c))
