-- The digits that are left, behind the sum, make the product.
use Prim.Native.Nat.{◌-◌}
use mathlib.Core.Path.{◌≡◌}
use Rattle.crc32c.specs.Product.{product, digits}
use Rattle.crc_join.proofs.times.Given as goal

abbrev pub invariant-loop : goal.invariant-loop
invariant-loop l = digits l.k (32 - l.counter) l.left l.sum ≡ product l.x l.k
