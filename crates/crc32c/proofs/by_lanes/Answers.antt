-- The register is the one that the definition has, and it has 32 bits.
use Prim.Native.Nat.{◌<◌, ◌^◌}
use mathlib.Core.Path.{◌≡◌, ◌∙◌}
use native.Mathlib.Omega.{arith}
use Rattle.std.proofs.lemmas.Nat.{xor_lt}
use Rattle.crc32c.specs.Crc.{crc_from}
use Rattle.crc32c.proofs.Words.{crc_from_lt}
use Rattle.crc32c.proofs.by_lanes.Goals as goal

pub overflow_cast-result : goal.overflow_cast-result
overflow_cast-result c =
    let a = c.args in
    let e : c.rest.result ≡ crc_from a.c a.s.now = c.rest.ensures ∙ c.lanes-register.ensures in
    let h : c.rest.result < 2 ^ 32 = omega (arith, e, crc_from_lt a.c a.s.now (omega arith) (λ k. omega (arith, c.type_inv.s k))) in
    omega (arith, xor_lt 32 c.rest.result 0xFFFF_FFFF h (omega arith))
