use Prim.Native.Nat.{◌<◌}
use mathlib.Core.Path.{◌≡◌, ◌∙◌}
use native.Mathlib.Omega.{arith}
use Rattle.crc32c.proofs.Product.{zeros_one, zeros_none, on_by_lt, room_half}
use Rattle.crc_join.proofs.Join.{zeros_done}
use Rattle.crc_join.proofs.zeros.Goals as goal
use Rattle.crc_join.proofs.zeros.Goals.{then-m-eq1, else-m-eq1}

pub loop-power-preserved : goal.loop-power-preserved
loop-power-preserved c =
    let l = c.loop-power in
    let h : l.power-index < 32 = omega arith in (
      room_half l.m l.power-index h l.invariant.0,
      (
        elim c.if-m-eq1.branch [
          | then-m-eq1 w ↦ rw w.x-is (on_by_lt l.x l.power-index _ h l.invariant.1.0 w.times-x.ensures)
          | else-m-eq1 w ↦ omega arith
        ],
        elim c.if-m-eq1.branch [
          | then-m-eq1 w ↦ rw w.x-is (zeros_one l.x l.m l.power-index _ h l.invariant.1.0 w.if-m-eq1.true w.times-x.ensures ∙ l.invariant.1.1)
          | else-m-eq1 w ↦ zeros_none l.x l.m l.power-index c.if-m-eq1.x w.if-m-eq1.false w.x-is ∙ l.invariant.1.1
        ],
      ),
    )

pub returns-then-m-eq0 : goal.returns-then-m-eq0
returns-then-m-eq0 c = let l = c.loop-power in (zeros_done l.x l.m l.power-index _ _ (omega arith) l.invariant.1.1, l.invariant.1.0)

pub returns-after-loop-power : goal.returns-after-loop-power
returns-after-loop-power c =
    let l = c.loop-power in
    let i : l.power-index ≡ 32 = omega arith in
    let below = rw i at l.invariant.0 in
    (zeros_done l.x l.m l.power-index _ _ (omega arith) l.invariant.1.1, l.invariant.1.0)
