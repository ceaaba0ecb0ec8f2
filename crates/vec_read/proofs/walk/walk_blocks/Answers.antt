use Rattle.std.proofs.Common.{◌+◌, ◌*◌, ℕ, refl, sym, ap, ◌∙◌, length-take-le, arith}
use Rattle.answers.proofs.HandedOn.{handed_on}
use Rattle.octets.specs.Round.{round64}
use Rattle.octets.proofs.RoundLaws.{round64_ge}
use Rattle.vecseg.specs.Payload.{block_count}
use Rattle.vec_read.proofs.lines.Counts.{count_fits}
use Rattle.vec_read.proofs.walk.WalkLaws.{looked_past, looked_here}
use Rattle.vec_read.proofs.walk.Turn.{walk_first, turn_offset, turn_bounds, turn_bad, turn_inside, turn_holds, turn_next, walk_more, walk_sum, walk_found}
use Rattle.vec_read.proofs.walk.walk_blocks.Goals as goal
use Rattle.vec_read.proofs.walk.walk_blocks.Goals.{in-Some, in_default}

pub loop-i-init : goal.loop-i-init
unfolding block_count
loop-i-init c = (
  walk_first _ c.requires.0 _ _ _ (c.round_up-at.ensures ∙ ap (λ (n : ℕ). round64 (4 + 12 * n)) c.u32_at-blocks.ensures),
  c.u32_at-blocks.ensures,
)

pub returns-then-u32_at-at : goal.returns-then-u32_at-at
returns-then-u32_at-at c = turn_offset _ c.requires.0 _ _ _ _ _ _ _ c.loop-i.invariant.0 (omega arith) (λ e. c.if-u32_at-at.true (c.u32_at.ensures ∙ e))

pub check_block-requires : goal.check_block-requires
check_block-requires c =
    let b = turn_bounds _ c.requires.0 _ _ _ _ _ _ _ c.loop-i.invariant.0 (omega arith) (sym c.u32_at.ensures ∙ c.if-u32_at-at.false) _ _ _ c.u32_at-count.ensures c.u16_at-dim.ensures refl in
    let fits = count_fits _ _ _ c.requires.1 _ (omega arith) _ c.u32_at-count.ensures in
    (b.0, (b.1, (omega arith, b.2)))

pub returns-in_err-n : goal.returns-in_err-n
returns-in_err-n c =
    handed_on _ _ c.from_residual.ensures.1
    ∙ turn_bad _ c.requires.0 _ _ _ _ _ _ _ c.loop-i.invariant.0 (omega arith) (sym c.u32_at.ensures ∙ c.if-u32_at-at.false) _ _ _ c.u32_at-count.ensures c.u16_at-dim.ensures refl _ _ c.in_err-n.ensures _ refl

pub overflow_add-at : goal.overflow_add-at
overflow_add-at c =
    let w = turn_inside _ c.requires.0 _ _ _ _ _ _ _ c.loop-i.invariant.0 (omega arith) (sym c.u32_at.ensures ∙ c.if-u32_at-at.false) _ _ _ c.u32_at-count.ensures c.u16_at-dim.ensures refl _ _ c.in_ok-n.ensures c.in_ok-n.n refl in
    omega (arith, w, round64_ge (c.in_ok-n.n + 4))

pub sum_on-sum-requires : goal.sum_on-sum-requires
sum_on-sum-requires c = (
  c.loop-i.invariant.0.sum,
  turn_holds _ c.requires.0 _ _ _ _ _ _ _ c.loop-i.invariant.0 (omega arith) (sym c.u32_at.ensures ∙ c.if-u32_at-at.false) _ _ _ c.u32_at-count.ensures c.u16_at-dim.ensures refl _ _ c.in_ok-n.ensures _ refl,
)

pub slice_bounds-look-end : goal.slice_bounds-look-end
slice_bounds-look-end c = omega (arith, count_fits _ _ _ c.requires.1 _ (omega arith) _ c.u32_at-count.ensures, c.check_block.auto.scratch)

pub slice_bounds-look-end-in-loop-i : goal.slice_bounds-look-end-in-loop-i
slice_bounds-look-end-in-loop-i c =
    sym (length-take-le _ _ (omega (arith, count_fits _ _ _ c.requires.1 _ (omega arith) _ c.u32_at-count.ensures, c.check_block.auto.scratch)))

pub overflow_add-n : goal.overflow_add-n
overflow_add-n c =
    let w = turn_inside _ c.requires.0 _ _ _ _ _ _ _ c.loop-i.invariant.0 (omega arith) (sym c.u32_at.ensures ∙ c.if-u32_at-at.false) _ _ _ c.u32_at-count.ensures c.u16_at-dim.ensures refl _ _ c.in_ok-n.ensures c.in_ok-n.n refl in
    omega (arith, w, round64_ge (c.in_ok-n.n + 4))

pub round_up-at-requires-in-loop-i : goal.round_up-at-requires-in-loop-i
round_up-at-requires-in-loop-i c =
    let w = turn_inside _ c.requires.0 _ _ _ _ _ _ _ c.loop-i.invariant.0 (omega arith) (sym c.u32_at.ensures ∙ c.if-u32_at-at.false) _ _ _ c.u32_at-count.ensures c.u16_at-dim.ensures refl _ _ c.in_ok-n.ensures c.in_ok-n.n refl in
    omega (arith, w, round64_ge (c.in_ok-n.n + 4))

pub overflow_add-at-in-loop-i : goal.overflow_add-at-in-loop-i
overflow_add-at-in-loop-i c =
    let w = turn_inside _ c.requires.0 _ _ _ _ _ _ _ c.loop-i.invariant.0 (omega arith) (sym c.u32_at.ensures ∙ c.if-u32_at-at.false) _ _ _ c.u32_at-count.ensures c.u16_at-dim.ensures refl _ _ c.in_ok-n.ensures c.in_ok-n.n refl in
    omega (arith, w, c.round_up-at-in-loop-i.ensures)

pub loop-i-preserved : goal.loop-i-preserved
loop-i-preserved c = (
  turn_next _ c.requires.0 _ _ _ _ _ _ _ c.loop-i.invariant.0 (omega arith) (sym c.u32_at.ensures ∙ c.if-u32_at-at.false) _ _ _ c.u32_at-count.ensures c.u16_at-dim.ensures refl _ _ c.in_ok-n.ensures _ refl _ _ _ _
      c.round_up-at-in-loop-i.ensures c.sum_on-sum.ensures
      (elim c.match-look.branch [
        | in-Some w ↦ w.kept-is ∙ looked_here _ _ _ _ _ _ _ (sym c.look.ensures ∙ w.in-Some.is)
        | in_default w ↦ w.kept-is ∙ looked_past _ _ _ _ _ _ (sym c.look.ensures ∙ w.in_default.is)
      ]),
  c.loop-i.invariant.1,
)

pub returns-then-s-at : goal.returns-then-s-at
returns-then-s-at c = walk_more _ c.requires.0 _ _ _ _ _ _ _ c.loop-i.invariant.0 (omega arith) c.if-s-at.true

pub sum_all-requires : goal.sum_all-requires
sum_all-requires c = walk_sum _ c.requires.0 _ _ _ _ _ _ _ c.loop-i.invariant.0 (omega arith) c.if-s-at.false

pub returns : goal.returns
returns c = walk_found _ c.requires.0 _ _ _ _ _ _ _ c.loop-i.invariant.0 (omega arith) c.if-s-at.false _ c.sum_all.ensures
