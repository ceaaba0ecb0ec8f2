-- `compact::copies::copy_segments` meets its contract, by where the loop over the offsets stands.
use Rattle.std.proofs.Common.{arith, ap, ◌∙◌}
use Rattle.std.specs.Prelude.{ℕ, ◌+◌}
use Rattle.octets.specs.Round.{round64}
use Rattle.octets.proofs.RoundLaws.{round64_ge}
use Rattle.compact.proofs.copies.CopyLaws.{copy_first, copy_inside, copy_room, copy_next, copy_last}
use Rattle.compact.proofs.copies.copy_segments.Goals as goal

pub loop-offset-init : goal.loop-offset-init
loop-offset-init c = copy_first _ _ _

pub overflow_add-p : goal.overflow_add-p
overflow_add-p c = omega (arith, copy_inside _ _ _ _ _ _ _ c.loop-offset.invariant (omega (arith, c.loop-offset.invariant.many)) c.requires.standing c.requires.offsets_in_bounds, c.well_formed)

pub u64_at-length-requires : goal.u64_at-length-requires
u64_at-length-requires c = omega (arith, copy_inside _ _ _ _ _ _ _ c.loop-offset.invariant (omega (arith, c.loop-offset.invariant.many)) c.requires.standing c.requires.offsets_in_bounds)

pub round_up-size-requires : goal.round_up-size-requires
round_up-size-requires c = omega (arith, copy_inside _ _ _ _ _ _ _ c.loop-offset.invariant (omega (arith, c.loop-offset.invariant.many)) c.requires.standing c.requires.offsets_in_bounds, c.u64_at-length.ensures, round64_ge c.u64_at-length.result, ap round64 c.u64_at-length.ensures, c.well_formed)

pub overflow_add-size : goal.overflow_add-size
overflow_add-size c =
    let s = ap (λ (n : ℕ). 64 + n) (c.round_up-size.ensures ∙ ap round64 c.u64_at-length.ensures) in
    omega (arith, copy_inside _ _ _ _ _ _ _ c.loop-offset.invariant (omega (arith, c.loop-offset.invariant.many)) c.requires.standing c.requires.offsets_in_bounds, s, c.well_formed)

pub copy_at-requires : goal.copy_at-requires
copy_at-requires c =
    let s = ap (λ (n : ℕ). 64 + n) (c.round_up-size.ensures ∙ ap round64 c.u64_at-length.ensures) in
    (omega (arith, copy_room _ _ _ _ _ _ _ c.loop-offset.invariant (omega (arith, c.loop-offset.invariant.many)) c.requires.standing c.requires.offsets_in_bounds, s), omega (arith, copy_inside _ _ _ _ _ _ _ c.loop-offset.invariant (omega (arith, c.loop-offset.invariant.many)) c.requires.standing c.requires.offsets_in_bounds, s))

pub overflow_add-at : goal.overflow_add-at
overflow_add-at c =
    let s = ap (λ (n : ℕ). 64 + n) (c.round_up-size.ensures ∙ ap round64 c.u64_at-length.ensures) in
    omega (arith, copy_room _ _ _ _ _ _ _ c.loop-offset.invariant (omega (arith, c.loop-offset.invariant.many)) c.requires.standing c.requires.offsets_in_bounds, s, c.loop-offset.invariant.same_length, c.well_formed)

pub loop-offset-preserved : goal.loop-offset-preserved
loop-offset-preserved c =
    copy_next _ _ _ _ _ _ _ c.loop-offset.invariant (omega (arith, c.loop-offset.invariant.many)) c.requires.standing c.requires.offsets_in_bounds _ _
    (ap (λ (n : ℕ). 64 + n) (c.round_up-size.ensures ∙ ap round64 c.u64_at-length.ensures)) c.copy_at.ensures

pub returns-clause-offsets : goal.returns-clause-offsets
returns-clause-offsets c = (copy_last _ _ _ _ _ _ _ c.loop-offset.invariant (omega (arith, c.loop-offset.invariant.many))).1

pub returns-clause-buf : goal.returns-clause-buf
returns-clause-buf c = (copy_last _ _ _ _ _ _ _ c.loop-offset.invariant (omega (arith, c.loop-offset.invariant.many))).0
