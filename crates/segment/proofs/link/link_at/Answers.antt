-- The ways out: no room for a header or for what it says, an unsound header, padding that is not zero; or the link.
use Rattle.std.proofs.Common.{sym, ◌∙◌, arith}
use Rattle.octets.proofs.RoundLaws.{round64_ge}
use Rattle.segment.proofs.StepLaws.{step_short, step_cut, step_unsound, step_padding, step_sound}
use Rattle.segment.proofs.link.link_at.Goals as goal
use Rattle.segment.proofs.link.link_at.Goals.{then-room-padded-via-then-room-padded, then-room-padded-via-else-room-padded+then-not-header_sound}

pub returns-in_err-left : goal.returns-in_err-left
returns-in_err-left c = c.from_residual.ensures ∙ step_short _ _ _ (omega (arith, c.in_err-left.ensures))

pub returns-in_err-room : goal.returns-in_err-room
returns-in_err-room c = c.from_residual-in_err-room.ensures ∙ step_short _ _ _ (omega (arith, c.in_err-room.ensures))

pub returns-then-declared-room : goal.returns-then-declared-room
returns-then-declared-room c =
    let r = round64_ge c.u64_at-declared.result in
    step_cut _ _ _ _ c.u64_at-declared.ensures (omega arith) (omega arith)

pub returns-then-room-padded : goal.returns-then-room-padded
returns-then-room-padded c =
    elim c.then-room-padded.branch [
      | then-room-padded-via-then-room-padded w ↦ step_cut _ _ _ _ c.u64_at-declared.ensures (omega arith) (omega (arith, c.round_up-padded.ensures))
      | then-room-padded-via-else-room-padded+then-not-header_sound w ↦
          step_unsound _ _ _ _ _ c.u64_at-declared.ensures c.round_up-padded.ensures (omega arith)
          (sym w.header_sound.ensures ∙ w.if-not-header_sound.true)
    ]

pub slice_bounds-is_zero-count : goal.slice_bounds-is_zero-count
slice_bounds-is_zero-count c =
    let r = round64_ge c.u64_at-declared.result in
    omega (arith, c.round_up-padded.ensures)

pub slice_bounds-is_zero-start : goal.slice_bounds-is_zero-start
slice_bounds-is_zero-start c =
    let r = round64_ge c.u64_at-declared.result in
    omega (arith, c.round_up-padded.ensures)

pub returns-then-not-is_zero : goal.returns-then-not-is_zero
returns-then-not-is_zero c =
    step_padding _ _ _ _ _ c.u64_at-declared.ensures c.round_up-padded.ensures (omega arith)
    (sym c.header_sound.ensures ∙ c.if-not-header_sound.false) (sym c.is_zero.ensures ∙ c.if-not-is_zero.true)

pub returns : goal.returns
returns c =
    step_sound _ _ _ _ _ c.u64_at-declared.ensures c.round_up-padded.ensures (omega arith)
    (sym c.header_sound.ensures ∙ c.if-not-header_sound.false)
    (sym c.is_zero.ensures ∙ c.if-not-is_zero.false) _ _ c.u64_at.ensures
    c.u16_at.ensures
