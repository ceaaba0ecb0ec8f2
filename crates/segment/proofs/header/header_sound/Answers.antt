-- Each test is asked where all before it hold, so the value at a join is that of the tests up to it.
use Rattle.std.proofs.Common.{◌≡◌, ◌&&◌, eqb, leb, take, drop, get_or, sym, ap, ◌∙◌}
use Rattle.octets.specs.Zero.{all_zero, same_bytes}
use Rattle.segment.specs.Header.{magic, type_held, flags_held, kind_in, flags_in}
use Rattle.segment.specs.Step.{least_id}
use Rattle.segment.proofs.HeaderLaws.{asked, not_asked, head_asked}
use Rattle.segment.proofs.header.header_sound.Goals as goal
use Rattle.segment.proofs.header.header_sound.Goals.{then-same, else-same, then-h-eq1, else-h-eq1, then-kind_held, else-kind_held}
use Rattle.segment.proofs.header.header_sound.Goals.{then-flags_held, else-flags_held, then-h-eq0, else-h-eq0, then-is_zero, else-is_zero}

pub returns-then-is_zero-2 : goal.returns-then-is_zero-2
returns-then-is_zero-2 c =
    let h = c.args.h.now in
    let e₂ : c.if-same.value ≡ same_bytes (take 4 h) magic && eqb (get_or h 0x04 0) 1 =
    elim c.if-same.branch [ then-same w ↦ asked (sym c.same.ensures ∙ w.if-same.true) w.value-is | else-same w ↦ not_asked _ (sym c.same.ensures ∙ w.if-same.false) (w.value-is ∙ c.same.ensures) ] in
    let e₃ : c.if-h-eq1.value ≡ c.if-same.value && type_held (kind_in h) =
    elim c.if-h-eq1.branch [ then-h-eq1 w ↦ asked w.if-h-eq1.true (w.value-is ∙ w.kind_held.ensures) | else-h-eq1 w ↦ not_asked _ w.if-h-eq1.false w.value-is ] in
    let e₄ : c.if-kind_held.value ≡ c.if-h-eq1.value && flags_held (flags_in h) =
    elim c.if-kind_held.branch [
      | then-kind_held w ↦ asked w.if-kind_held.true (w.value-is ∙ w.flags_held.ensures ∙ ap flags_held w.u16_at.ensures)
      | else-kind_held w ↦ not_asked _ w.if-kind_held.false w.value-is
    ] in
    let e₅ : c.if-flags_held.value ≡ c.if-kind_held.value && eqb (get_or h 0x20 0) 0 =
    elim c.if-flags_held.branch [ then-flags_held w ↦ asked w.if-flags_held.true w.value-is | else-flags_held w ↦ not_asked _ w.if-flags_held.false w.value-is ] in
    let e₆ : c.if-h-eq0.value ≡ c.if-flags_held.value && all_zero (take 7 (drop 0x21 h)) =
    elim c.if-h-eq0.branch [ then-h-eq0 w ↦ asked w.if-h-eq0.true (w.value-is ∙ w.is_zero.ensures) | else-h-eq0 w ↦ not_asked _ w.if-h-eq0.false w.value-is ] in
    let e₇ : c.if-is_zero.value ≡ c.if-h-eq0.value && all_zero (take 8 (drop 0x38 h)) =
    elim c.if-is_zero.branch [ then-is_zero w ↦ asked w.if-is_zero.true (w.value-is ∙ w.is_zero-then-is_zero.ensures) | else-is_zero w ↦ not_asked _ w.if-is_zero.false w.value-is ] in
    c.follows.ensures ∙ ap (leb (least_id c.args.prev)) c.u64_at.ensures
    ∙ sym (head_asked (least_id c.args.prev) h _ _ _ _ _ _ e₂ e₃ e₄ e₅ e₆ e₇ ∙ rw c.if-is_zero-2.true)

pub returns-else-is_zero-2 : goal.returns-else-is_zero-2
returns-else-is_zero-2 c =
    let h = c.args.h.now in
    let e₂ : c.if-same.value ≡ same_bytes (take 4 h) magic && eqb (get_or h 0x04 0) 1 =
    elim c.if-same.branch [ then-same w ↦ asked (sym c.same.ensures ∙ w.if-same.true) w.value-is | else-same w ↦ not_asked _ (sym c.same.ensures ∙ w.if-same.false) (w.value-is ∙ c.same.ensures) ] in
    let e₃ : c.if-h-eq1.value ≡ c.if-same.value && type_held (kind_in h) =
    elim c.if-h-eq1.branch [ then-h-eq1 w ↦ asked w.if-h-eq1.true (w.value-is ∙ w.kind_held.ensures) | else-h-eq1 w ↦ not_asked _ w.if-h-eq1.false w.value-is ] in
    let e₄ : c.if-kind_held.value ≡ c.if-h-eq1.value && flags_held (flags_in h) =
    elim c.if-kind_held.branch [
      | then-kind_held w ↦ asked w.if-kind_held.true (w.value-is ∙ w.flags_held.ensures ∙ ap flags_held w.u16_at.ensures)
      | else-kind_held w ↦ not_asked _ w.if-kind_held.false w.value-is
    ] in
    let e₅ : c.if-flags_held.value ≡ c.if-kind_held.value && eqb (get_or h 0x20 0) 0 =
    elim c.if-flags_held.branch [ then-flags_held w ↦ asked w.if-flags_held.true w.value-is | else-flags_held w ↦ not_asked _ w.if-flags_held.false w.value-is ] in
    let e₆ : c.if-h-eq0.value ≡ c.if-flags_held.value && all_zero (take 7 (drop 0x21 h)) =
    elim c.if-h-eq0.branch [ then-h-eq0 w ↦ asked w.if-h-eq0.true (w.value-is ∙ w.is_zero.ensures) | else-h-eq0 w ↦ not_asked _ w.if-h-eq0.false w.value-is ] in
    let e₇ : c.if-is_zero.value ≡ c.if-h-eq0.value && all_zero (take 8 (drop 0x38 h)) =
    elim c.if-is_zero.branch [ then-is_zero w ↦ asked w.if-is_zero.true (w.value-is ∙ w.is_zero-then-is_zero.ensures) | else-is_zero w ↦ not_asked _ w.if-is_zero.false w.value-is ] in
    c.if-is_zero-2.false ∙ sym (head_asked (least_id c.args.prev) h _ _ _ _ _ _ e₂ e₃ e₄ e₅ e₆ e₇ ∙ rw c.if-is_zero-2.false)
