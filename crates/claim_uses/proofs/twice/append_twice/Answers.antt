-- `append_twice` meets its contract: what opening answers behind two accepted appends is what the claim about every list of appends says.
use Rattle.std.proofs.Common.{sym, refl, ap, subst, length-take-le, ◌∙◌}
use Rattle.std.specs.Prelude.{Result, Ok}
use Rattle.std.specs.Prelude.{Option as Maybe}
use Rattle.answers.specs.declared.Refusal.{Refusal}
use Rattle.answers.proofs.HandedOn.{handed_err}
use Rattle.claim_uses.specs.declared.twice.Twice.{Twice}
use Rattle.claim_uses.specs.twice.Twice.{TwicePromise}
use Rattle.claim_uses.proofs.twice.TwiceLaws.{end_inside, way_at, way_none, way_long, way_first, way_second}
use Rattle.claim_uses.proofs.twice.append_twice.Goals as goal

pub returns-in_err-one-clause-answer : goal.returns-in_err-one-clause-answer
returns-in_err-one-clause-answer c =
    subst (λ (r : Result (Maybe Twice) Refusal). TwicePromise c.args.buf.now c.args.first.now c.args.second.now c.args.retire.now c.args.timestamp r)
    (sym (handed_err _ _ c.from_residual.ensures.1))
    (way_first c.args.buf.now _ c.args.first.now c.args.second.now c.args.retire.now c.args.timestamp _ _ refl c.in_err-one.ensures).0

pub returns-in_err-one-clause-buf : goal.returns-in_err-one-clause-buf
returns-in_err-one-clause-buf c = (way_first c.args.buf.now _ c.args.first.now c.args.second.now c.args.retire.now c.args.timestamp _ _ refl c.in_err-one.ensures).1

pub returns-in_err-two-clause-answer : goal.returns-in_err-two-clause-answer
returns-in_err-two-clause-answer c =
    subst (λ (r : Result (Maybe Twice) Refusal). TwicePromise c.args.buf.now c.args.first.now c.args.second.now c.args.retire.now c.args.timestamp r)
    (sym (handed_err _ _ c.from_residual-in_err-two.ensures.1))
    (way_second c.args.buf.now _ _ c.args.first.now c.args.second.now c.args.retire.now c.args.timestamp _ _ _ _ _ _ refl refl c.in_ok-one.ensures c.in_err-two.ensures).0

pub returns-in_err-two-clause-buf : goal.returns-in_err-two-clause-buf
returns-in_err-two-clause-buf c = (way_second c.args.buf.now _ _ c.args.first.now c.args.second.now c.args.retire.now c.args.timestamp _ _ _ _ _ _ refl refl c.in_ok-one.ensures c.in_err-two.ensures).1

pub slice_bounds-open-end : goal.slice_bounds-open-end
slice_bounds-open-end c =
    end_inside c.args.buf.now _ _ c.args.first.now c.args.second.now c.args.retire.now c.args.timestamp c.ranges.timestamp.fits _ _ _ _ _ _ _ _ refl refl c.in_ok-one.ensures c.in_ok-two.ensures

pub slice_bounds-open-end-2 : goal.slice_bounds-open-end-2
slice_bounds-open-end-2 c =
    sym (length-take-le _ _ (end_inside c.args.buf.now _ _ c.args.first.now c.args.second.now c.args.retire.now c.args.timestamp c.ranges.timestamp.fits _ _ _ _ _ _ _ _ refl refl c.in_ok-one.ensures c.in_ok-two.ensures))

pub returns-in-Ok-At-clause-answer : goal.returns-in-Ok-At-clause-answer
returns-in-Ok-At-clause-answer c =
    (way_at c.args.buf.now _ _ c.args.first.now c.args.second.now c.args.retire.now c.args.timestamp c.ranges.timestamp.fits _ _ _ _ _ _ _ _ refl refl c.in_ok-one.ensures c.in_ok-two.ensures _ _ _ _ _ (sym c.in-Ok-At.ensures ∙ ap Ok c.in-Ok-At.field-0-is)).0

pub returns-in-Ok-At-clause-buf : goal.returns-in-Ok-At-clause-buf
returns-in-Ok-At-clause-buf c =
    (way_at c.args.buf.now _ _ c.args.first.now c.args.second.now c.args.retire.now c.args.timestamp c.ranges.timestamp.fits _ _ _ _ _ _ _ _ refl refl c.in_ok-one.ensures c.in_ok-two.ensures _ _ _ _ _ (sym c.in-Ok-At.ensures ∙ ap Ok c.in-Ok-At.field-0-is)).1

pub returns-in-Ok-NoManifest-clause-answer : goal.returns-in-Ok-NoManifest-clause-answer
returns-in-Ok-NoManifest-clause-answer c =
    (way_none c.args.buf.now _ _ c.args.first.now c.args.second.now c.args.retire.now c.args.timestamp c.ranges.timestamp.fits _ _ _ _ _ _ _ _ refl refl c.in_ok-one.ensures c.in_ok-two.ensures _ (sym c.in-Ok-NoManifest.ensures ∙ ap Ok c.in-Ok-NoManifest.field-0-is)).0

pub returns-in-Ok-NoManifest-clause-buf : goal.returns-in-Ok-NoManifest-clause-buf
returns-in-Ok-NoManifest-clause-buf c =
    (way_none c.args.buf.now _ _ c.args.first.now c.args.second.now c.args.retire.now c.args.timestamp c.ranges.timestamp.fits _ _ _ _ _ _ _ _ refl refl c.in_ok-one.ensures c.in_ok-two.ensures _ (sym c.in-Ok-NoManifest.ensures ∙ ap Ok c.in-Ok-NoManifest.field-0-is)).1

pub returns-in-Err-clause-answer : goal.returns-in-Err-clause-answer
returns-in-Err-clause-answer c =
    (way_long c.args.buf.now _ _ c.args.first.now c.args.second.now c.args.retire.now c.args.timestamp c.ranges.timestamp.fits _ _ _ _ _ _ _ _ refl refl c.in_ok-one.ensures c.in_ok-two.ensures _ (sym c.in-Err.ensures)).0

pub returns-in-Err-clause-buf : goal.returns-in-Err-clause-buf
returns-in-Err-clause-buf c =
    (way_long c.args.buf.now _ _ c.args.first.now c.args.second.now c.args.retire.now c.args.timestamp c.ranges.timestamp.fits _ _ _ _ _ _ _ _ refl refl c.in_ok-one.ensures c.in_ok-two.ensures _ (sym c.in-Err.ensures)).1
