-- `compact_and_append` meets its contract: what opening answers behind the append is what the claim says of every list from the fresh file.
use Rattle.std.proofs.Common.{arith, sym, refl, subst, length-take-le}
use Rattle.std.specs.Prelude.{Result}
use Rattle.answers.specs.declared.Refusal.{Refusal}
use Rattle.answers.proofs.HandedOn.{handed_err}
use Rattle.manifest.specs.declared.Opened.{Opened}
use Rattle.claim_uses.specs.anew.Anew.{AnewPromise}
use Rattle.claim_uses.proofs.anew.AnewLaws.{end_inside, way_opened, way_first, way_second}
use Rattle.claim_uses.proofs.anew.compact_and_append.Goals as goal

pub returns-in_err-fresh-clause-answer : goal.returns-in_err-fresh-clause-answer
returns-in_err-fresh-clause-answer c =
    subst (λ (r : Result Opened Refusal). AnewPromise c.args.file.now c.args.buf.now c.args.batch.now c.args.retire.now c.args.timestamp r)
    (sym (handed_err _ _ c.from_residual.ensures.1))
    (way_first c.args.file.now c.args.buf.now _ c.args.batch.now c.args.retire.now c.args.timestamp _ _ refl c.in_err-fresh.ensures.answer c.in_err-fresh.ensures.buf).0

pub returns-in_err-fresh-clause-buf : goal.returns-in_err-fresh-clause-buf
returns-in_err-fresh-clause-buf c = (way_first c.args.file.now c.args.buf.now _ c.args.batch.now c.args.retire.now c.args.timestamp _ _ refl c.in_err-fresh.ensures.answer c.in_err-fresh.ensures.buf).1

pub returns-in_err-appended-clause-answer : goal.returns-in_err-appended-clause-answer
returns-in_err-appended-clause-answer c =
    subst (λ (r : Result Opened Refusal). AnewPromise c.args.file.now c.args.buf.now c.args.batch.now c.args.retire.now c.args.timestamp r)
    (sym (handed_err _ _ c.from_residual-in_err-appended.ensures.1))
    (way_second c.args.file.now c.args.buf.now _ _ c.args.batch.now c.args.retire.now c.args.timestamp _ _ _ _ _ _ refl refl c.in_ok-fresh.ensures.answer c.in_ok-fresh.ensures.buf c.in_err-appended.ensures).0

pub returns-in_err-appended-clause-buf : goal.returns-in_err-appended-clause-buf
returns-in_err-appended-clause-buf c = (way_second c.args.file.now c.args.buf.now _ _ c.args.batch.now c.args.retire.now c.args.timestamp _ _ _ _ _ _ refl refl c.in_ok-fresh.ensures.answer c.in_ok-fresh.ensures.buf c.in_err-appended.ensures).1

pub slice_bounds-open-end : goal.slice_bounds-open-end
slice_bounds-open-end c =
    end_inside c.args.file.now _ _ _ c.args.batch.now c.args.retire.now c.args.timestamp
    c.ranges.timestamp.fits (λ k. omega (arith, c.type_inv.file k)) _ _ _ _ _ _ _ _ refl refl c.in_ok-fresh.ensures.answer c.in_ok-fresh.ensures.buf c.in_ok-appended.ensures

pub slice_bounds-open-end-2 : goal.slice_bounds-open-end-2
slice_bounds-open-end-2 c =
    sym (length-take-le _ _ (end_inside c.args.file.now _ _ _ c.args.batch.now c.args.retire.now c.args.timestamp
    c.ranges.timestamp.fits (λ k. omega (arith, c.type_inv.file k)) _ _ _ _ _ _ _ _ refl refl c.in_ok-fresh.ensures.answer c.in_ok-fresh.ensures.buf c.in_ok-appended.ensures))

pub returns-clause-answer : goal.returns-clause-answer
returns-clause-answer c =
    (way_opened c.args.file.now _ _ _ c.args.batch.now c.args.retire.now c.args.timestamp
    c.ranges.timestamp.fits (λ k. omega (arith, c.type_inv.file k)) _ _ _ _ _ _ _ _ refl refl c.in_ok-fresh.ensures.answer c.in_ok-fresh.ensures.buf c.in_ok-appended.ensures _ c.«open».ensures).0

pub returns-clause-buf : goal.returns-clause-buf
returns-clause-buf c =
    (way_opened c.args.file.now _ _ _ c.args.batch.now c.args.retire.now c.args.timestamp
    c.ranges.timestamp.fits (λ k. omega (arith, c.type_inv.file k)) _ _ _ _ _ _ _ _ refl refl c.in_ok-fresh.ensures.answer c.in_ok-fresh.ensures.buf c.in_ok-appended.ensures _ c.«open».ensures).1
