-- `lookup::vector::vector` meets its contract, by what the search has found.
use Rattle.std.proofs.Common.{arith, sym, ap, ◌∙◌}
use Rattle.std.specs.Prelude.{Ok}
use Rattle.answers.proofs.HandedOn.{handed_on}
use Rattle.lookup.proofs.in_segment.LocatedLaws.{not_some}
use Rattle.lookup.proofs.vector.Value.{vector_refused, vector_nowhere, part_room, part_bounds, vector_short, vector_read}
use Rattle.lookup.proofs.vector.vector.Goals as goal

pub returns-in_err-located-clause-answer : goal.returns-in_err-located-clause-answer
returns-in_err-located-clause-answer c =
    handed_on _ _ c.from_residual.ensures.1 ∙ (vector_refused _ _ c.args.buf.now _ (sym c.in_err-located.ensures)).0

pub returns-in_err-located-clause-buf : goal.returns-in_err-located-clause-buf
returns-in_err-located-clause-buf c = (vector_refused _ _ c.args.buf.now _ (sym c.in_err-located.ensures)).1

pub returns-in_default-clause-answer : goal.returns-in_default-clause-answer
returns-in_default-clause-answer c = (vector_nowhere _ _ c.args.buf.now (sym c.in_ok-located.ensures ∙ ap Ok (not_some _ c.in_default.not-Some))).0

pub returns-in_default-clause-buf : goal.returns-in_default-clause-buf
returns-in_default-clause-buf c = (vector_nowhere _ _ c.args.buf.now (sym c.in_ok-located.ensures ∙ ap Ok (not_some _ c.in_default.not-Some))).1

pub overflow_add-end : goal.overflow_add-end
overflow_add-end c = omega (arith, part_room _ _ _ (sym c.in_ok-located.ensures ∙ ap Ok c.in-Some.is), c.well_formed)

pub slice_bounds-read_vector-end : goal.slice_bounds-read_vector-end
slice_bounds-read_vector-end c = omega (arith, part_room _ _ _ (sym c.in_ok-located.ensures ∙ ap Ok c.in-Some.is))

pub read_vector-requires : goal.read_vector-requires
read_vector-requires c = part_bounds _ _ _ (sym c.in_ok-located.ensures ∙ ap Ok c.in-Some.is)

pub returns-in_err-length-clause-answer : goal.returns-in_err-length-clause-answer
returns-in_err-length-clause-answer c =
    handed_on _ _ c.from_residual-in_err-length.ensures.1
    ∙ (vector_short _ _ _ (sym c.in_ok-located.ensures ∙ ap Ok c.in-Some.is) _ _ _ c.in_err-length.ensures.buf (sym c.in_err-length.ensures.answer)).0

pub returns-in_err-length-clause-buf : goal.returns-in_err-length-clause-buf
returns-in_err-length-clause-buf c =
    (vector_short _ _ _ (sym c.in_ok-located.ensures ∙ ap Ok c.in-Some.is) _ _ _ c.in_err-length.ensures.buf (sym c.in_err-length.ensures.answer)).1

pub returns-clause-answer : goal.returns-clause-answer
returns-clause-answer c =
    (vector_read _ _ _ (sym c.in_ok-located.ensures ∙ ap Ok c.in-Some.is) _ _ _ c.in_ok-length.ensures.buf (sym c.in_ok-length.ensures.answer)).0

pub returns-clause-buf : goal.returns-clause-buf
returns-clause-buf c =
    (vector_read _ _ _ (sym c.in_ok-located.ensures ∙ ap Ok c.in-Some.is) _ _ _ c.in_ok-length.ensures.buf (sym c.in_ok-length.ensures.answer)).1
