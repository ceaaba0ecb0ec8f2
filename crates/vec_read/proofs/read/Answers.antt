use Rattle.std.proofs.Common.{sym, ◌∙◌}
use Rattle.answers.proofs.HandedOn.{handed_on}
use Rattle.vec_read.proofs.Vector.{get_bad, get_missing, get_bounds, get_short, get_read, found_bad, found_place}
use Rattle.vec_read.proofs.read.Goals as goal

pub returns-in_err-found : goal.returns-in_err-found
returns-in_err-found c =
    let b = found_bad _ _ _ (sym c.in_err-found.ensures) in
    let w = get_bad c.args.payload.now c.args.id c.args.buf.now _ b.0 b.1 in
    record { answer = handed_on _ _ c.from_residual.ensures.1 ∙ w.0; buf = w.1 }

pub returns-in_default : goal.returns-in_default
returns-in_default c =
    let k = found_place c.args.payload.now c.args.id _ (sym c.in_ok-found.ensures) in
    let w = get_missing c.args.payload.now c.args.id c.args.buf.now k.0 (k.1 ∙ c.in_default.is) in
    record { answer = w.0; buf = w.1 }

pub read_vector-requires : goal.read_vector-requires
read_vector-requires c =
    let k = found_place c.args.payload.now c.args.id _ (sym c.in_ok-found.ensures) in
    get_bounds c.args.payload.now c.args.id c.args.buf.now k.0 c.in-Some.place (k.1 ∙ c.in-Some.is)

pub returns-in_err-length : goal.returns-in_err-length
returns-in_err-length c =
    let k = found_place c.args.payload.now c.args.id _ (sym c.in_ok-found.ensures) in
    let w = get_short c.args.payload.now c.args.id c.args.buf.now k.0 c.in-Some.place (k.1 ∙ c.in-Some.is) _ _ (sym c.in_err-length.ensures.answer) c.in_err-length.ensures.buf in
    record { answer = handed_on _ _ c.from_residual-in_err-length.ensures.1 ∙ w.0; buf = w.1 }

pub returns : goal.returns
returns c =
    let k = found_place c.args.payload.now c.args.id _ (sym c.in_ok-found.ensures) in
    let w = get_read c.args.payload.now c.args.id c.args.buf.now k.0 c.in-Some.place (k.1 ∙ c.in-Some.is) _ _ (sym c.in_ok-length.ensures.answer) c.in_ok-length.ensures.buf in
    record { answer = w.0; buf = w.1 }
