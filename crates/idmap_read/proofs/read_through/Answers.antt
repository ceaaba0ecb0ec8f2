use Rattle.std.proofs.Common.{sym, ◌∙◌, arith}
use Rattle.answers.proofs.HandedOn.{handed_on}
use Rattle.idmap_read.proofs.ReadLaws.{read_broken, read_short, read_done, front_copied}
use Rattle.idmap_read.proofs.read_through.Goals as goal

pub returns-in_err-n : goal.returns-in_err-n
returns-in_err-n c =
    let w = read_broken c.args.count c.args.s.now c.args.ids.now _ (sym c.in_err-n.ensures.answer) in
    record { answer = handed_on _ _ c.from_residual.ensures.1 ∙ w.0; ids = w.1 }

pub returns-then-ids-count : goal.returns-then-ids-count
returns-then-ids-count c =
    let w = read_short c.args.count c.args.s.now c.args.ids.now _ (sym c.in_ok-n.ensures.answer) (omega arith) in
    record { answer = w.0; ids = w.1 }

pub returns : goal.returns
returns c =
    let w = read_done c.args.count c.args.s.now c.args.ids.now _ (sym c.in_ok-n.ensures.answer) _ _ c.in_ok-n.ensures.ids (omega arith)
    (front_copied c.args.ids.now _ c.decode.new.ids c.args.count c.copy_from_slice.ensures.after (omega arith)) in
    record { answer = w.0; ids = w.1 }
