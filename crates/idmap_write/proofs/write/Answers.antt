use Rattle.std.proofs.Common.{◌≡◌, sym, ◌∙◌, length, arith}
use Rattle.answers.proofs.HandedOn.{handed_on, number_some}
use Rattle.answers.proofs.WriteLaws.{write_bad, write_short, write_done}
use Rattle.octets.specs.Over.{over}
use Rattle.idmap.specs.Encode.{map_bytes}
use Rattle.idmap_write.proofs.write.Goals as goal

pub returns-in_err-map : goal.returns-in_err-map
returns-in_err-map c =
    let w = write_bad (map_bytes c.args.ids.now c.args.encoding c.args.interval) c.args.buf.now _ _ (sym c.in_err-map.ensures.answer) (number_some _) in
    record { answer = handed_on _ _ c.from_residual.ensures.1 ∙ w.0; buf = w.1 }

pub returns-then-buf-n : goal.returns-then-buf-n
returns-then-buf-n c =
    let e = c.in_ok-map.ensures.fields in
    let n : c.size-n.result ≡ length (map_bytes c.args.ids.now c.args.encoding c.args.interval) = rw (e.0, e.1.0, e.1.1) at c.size-n.ensures.size in
    let w = write_short (map_bytes c.args.ids.now c.args.encoding c.args.interval) c.args.buf.now _ (sym c.in_ok-map.ensures.answer) (omega (arith, n)) in
    record { answer = w.0; buf = w.1 }

pub returns : goal.returns
returns c =
    let e = c.in_ok-map.ensures.fields in
    let n : c.size-n.result ≡ length (map_bytes c.args.ids.now c.args.encoding c.args.interval) = rw (e.0, e.1.0, e.1.1) at c.size-n.ensures.size in
    let p : c.put.new.buf ≡ over c.args.buf.now 0 (map_bytes c.args.ids.now c.args.encoding c.args.interval) = rw (e.0, e.1.0, e.1.1) at c.put.ensures in
    let w = write_done (map_bytes c.args.ids.now c.args.encoding c.args.interval) c.args.buf.now _ _ c.put.new.buf (sym c.in_ok-map.ensures.answer) (omega (arith, n)) n p in
    record { answer = w.0; buf = w.1 }
