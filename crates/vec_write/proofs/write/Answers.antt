use Rattle.std.proofs.Common.{◌≡◌, ◌+◌, sym, ◌∙◌, length, arith}
use Rattle.answers.proofs.HandedOn.{handed_on, number_some}
use Rattle.answers.proofs.WriteLaws.{write_bad, write_short, write_done}
use Rattle.octets.proofs.RoundLaws.{round64_lt}
use Rattle.idmap.specs.Encode.{map_bytes}
use Rattle.vecseg.specs.Writer.{vec_bytes}
use Rattle.vecseg.proofs.WriterLaws.{accepted, held_small}
use Rattle.vecseg.proofs.Laid.{payload_size, payload_laid}
use Rattle.vec_write.proofs.write.Goals as goal

pub returns-in_err-map : goal.returns-in_err-map
returns-in_err-map c =
    let w = write_bad (vec_bytes c.args.ids.now c.args.columns.now c.args.dim c.args.dtype c.args.tier c.args.encoding c.args.interval) c.args.buf.now _ _ (sym c.in_err-map.ensures.answer) (number_some _) in
    record { answer = handed_on _ _ c.from_residual.ensures.1 ∙ w.0; buf = w.1 }

pub overflow_add-n : goal.overflow_add-n
overflow_add-n c = omega (arith, round64_lt (length c.args.columns.now + c.size.result + 4))

pub returns-then-buf-n : goal.returns-then-buf-n
returns-then-buf-n c =
    let e = c.in_ok-map.ensures.fields in
    let k : c.size.result ≡ length (map_bytes c.args.ids.now c.args.encoding c.args.interval) = rw (e.0, e.1.0, e.1.1) at c.size.ensures.size in
    let n = payload_size c.args.ids.now c.args.columns.now c.args.dim c.args.dtype c.args.tier c.args.encoding c.args.interval _ _ k c.round_up-n.ensures in
    let w = write_short (vec_bytes c.args.ids.now c.args.columns.now c.args.dim c.args.dtype c.args.tier c.args.encoding c.args.interval) c.args.buf.now _ (sym c.in_ok-map.ensures.answer) (omega arith) in
    record { answer = w.0; buf = w.1 }

pub put_directory-requires : goal.put_directory-requires
put_directory-requires c =
    let g = accepted _ _ _ _ _ _ _ (sym c.in_ok-map.ensures.answer) in
    record { in_bounds = omega arith; dtype_bound = (held_small _ g.held, g.byte) }

pub put_block-requires : goal.put_block-requires
put_block-requires c = record { end_value = omega (arith, c.size.ensures.size); end_in_bounds = omega arith }

pub returns : goal.returns
returns c =
    let e = c.in_ok-map.ensures.fields in
    let k : c.size.result ≡ length (map_bytes c.args.ids.now c.args.encoding c.args.interval) = rw (e.0, e.1.0, e.1.1) at c.size.ensures.size in
    let b = rw (e.0, e.1.0, e.1.1) at c.put_block.ensures in
    let n = payload_size c.args.ids.now c.args.columns.now c.args.dim c.args.dtype c.args.tier c.args.encoding c.args.interval _ _ k c.round_up-n.ensures in
    let w = write_done (vec_bytes c.args.ids.now c.args.columns.now c.args.dim c.args.dtype c.args.tier c.args.encoding c.args.interval) c.args.buf.now _ _ _ (sym c.in_ok-map.ensures.answer) (omega arith) n
    (payload_laid c.args.buf.now _ _ _ _ _ _ _ _ _ _ (omega arith) (omega arith) c.put_directory.ensures b) in
    record { answer = w.0; buf = w.1 }
