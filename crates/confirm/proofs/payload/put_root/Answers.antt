-- The fields, zeros, and the checksum of both, by a pass over the fields.
use Rattle.std.proofs.Common.{ℕ, ◌+◌, ap, sym, ◌∙◌, arith, length-take-le, bit_xor}
use Rattle.octets.specs.Round.{round64}
use Rattle.manifest.specs.Sized.{record_by}
use Rattle.manifest.specs.Payload.{payload_length}
use Rattle.confirm.proofs.entries.Laid.{fields_laid}
use Rattle.confirm.proofs.payload.Sum.{root_laid}
use Rattle.confirm.proofs.payload.put_root.Goals as goal

pub slice_bounds-checksum-end-2 : goal.slice_bounds-checksum-end-2
slice_bounds-checksum-end-2 c = sym (length-take-le 40 c.clear_part.new.buf (omega arith))

pub returns : goal.returns
unfolding payload_length record_by
returns c =
    let offset = c.args.offset in
    root_laid c.args.c offset c.args.id c.args.buf.now _ _ c.checksum-sum.result _ c.requires.in_bounds
    (fields_laid c.args.buf.now c.args.c offset c.args.id c.requires.in_bounds _ _ _ _ _ _ _ _ _ _ (omega arith)
    (ap (λ (n : ℕ). offset + 64 + n) (c.round_up-size.ensures ∙ ap (λ (n : ℕ). round64 (n + 4096)) c.round_up.ensures))
    c.copy.ensures c.put.ensures c.put-2.ensures c.put-3.ensures c.put-4.ensures c.put-5.ensures
    c.put-6.ensures c.clear_part.ensures)
    (omega arith) c.checksum-sum.ensures
    (ap (λ (x : ℕ). bit_xor x 0xFFFF_FFFF) c.times-crc.ensures) c.put-7.ensures
