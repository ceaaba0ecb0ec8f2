-- The header, the payload behind it, and zeros behind that.
use Rattle.std.proofs.Common.{length, arith, length-take, length-drop}
use Rattle.octets.proofs.RoundLaws.{round64_ge}
use Rattle.segment.proofs.HeaderLaws.{hash_of}
use Rattle.segment.proofs.write.Laid.{payload_laid, padding_laid, segment_size}
use Rattle.segment.proofs.write.put_segment.Goals as goal

pub copy-requires : goal.copy-requires
copy-requires c =
    let r = round64_ge (length c.args.payload.now) in
    simp (length-take, length-drop) (omega (arith, c.put_header.auto.buf, c.requires.payload_in_bounds))

pub slice_bounds-clear-count : goal.slice_bounds-clear-count
slice_bounds-clear-count c =
    let r = round64_ge (length c.args.payload.now) in
    omega (arith, c.round_up.ensures)

pub slice_bounds-clear-start : goal.slice_bounds-clear-start
slice_bounds-clear-start c =
    let r = round64_ge (length c.args.payload.now) in
    omega (arith, c.round_up.ensures)

pub returns-clause-answer : goal.returns-clause-answer
returns-clause-answer c = segment_size _ _ _ _ _ _ c.round_up.ensures

pub returns-clause-buf : goal.returns-clause-buf
returns-clause-buf c =
    padding_laid _ _ _ _ _ _ c.requires.payload_in_bounds _ _ _ c.round_up.ensures
    (payload_laid _ _ _ _ _ _ c.requires.payload_in_bounds _ _ _ (hash_of _ _ _ c.requires.sum_value c.hash_by-hash.ensures) c.put_header.ensures c.copy.ensures)
    c.clear.ensures
