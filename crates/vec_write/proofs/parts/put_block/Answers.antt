use Rattle.std.proofs.Common.{arith, length-take-le, sym, ◌+◌}
use Rattle.octets.specs.Round.{round64}
use Rattle.octets.proofs.RoundLaws.{round64_ge}
use Rattle.vecseg.proofs.Laid.{padded, map_laid, block_laid}
use Rattle.vec_write.proofs.parts.put_block.Goals as goal

pub overflow_add-summed : goal.overflow_add-summed
overflow_add-summed c = omega (arith, round64_ge (c.args.end + 4), c.requires.end_in_bounds)

pub round_up-filled-requires : goal.round_up-filled-requires
unfolding round64
round_up-filled-requires c = omega (arith, c.requires.end_in_bounds)

pub copy-requires : goal.copy-requires
copy-requires c = omega (arith, round64_ge (c.args.end + 4), c.requires.end_in_bounds, c.requires.end_value)

pub slice_bounds-put-count : goal.slice_bounds-put-count
slice_bounds-put-count c = omega (arith, round64_ge (c.args.end + 4), c.requires.end_in_bounds, c.requires.end_value, c.copy.auto.buf)

pub slice_bounds-put-start : goal.slice_bounds-put-start
slice_bounds-put-start c = omega (arith, round64_ge (c.args.end + 4), c.requires.end_in_bounds, c.requires.end_value, c.copy.auto.buf)

pub put-requires : goal.put-requires
put-requires c = omega (arith, round64_ge (c.args.end + 4), c.requires.end_in_bounds, c.requires.end_value, c.copy.auto.buf)

pub slice_bounds-checksum-end : goal.slice_bounds-checksum-end
slice_bounds-checksum-end c = omega (arith, round64_ge (c.args.end + 4), c.requires.end_in_bounds, c.copy.auto.buf)

pub slice_bounds-checksum-end-2 : goal.slice_bounds-checksum-end-2
slice_bounds-checksum-end-2 c = sym (length-take-le _ _ (omega (arith, round64_ge (c.args.end + 4), c.requires.end_in_bounds, c.copy.auto.buf)))

pub put-requires-2 : goal.put-requires-2
put-requires-2 c = omega (arith, round64_ge (c.args.end + 4), c.requires.end_in_bounds, c.copy.auto.buf)

pub clear_part-requires : goal.clear_part-requires
clear_part-requires c =
    let g = round64_ge (c.args.end + 4) in
    (omega (arith, c.round_up-filled.ensures), omega (arith, c.round_up-filled.ensures, c.requires.end_in_bounds, c.copy.auto.buf, c.put-2.auto.s))

pub returns : goal.returns
returns c =
    block_laid c.args.buf.now _ _ _ _ _ c.requires.end_value c.requires.end_in_bounds
    (map_laid c.args.buf.now c.copy.new.buf c.put.new.buf _ _ _ c.requires.end_value c.requires.end_in_bounds c.copy.ensures c.put.ensures)
    c.checksum-crc.ensures _ _ c.put-2.ensures (padded _ _ _ _ c.round_up-filled.ensures c.clear_part.ensures)
