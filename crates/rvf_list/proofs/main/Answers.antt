-- The length that is answered lies within the buffer.
use Rattle.std.proofs.Common.{sym, arith, length-take-le}
use Rattle.answers.proofs.WriteLaws.{wrote_within}
use Rattle.rvf_list.proofs.main.Goals as goal

pub slice_bounds-text-end : goal.slice_bounds-text-end
slice_bounds-text-end c = let h = wrote_within _ _ _ c.in-Ok.ensures.answer in omega (arith, h, c.list.auto.buffer)

pub slice_bounds-write_all-end : goal.slice_bounds-write_all-end
slice_bounds-write_all-end c =
    let h = wrote_within _ _ _ c.in-Ok.ensures.answer in sym (length-take-le _ _ (omega (arith, h, c.list.auto.buffer)))
