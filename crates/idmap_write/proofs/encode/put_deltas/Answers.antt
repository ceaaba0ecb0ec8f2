use Rattle.std.proofs.Common.{◌∙◌, arith}
use Rattle.idmap.proofs.EncodeLaws.{ids_first, ids_above}
use Rattle.idmap_write.proofs.encode.Put.{put_first, put_offs, put_vars, put_behind, put_next, put_last}
use Rattle.idmap_write.proofs.encode.put_deltas.Goals as goal

pub loop-x-init : goal.loop-x-init
loop-x-init c = put_first _ _ _ _ (ids_first _ c.requires.r_nonzero.1)

pub delta-d-requires : goal.delta-d-requires
delta-d-requires c = ids_above _ _ _ _ c.loop-x.invariant.at (omega arith)

pub overflow_sub-pos : goal.overflow_sub-pos
overflow_sub-pos c = omega (arith, put_behind _ _ _ _ _ _ _ _ _ _ c.loop-x.invariant (omega arith) c.requires.start_value c.requires.ids_in_bounds)

pub put_restart-place-requires : goal.put_restart-place-requires
put_restart-place-requires c = put_offs _ _ _ _ _ _ _ _ _ _ c.loop-x.invariant (omega arith) c.requires.start_value c.requires.ids_in_bounds

pub put-pos-requires : goal.put-pos-requires
put-pos-requires c =
    rw c.delta-d.ensures
    (omega (
      arith,
      c.put_restart-place.auto.buf,
      put_vars _ _ _ _ _ _ _ _ _ _ c.loop-x.invariant (omega arith) c.requires.start_value c.requires.ids_in_bounds,
    ))

pub loop-x-preserved : goal.loop-x-preserved
loop-x-preserved c =
    let d = c.delta-d.ensures in
    rw c.left_after-left.ensures
    (put_next _ _ _ _ _ _ _ _ _ _ c.loop-x.invariant (omega arith) c.requires.start_value c.requires.ids_in_bounds _ _ _ _
    c.put_restart-place.ensures.buf c.put_restart-place.ensures.answer (rw d at c.put-pos.ensures.out) (rw d at c.put-pos.ensures.answer)
    (c.put-pos.auto.out ∙ c.put_restart-place.auto.buf))

pub returns : goal.returns
returns c = put_last _ _ _ _ _ _ _ _ _ _ c.loop-x.invariant (omega arith) c.requires.start_value c.requires.ids_in_bounds
