-- `append::bodies::put_bodies` meets its contract, by where the loop over the bodies stands.
use Rattle.std.proofs.Common.{arith, sym, ap, ◌∙◌}
use Rattle.std.specs.Prelude.{ℕ, ◌+◌, ◌-◌, List, length, drop}
use Rattle.std.proofs.Common.{length-take, length-drop}
use Rattle.octets.proofs.Parts.{back}
use Rattle.octets.specs.Round.{round64}
use Rattle.crc32c.specs.Crc.{crc_of}
use Rattle.batch.specs.Lines.{no_body}
use Rattle.batch.proofs.Lines.{bodies_count}
use Rattle.append.proofs.bodies.Bodies.{put_first, put_room, put_next, put_last}
use Rattle.append.proofs.bodies.Laid.{body_written}
use Rattle.append.proofs.vectors.Vectors.{sum_at}
use Rattle.append.proofs.bodies.put_bodies.Goals as goal

pub loop-j-init : goal.loop-j-init
loop-j-init c = put_first _ _ _ _ _ _ _

pub slice_bounds-put_segment-count : goal.slice_bounds-put_segment-count
slice_bounds-put_segment-count c =
    omega (arith, put_room _ _ _ _ _ _ _ _ _ _ _ c.loop-j.invariant (omega (arith, c.count-j-end.ensures.count, bodies_count c.args.batch.now.bytes.now)) no_body c.requires.in_bounds)

pub slice_bounds-put_segment-start : goal.slice_bounds-put_segment-start
slice_bounds-put_segment-start c =
    omega (arith, put_room _ _ _ _ _ _ _ _ _ _ _ c.loop-j.invariant (omega (arith, c.count-j-end.ensures.count, bodies_count c.args.batch.now.bytes.now)) no_body c.requires.in_bounds)

pub bounds-sums-j : goal.bounds-sums-j
bounds-sums-j c = (sum_at _ _ _ (bodies_count c.args.batch.now.bytes.now) c.requires.sums_value c.loop-j.j (omega (arith, c.count-j-end.ensures.count))).0

pub put_segment-at-requires-clause-payload_in_bounds : goal.put_segment-at-requires-clause-payload_in_bounds
put_segment-at-requires-clause-payload_in_bounds c =
    let r = put_room _ _ _ _ _ _ _ _ _ _ _ c.loop-j.invariant (omega (arith, c.count-j-end.ensures.count, bodies_count c.args.batch.now.bytes.now)) no_body c.requires.in_bounds in
    omega (arith, r, ap (λ (x : List ℕ). round64 (length x)) c.body-body.ensures.bytes, length-take (length c.loop-j.buf - c.loop-j.at) (drop c.loop-j.at c.loop-j.buf), length-drop c.loop-j.at c.loop-j.buf)

pub put_segment-at-requires-clause-sum_value : goal.put_segment-at-requires-clause-sum_value
put_segment-at-requires-clause-sum_value c =
    (sum_at _ _ _ (bodies_count c.args.batch.now.bytes.now) c.requires.sums_value c.loop-j.j (omega (arith, c.count-j-end.ensures.count))).1
    ∙ ap crc_of (sym c.body-body.ensures.bytes)

pub overflow_add-at : goal.overflow_add-at
overflow_add-at c =
    let r = put_room _ _ _ _ _ _ _ _ _ _ _ c.loop-j.invariant (omega (arith, c.count-j-end.ensures.count, bodies_count c.args.batch.now.bytes.now)) no_body c.requires.in_bounds in
    let w = body_written _ _ _ _ c.kind.ensures c.flags.ensures c.body-body.ensures.bytes (c.args.first_id + c.loop-j.j) c.args.timestamp in
    omega (arith, r, c.put_segment-at.ensures.answer, w.1, c.loop-j.invariant.same_length, c.well_formed)

pub loop-j-preserved : goal.loop-j-preserved
loop-j-preserved c =
    let n = bodies_count c.args.batch.now.bytes.now in
    let m = c.count-j-end.ensures.count in
    let r = put_room _ _ _ _ _ _ _ _ _ _ _ c.loop-j.invariant (omega (arith, c.count-j-end.ensures.count, bodies_count c.args.batch.now.bytes.now)) no_body c.requires.in_bounds in
    let w = body_written _ _ _ _ c.kind.ensures c.flags.ensures c.body-body.ensures.bytes (c.args.first_id + c.loop-j.j) c.args.timestamp in
    put_next _ _ _ _ _ _ _ _ _ _ _ c.loop-j.invariant (omega (arith, c.count-j-end.ensures.count, bodies_count c.args.batch.now.bytes.now)) no_body c.requires.in_bounds _ _ _
    w.0 c.put_segment-at.ensures.answer (back _ _ _ _ c.put_segment-at.ensures.buf (omega (arith, r, w.1)))
    (omega (arith, n, c.requires.batch_bound.1))

pub returns-clause-buf : goal.returns-clause-buf
returns-clause-buf c = (put_last _ _ _ _ _ _ _ _ _ _ _ c.loop-j.invariant (omega (arith, c.count-j-end.ensures.count, bodies_count c.args.batch.now.bytes.now))).0

pub returns-clause-offsets : goal.returns-clause-offsets
returns-clause-offsets c = (put_last _ _ _ _ _ _ _ _ _ _ _ c.loop-j.invariant (omega (arith, c.count-j-end.ensures.count, bodies_count c.args.batch.now.bytes.now))).1
