-- `compact::copies::put_file` meets its contract: the manifest's payload at its place, the segments, the places of these, the manifest's header.
use Rattle.std.proofs.Common.{arith}
use Rattle.segment.proofs.HeaderLaws.{hash_of}
use Rattle.compact.proofs.copies.PutLaws.{live_count, payload_small, payload_room, copied_length, places_room, back_rooted, written_file}
use Rattle.compact.proofs.copies.put_file.Goals as goal

pub put_payload-len-requires-clause-offsets_in_bounds : goal.put_payload-len-requires-clause-offsets_in_bounds
put_payload-len-requires-clause-offsets_in_bounds c =
    let r = c.requires in (
      payload_room c.args.file.now c.args.offsets.now c.args.buf.now c.args.at c.args.id r.offsets_len_bound.0 r.offsets_len_bound.1 r.at_value.0 r.offsets_in_bounds,
      omega (arith, live_count c.args.file.now c.args.offsets.now c.args.buf.now c.args.at c.args.id r.offsets_len_bound.0 r.offsets_len_bound.1 r.at_value.0 r.offsets_in_bounds),
    )

pub put_places-requires : goal.put_places-requires
put_places-requires c =
    let r = c.requires in
    places_room _ _ _ _ _ r.offsets_len_bound.0 r.offsets_len_bound.1 r.at_value.0 r.offsets_in_bounds _ c.put_payload-len.ensures.buf _ _
    c.copy_segments.ensures.buf c.copy_segments.ensures.offsets

pub overflow_add-end : goal.overflow_add-end
overflow_add-end c =
    let r = c.requires in
    omega (arith, c.put_payload-len.ensures.answer, payload_small c.args.file.now c.args.offsets.now c.args.buf.now c.args.at c.args.id r.offsets_len_bound.0 r.offsets_len_bound.1 r.at_value.0 r.offsets_in_bounds, r.at_value.1)

pub slice_bounds-payload_sum-end : goal.slice_bounds-payload_sum-end
slice_bounds-payload_sum-end c =
    let r = c.requires in
    omega (
      arith,
      c.put_payload-len.ensures.answer,
      r.offsets_in_bounds,
      c.put_places.auto.buf,
      payload_small c.args.file.now c.args.offsets.now c.args.buf.now c.args.at c.args.id r.offsets_len_bound.0 r.offsets_len_bound.1 r.at_value.0 r.offsets_in_bounds,
      copied_length _ _ _ _ _ r.offsets_len_bound.0 r.offsets_len_bound.1 r.at_value.0 r.offsets_in_bounds _ c.put_payload-len.ensures.buf _ _
          c.copy_segments.ensures.buf c.copy_segments.ensures.offsets,
    )

pub payload_sum-requires : goal.payload_sum-requires
payload_sum-requires c =
    let r = c.requires in
    back_rooted _ _ _ _ _ r.offsets_len_bound.0 r.offsets_len_bound.1 r.at_value.0 r.offsets_in_bounds _ c.put_payload-len.ensures.buf _ _
    c.copy_segments.ensures.buf c.copy_segments.ensures.offsets _ c.put_places.ensures _ c.put_payload-len.ensures.answer

pub returns : goal.returns
returns c =
    let r = c.requires in
    written_file _ _ _ _ _ r.offsets_len_bound.0 r.offsets_len_bound.1 r.at_value.0 r.offsets_in_bounds _ c.put_payload-len.ensures.buf _ _
    c.copy_segments.ensures.buf c.copy_segments.ensures.offsets _ c.put_places.ensures _ _ _ _ c.put_payload-len.ensures.answer
    (hash_of _ _ _ c.payload_sum.ensures c.hash_by-hash.ensures) c.put_header.ensures
