-- `listing::text::put_list` meets its contract: the heading, the entries, the manifest and the last line, one right behind the other.
use Rattle.std.proofs.Common.{arith}
use Rattle.octets.specs.text.Text.{ascii}
use Rattle.listing.proofs.text.Whole.{list_room, list_written}
use Rattle.listing.proofs.text.put_list.Goals as goal

pub put_entries-listed-requires : goal.put_entries-listed-requires
put_entries-listed-requires c =
    let d = c.args.directory.now in
    let r = list_room _ _ _ _ _ _ d.bytes d.indexed d.room c.requires.opens_at in
    omega (arith, c.put_bytes-headed.ensures.ends, c.put_bytes-headed.auto.buf, r.1, c.requires.in_bounds)

pub put_segment-last-requires-clause-p_in_bounds : goal.put_segment-last-requires-clause-p_in_bounds
put_segment-last-requires-clause-p_in_bounds c =
    let d = c.args.directory.now in
    (list_room _ _ _ _ _ _ d.bytes d.indexed d.room c.requires.opens_at).0

pub put_segment-last-requires-clause-at_in_bounds : goal.put_segment-last-requires-clause-at_in_bounds
put_segment-last-requires-clause-at_in_bounds c =
    let d = c.args.directory.now in
    let r = list_room _ _ _ _ _ _ d.bytes d.indexed d.room c.requires.opens_at in
    let w = c.put_bytes-headed in
    let x = c.put_entries-listed in
    (omega (arith, w.ensures.ends, w.auto.buf, r.1, x.ensures.bound, x.auto.text, c.requires.in_bounds), omega arith)

pub put_number-ended-requires : goal.put_number-ended-requires
put_number-ended-requires c =
    let d = c.args.directory.now in
    let r = list_room _ _ _ _ _ _ d.bytes d.indexed d.room c.requires.opens_at in
    let w = c.put_bytes-headed in
    let x = c.put_entries-listed in
    let y = c.put_segment-last in
    omega (arith, w.ensures.ends, w.auto.buf, r.1, x.ensures.bound, x.auto.text, y.ensures.bound, y.auto.text, c.requires.in_bounds)

pub put_number-requires : goal.put_number-requires
put_number-requires c =
    let d = c.args.directory.now in
    let r = list_room _ _ _ _ _ _ d.bytes d.indexed d.room c.requires.opens_at in
    let w = c.put_bytes-headed in
    let x = c.put_entries-listed in
    let y = c.put_segment-last in
    let z = c.put_number-ended in
    omega (arith, w.ensures.ends, w.auto.buf, r.1, x.ensures.bound, x.auto.text, y.ensures.bound, y.auto.text, z.ensures.bound, z.auto.buf, c.requires.in_bounds)

pub returns : goal.returns
unfolding ascii
returns c =
    let d = c.args.directory.now in
    list_written _ _ _ _ _ _ d.bytes d.indexed d.room c.requires.opens_at
    c.put_bytes-headed.ensures c.put_entries-listed.ensures.text c.put_segment-last.ensures.text
    c.put_number-ended.ensures.buf c.put_number.ensures.buf
