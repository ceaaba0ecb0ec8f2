-- The record's head, entries, fill, and the root in the part behind them.
use Rattle.manifest.specs.Sized.{record_by}
use Rattle.manifest.specs.Payload.{payload_length}
use Rattle.confirm.proofs.entries.Laid.{head_laid, filled, payload_laid}
use Rattle.confirm.proofs.payload.put_payload.Goals as goal

pub returns-clause-buf : goal.returns-clause-buf
unfolding payload_length record_by
returns-clause-buf c =
    let buf = c.args.buf.now in
    let file = c.args.file.now in
    let offsets = c.args.offsets.now in
    let states = c.args.states.now in
    let offset = c.args.offset in
    let id = c.args.id in
    let inside = c.requires.inside in
    let room = c.requires.offsets_in_bounds.0 in
    payload_laid buf file offsets states offset id inside room _ _ _ c.round_up-filled.ensures
    (filled buf file offsets states offset id inside room _ _ _ _ c.round_up-filled.ensures
    (head_laid buf file offsets states offset id inside room _ _ _ c.put.ensures c.put-2.ensures c.put-3.ensures)
    c.put_entries.ensures c.clear_part.ensures)
    c.put_root.ensures
