-- Each turn writes the entry of the next pair, right behind those before it.
use Rattle.confirm.proofs.entries.Laid.{entries_first, entries_next, next_left}
use Rattle.confirm.proofs.entries.put_entries.Goals as goal

pub loop-i-init : goal.loop-i-init
loop-i-init c =
    rw (c.into_iter-i-iterator.ensures.into_iter_gives, c.enumerate-i-items.ensures.count)
    (record { put = entries_first _ _ _ _; offsets_left = cc; states_left = cc })

pub loop-i-preserved : goal.loop-i-preserved
loop-i-preserved c =
    let s = c.in-Some.ensures.steps in
    let v = c.loop-i.invariant in
    let a = next_left c.args.offsets.now _ _ c.loop-i.i-iterator.count c.in-Some.offset.now v.offsets_left s.0.0 in
    let b = next_left c.args.states.now _ _ c.loop-i.i-iterator.count c.in-Some.state.now v.states_left s.0.1 in
    rw s.2
    (record {
      put = entries_next _ _ _ _ _ _ _ v.put a.0 c.requires.inside c.requires.offsets_in_bounds.0 (rw (s.1, a.1.0, b.1.0) at c.put_entry.ensures) c.put_entry.auto.buf;
      offsets_left = a.1.1;
      states_left = b.1.1;
    })
