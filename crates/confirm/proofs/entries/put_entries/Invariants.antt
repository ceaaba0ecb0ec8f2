-- Where the loop stands: the entries before this one are written, and the offsets and states from this one on are left.
use Rattle.std.proofs.Common.{◌≡◌, drop}
use Rattle.confirm.proofs.entries.Laid.{EntriesPut}
use Rattle.confirm.proofs.entries.put_entries.Given as goal

abbrev pub invariant-loop-i : goal.invariant-loop-i
invariant-loop-i l =
    record {
      put : EntriesPut l.fn.buf l.buf l.file l.offsets l.states l.i-iterator.count;
      offsets_left : l.i-iterator.iter.a.rest.now ≡ drop l.i-iterator.count l.offsets;
      states_left : l.i-iterator.iter.b.rest.now ≡ drop l.i-iterator.count l.states;
    }
