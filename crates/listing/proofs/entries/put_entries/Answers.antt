-- `listing::entries::put_entries` meets its contract, by how many entries are written.
use Rattle.std.proofs.Common.{arith, subst}
use Rattle.std.specs.Prelude.{ℕ}
use Rattle.octets.specs.text.Written.{Written}
use Rattle.reading.specs.Listing.{state_word}
use Rattle.listing.specs.line.Lines.{text_line_at}
use Rattle.opening.proofs.Indexed.{directory_entry, stands_manifest}
use Rattle.listing.proofs.entries.Entries.{entries_first, entries_next, entries_last}
use Rattle.listing.proofs.entries.put_entries.Goals as goal

pub loop-i-init : goal.loop-i-init
loop-i-init c = entries_first _ _ _ _ (omega arith)

pub loop-i-preserved : goal.loop-i-preserved
loop-i-preserved c =
    let d = c.args.directory.now in
    let a = directory_entry _ _ _ _ d.bytes d.indexed d.room d.within d.opens c.loop-i.i (omega arith) in
    entries_next _ _ _ (stands_manifest _ _ _ d.within d.opens) _ _ (omega arith) a _ c.place.ensures.place _ _ _ _ _ _ c.loop-i.invariant
    (subst (λ (s : ℕ). Written c.loop-i.text c.put_entry-end.new.text c.loop-i.end (text_line_at d.file.now c.place.result (state_word s)) c.put_entry-end.result) c.state.ensures c.put_entry-end.ensures.text) c.put_entry-end.ensures.bound

pub returns-clause-text : goal.returns-clause-text
returns-clause-text c =
    let d = c.args.directory.now in
    (entries_last _ _ _ (stands_manifest _ _ _ d.within d.opens) _ _ _ _ _ c.loop-i.invariant (omega arith)).0
