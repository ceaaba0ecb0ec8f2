-- `lookup::place::find_in` meets its contract, by where the search through the directory stands.
use Rattle.std.proofs.Common.{arith, sym, ◌∙◌}
use Rattle.opening.proofs.Indexed.{directory_entry, stands_manifest}
use Rattle.lookup.proofs.place.Find.{find_first, find_last, find_other, find_retired, find_reserved, find_torn, find_whole}
use Rattle.lookup.proofs.place.find_in.Goals as goal

pub loop-i-init : goal.loop-i-init
loop-i-init c = find_first _ _ _

pub loop-i-preserved-then-u64_at-id : goal.loop-i-preserved-then-u64_at-id
loop-i-preserved-then-u64_at-id c =
    let d = c.args.directory.now in
    let a = directory_entry _ _ _ _ d.bytes d.indexed d.room d.within d.opens c.loop-i.i (omega arith) in
    find_other _ _ _ _ (stands_manifest _ _ _ d.within d.opens) _ _ c.loop-i.invariant (omega arith) a _ c.place-p.ensures.place _ c.u64_at.ensures c.if-u64_at-id.true

pub loop-i-preserved : goal.loop-i-preserved
loop-i-preserved c =
    let d = c.args.directory.now in
    let a = directory_entry _ _ _ _ d.bytes d.indexed d.room d.within d.opens c.loop-i.i (omega arith) in
    find_retired _ _ _ _ (stands_manifest _ _ _ d.within d.opens) _ _ c.loop-i.invariant (omega arith) a _ c.place-p.ensures.place (λ z. c.if-state-ne0.true (c.state.ensures ∙ z))

pub returns-then-kind_reserved : goal.returns-then-kind_reserved
returns-then-kind_reserved c =
    let d = c.args.directory.now in
    let a = directory_entry _ _ _ _ d.bytes d.indexed d.room d.within d.opens c.loop-i.i (omega arith) in
    find_reserved _ _ _ _ (stands_manifest _ _ _ d.within d.opens) _ _ c.loop-i.invariant (omega arith) a _ c.place-p.ensures.place _ c.u64_at.ensures c.if-u64_at-id.false
    (sym c.state.ensures ∙ c.if-state-ne0.false) (sym c.kind_reserved.ensures ∙ c.if-kind_reserved.true)

pub returns-then-not-is_whole : goal.returns-then-not-is_whole
returns-then-not-is_whole c =
    let d = c.args.directory.now in
    let a = directory_entry _ _ _ _ d.bytes d.indexed d.room d.within d.opens c.loop-i.i (omega arith) in
    find_torn _ _ _ _ (stands_manifest _ _ _ d.within d.opens) _ _ c.loop-i.invariant (omega arith) a _ c.place-p.ensures.place _ c.u64_at.ensures c.if-u64_at-id.false
    (sym c.state.ensures ∙ c.if-state-ne0.false) (sym c.kind_reserved.ensures ∙ c.if-kind_reserved.false) _ c.u64_at-length.ensures
    (sym c.is_whole.ensures ∙ c.if-not-is_whole.true)

pub returns-in-loop-i : goal.returns-in-loop-i
returns-in-loop-i c =
    let d = c.args.directory.now in
    let a = directory_entry _ _ _ _ d.bytes d.indexed d.room d.within d.opens c.loop-i.i (omega arith) in
    find_whole _ _ _ _ (stands_manifest _ _ _ d.within d.opens) _ _ c.loop-i.invariant (omega arith) a _ c.place-p.ensures.place _ c.u64_at.ensures c.if-u64_at-id.false
    (sym c.state.ensures ∙ c.if-state-ne0.false) (sym c.kind_reserved.ensures ∙ c.if-kind_reserved.false) _ c.u64_at-length.ensures
    (sym c.is_whole.ensures ∙ c.if-not-is_whole.false)

pub returns : goal.returns
returns c =
    let d = c.args.directory.now in
    find_last _ _ _ _ (stands_manifest _ _ _ d.within d.opens) _ c.loop-i.invariant (omega arith)
