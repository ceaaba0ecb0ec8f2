-- A link that is passed is stored; where none follows, or the list is full, the links passed are all that can matter.
use Rattle.std.proofs.Common.{[], sym, ◌∙◌, arith, length-take-le}
use Rattle.segment.proofs.index.Offsets.{collect_first, collect_next, collect_stop, collect_all, not_stored}
use Rattle.segment.proofs.index.collect.Goals as goal

pub loop-n-init : goal.loop-n-init
loop-n-init c = collect_first _ _

pub returns-in_default-clause-answer : goal.returns-in_default-clause-answer
returns-in_default-clause-answer c = (collect_stop _ _ _ _ _ c.loop-n.invariant (sym c.link_at.ensures ∙ c.in_default.is)).0

pub returns-in_default-clause-offsets : goal.returns-in_default-clause-offsets
returns-in_default-clause-offsets c =
    not_stored _ _ _ _ (omega arith) ∙ (collect_stop _ _ _ _ _ c.loop-n.invariant (sym c.link_at.ensures ∙ c.in_default.is)).1

pub loop-n-preserved : goal.loop-n-preserved
loop-n-preserved c =
    let n = length-take-le 1025 c.args.offsets.now c.requires in
    collect_next _ _ _ _ _ c.loop-n.invariant _ (sym c.link_at.ensures ∙ c.in-Some.is) (omega arith) (omega arith)

pub returns-clause-answer : goal.returns-clause-answer
returns-clause-answer c =
    let n = length-take-le 1025 c.args.offsets.now c.requires in
    (collect_all _ _ _ _ _ c.loop-n.invariant [] (omega arith) (omega arith)).0

pub returns-clause-offsets : goal.returns-clause-offsets
returns-clause-offsets c =
    let n = length-take-le 1025 c.args.offsets.now c.requires in
    (collect_all _ _ _ _ _ c.loop-n.invariant _ (omega arith) (omega arith)).1
