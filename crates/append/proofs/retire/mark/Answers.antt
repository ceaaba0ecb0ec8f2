-- `append::retire::mark` meets its contract, by where its loop stands.
use Rattle.std.proofs.Common.{ap, arith, sym, ◌∙◌}
use Rattle.append.specs.retire.Marks.{retire_number}
use Rattle.octets.proofs.numbers.NumbersLaws.{index_within, was_place, was_nowhere}
use Rattle.append.proofs.retire.Turn.{mark_first, mark_last, mark_states, mark_nowhere, mark_manifest, mark_retired, mark_next}
use Rattle.append.proofs.retire.mark.Goals as goal

pub loop-id-init : goal.loop-id-init
loop-id-init c = mark_first _ _ _ _ c.requires.kinds_len.1

pub returns-in_default-clause-answer : goal.returns-in_default-clause-answer
returns-in_default-clause-answer c = ap retire_number (mark_nowhere _ _ _ _ _ _ c.loop-id.invariant (omega arith) (was_nowhere _ (sym c.index_of.ensures ∙ c.in_default.is)))

pub bounds-kinds-i : goal.bounds-kinds-i
bounds-kinds-i c = omega (arith, index_within _ _ _ (was_place _ _ (sym c.index_of.ensures ∙ c.in-Some.is)), c.requires.kinds_len)

pub returns-then-kinds-i-eq-KIND-clause-answer : goal.returns-then-kinds-i-eq-KIND-clause-answer
returns-then-kinds-i-eq-KIND-clause-answer c = ap retire_number (mark_manifest _ _ _ _ _ _ c.loop-id.invariant (omega arith) c.requires.rises _ (was_place _ _ (sym c.index_of.ensures ∙ c.in-Some.is)) c.if-kinds-i-eq-KIND.true)

pub bounds-states-i : goal.bounds-states-i
bounds-states-i c = omega (arith, index_within _ _ _ (was_place _ _ (sym c.index_of.ensures ∙ c.in-Some.is)), c.requires.kinds_len, c.loop-id.invariant.same_length)

pub returns-then-states-i-ne0-clause-answer : goal.returns-then-states-i-ne0-clause-answer
returns-then-states-i-ne0-clause-answer c = ap retire_number (mark_retired _ _ _ _ _ _ c.loop-id.invariant (omega arith) c.requires.rises _ (was_place _ _ (sym c.index_of.ensures ∙ c.in-Some.is)) c.if-states-i-ne0.true)

pub bounds-states-i-in-loop-id : goal.bounds-states-i-in-loop-id
bounds-states-i-in-loop-id c = omega (arith, index_within _ _ _ (was_place _ _ (sym c.index_of.ensures ∙ c.in-Some.is)), c.requires.kinds_len, c.loop-id.invariant.same_length)

pub loop-id-preserved : goal.loop-id-preserved
loop-id-preserved c = mark_next _ _ _ _ _ _ c.loop-id.invariant (omega arith) c.requires.rises _ (was_place _ _ (sym c.index_of.ensures ∙ c.in-Some.is)) c.if-kinds-i-eq-KIND.false c.if-states-i-ne0.false

pub returns-clause-answer : goal.returns-clause-answer
returns-clause-answer c = ap retire_number (mark_last _ _ _ _ _ _ c.loop-id.invariant (omega arith))

pub returns-clause-states : goal.returns-clause-states
returns-clause-states c = mark_states _ _ _ _ _ _ c.loop-id.invariant (omega arith)
