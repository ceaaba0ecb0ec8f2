-- `lookup::in_segment::find` meets its contract, by its ways out.
use Rattle.std.proofs.Common.{sym, ◌∙◌}
use Rattle.lookup.proofs.in_segment.LocatedLaws.{segment_torn, segment_bad, segment_missing, segment_found, sum_found}
use Rattle.lookup.proofs.in_segment.find.Goals as goal

pub returns-then-not-is_whole : goal.returns-then-not-is_whole
returns-then-not-is_whole c = segment_torn _ _ _ _ _ c.u64_at-length.ensures (sym c.is_whole.ensures ∙ c.if-not-is_whole.true)

pub is_whole_by-requires-clause-sum_value : goal.is_whole_by-requires-clause-sum_value
is_whole_by-requires-clause-sum_value c = sum_found _ _ _ _ _ c.u64_at-length.ensures _ (sym c.in-Ok.ensures)

pub returns-then-not-is_whole_by : goal.returns-then-not-is_whole_by
returns-then-not-is_whole_by c = segment_torn _ _ _ _ _ c.u64_at-length.ensures (sym c.is_whole_by.ensures ∙ c.if-not-is_whole_by.true)

pub returns-else-not-is_whole : goal.returns-else-not-is_whole
returns-else-not-is_whole c =
    segment_bad _ _ _ _ _ c.u64_at-length.ensures (sym c.is_whole.ensures ∙ c.if-not-is_whole.false) _ (sym c.in-Err.ensures)

pub returns-in-None : goal.returns-in-None
returns-in-None c =
    segment_missing _ _ _ _ _ c.u64_at-length.ensures (sym c.is_whole_by.ensures ∙ c.if-not-is_whole_by.false) _ (sym c.in-Ok.ensures) c.in-None.is

pub returns-in-Some : goal.returns-in-Some
returns-in-Some c =
    segment_found _ _ _ _ _ c.u64_at-length.ensures (sym c.is_whole_by.ensures ∙ c.if-not-is_whole_by.false) _ _ (sym c.in-Ok.ensures) c.in-Some.is
