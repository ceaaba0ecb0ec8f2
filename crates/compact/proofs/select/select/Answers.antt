-- `compact::select::select` meets its contract, by where the loop through the directory stands.
use Rattle.std.proofs.Common.{arith, sym, ap, ◌∙◌}
use Rattle.std.specs.Prelude.{ℕ, ◌+◌}
use Rattle.octets.proofs.RoundLaws.{round64_lt}
use Rattle.compact.proofs.select.SelectLaws.{selecting_entry, select_first, select_last, select_low, select_retired, select_manifest, select_damaged, select_next}
use Rattle.compact.proofs.select.select.Goals as goal

pub loop-i-init : goal.loop-i-init
loop-i-init c = select_first _ _

pub offset_bounds-offsets-i : goal.offset_bounds-offsets-i
offset_bounds-offsets-i c = omega (arith, selecting_entry _ _ _ c.requires.manifest_at _ _ (λ k. omega (arith, c.type_inv.file k)) c.requires.indexed c.requires.most_in_bounds _ _ _ c.loop-i.invariant (omega arith), c.requires.manifest_at.within)

pub bounds-offsets-i : goal.bounds-offsets-i
bounds-offsets-i c = (selecting_entry _ _ _ c.requires.manifest_at _ _ (λ k. omega (arith, c.type_inv.file k)) c.requires.indexed c.requires.most_in_bounds _ _ _ c.loop-i.invariant (omega arith)).stored

pub overflow_add-manifest : goal.overflow_add-manifest
overflow_add-manifest c = omega (arith, selecting_entry _ _ _ c.requires.manifest_at _ _ (λ k. omega (arith, c.type_inv.file k)) c.requires.indexed c.requires.most_in_bounds _ _ _ c.loop-i.invariant (omega arith), c.requires.manifest_at.within)

pub overflow_mul-i : goal.overflow_mul-i
overflow_mul-i c = omega (arith, selecting_entry _ _ _ c.requires.manifest_at _ _ (λ k. omega (arith, c.type_inv.file k)) c.requires.indexed c.requires.most_in_bounds _ _ _ c.loop-i.invariant (omega arith), c.requires.manifest_at.within)

pub overflow_add-manifest-in-loop-i : goal.overflow_add-manifest-in-loop-i
overflow_add-manifest-in-loop-i c = omega (arith, selecting_entry _ _ _ c.requires.manifest_at _ _ (λ k. omega (arith, c.type_inv.file k)) c.requires.indexed c.requires.most_in_bounds _ _ _ c.loop-i.invariant (omega arith), c.requires.manifest_at.within)

pub overflow_add-manifest-in-loop-i-2 : goal.overflow_add-manifest-in-loop-i-2
overflow_add-manifest-in-loop-i-2 c = omega (arith, selecting_entry _ _ _ c.requires.manifest_at _ _ (λ k. omega (arith, c.type_inv.file k)) c.requires.indexed c.requires.most_in_bounds _ _ _ c.loop-i.invariant (omega arith), c.requires.manifest_at.within)

pub bounds-file-manifest : goal.bounds-file-manifest
bounds-file-manifest c = omega (arith, selecting_entry _ _ _ c.requires.manifest_at _ _ (λ k. omega (arith, c.type_inv.file k)) c.requires.indexed c.requires.most_in_bounds _ _ _ c.loop-i.invariant (omega arith), c.requires.manifest_at.within)

pub loop-i-preserved-then-file-manifest-ne0 : goal.loop-i-preserved-then-file-manifest-ne0
loop-i-preserved-then-file-manifest-ne0 c =
    select_retired _ _ _ c.requires.manifest_at _ _ _ _ _ c.loop-i.invariant (omega arith) (selecting_entry _ _ _ c.requires.manifest_at _ _ (λ k. omega (arith, c.type_inv.file k)) c.requires.indexed c.requires.most_in_bounds _ _ _ c.loop-i.invariant (omega arith)) c.if-file-manifest-ne0.true

pub overflow_add-p : goal.overflow_add-p
overflow_add-p c = omega (arith, (selecting_entry _ _ _ c.requires.manifest_at _ _ (λ k. omega (arith, c.type_inv.file k)) c.requires.indexed c.requires.most_in_bounds _ _ _ c.loop-i.invariant (omega arith)).numbered.room, c.requires.manifest_at.within)

pub bounds-file-p : goal.bounds-file-p
bounds-file-p c = omega (arith, (selecting_entry _ _ _ c.requires.manifest_at _ _ (λ k. omega (arith, c.type_inv.file k)) c.requires.indexed c.requires.most_in_bounds _ _ _ c.loop-i.invariant (omega arith)).numbered.room, c.requires.manifest_at.within)

pub loop-i-preserved-then-file-p-eq-KIND : goal.loop-i-preserved-then-file-p-eq-KIND
loop-i-preserved-then-file-p-eq-KIND c =
    select_manifest _ _ _ c.requires.manifest_at _ _ _ _ _ c.loop-i.invariant (omega arith) (selecting_entry _ _ _ c.requires.manifest_at _ _ (λ k. omega (arith, c.type_inv.file k)) c.requires.indexed c.requires.most_in_bounds _ _ _ c.loop-i.invariant (omega arith)) c.if-file-manifest-ne0.false c.if-file-p-eq-KIND.true

pub overflow_add-p-in-loop-i : goal.overflow_add-p-in-loop-i
overflow_add-p-in-loop-i c = omega (arith, (selecting_entry _ _ _ c.requires.manifest_at _ _ (λ k. omega (arith, c.type_inv.file k)) c.requires.indexed c.requires.most_in_bounds _ _ _ c.loop-i.invariant (omega arith)).numbered.room, c.requires.manifest_at.within)

pub u64_at-length-requires : goal.u64_at-length-requires
u64_at-length-requires c = omega (arith, (selecting_entry _ _ _ c.requires.manifest_at _ _ (λ k. omega (arith, c.type_inv.file k)) c.requires.indexed c.requires.most_in_bounds _ _ _ c.loop-i.invariant (omega arith)).numbered.room, c.requires.manifest_at.within)

pub is_whole-requires : goal.is_whole-requires
is_whole-requires c = omega (arith, (selecting_entry _ _ _ c.requires.manifest_at _ _ (λ k. omega (arith, c.type_inv.file k)) c.requires.indexed c.requires.most_in_bounds _ _ _ c.loop-i.invariant (omega arith)).numbered.room, (selecting_entry _ _ _ c.requires.manifest_at _ _ (λ k. omega (arith, c.type_inv.file k)) c.requires.indexed c.requires.most_in_bounds _ _ _ c.loop-i.invariant (omega arith)).numbered.length_is, c.u64_at-length.ensures)

pub returns-then-not-is_whole-clause-answer : goal.returns-then-not-is_whole-clause-answer
returns-then-not-is_whole-clause-answer c =
    (select_damaged _ _ _ c.requires.manifest_at _ _ _ _ _ c.loop-i.invariant (omega arith) (selecting_entry _ _ _ c.requires.manifest_at _ _ (λ k. omega (arith, c.type_inv.file k)) c.requires.indexed c.requires.most_in_bounds _ _ _ c.loop-i.invariant (omega arith)) c.if-file-manifest-ne0.false c.if-file-p-eq-KIND.false _ c.u64_at-length.ensures
    (sym c.is_whole.ensures ∙ c.if-not-is_whole.true)).0

pub returns-then-not-is_whole-clause-offsets : goal.returns-then-not-is_whole-clause-offsets
returns-then-not-is_whole-clause-offsets c =
    (select_damaged _ _ _ c.requires.manifest_at _ _ _ _ _ c.loop-i.invariant (omega arith) (selecting_entry _ _ _ c.requires.manifest_at _ _ (λ k. omega (arith, c.type_inv.file k)) c.requires.indexed c.requires.most_in_bounds _ _ _ c.loop-i.invariant (omega arith)) c.if-file-manifest-ne0.false c.if-file-p-eq-KIND.false _ c.u64_at-length.ensures
    (sym c.is_whole.ensures ∙ c.if-not-is_whole.true)).1

pub bounds-offsets-n : goal.bounds-offsets-n
bounds-offsets-n c = omega (arith, selecting_entry _ _ _ c.requires.manifest_at _ _ (λ k. omega (arith, c.type_inv.file k)) c.requires.indexed c.requires.most_in_bounds _ _ _ c.loop-i.invariant (omega arith), (c.loop-i.invariant c.requires.manifest_at.found c.requires.manifest_at.opens).few)

pub round_up-requires : goal.round_up-requires
round_up-requires c = omega (arith, (selecting_entry _ _ _ c.requires.manifest_at _ _ (λ k. omega (arith, c.type_inv.file k)) c.requires.indexed c.requires.most_in_bounds _ _ _ c.loop-i.invariant (omega arith)).numbered.room, (selecting_entry _ _ _ c.requires.manifest_at _ _ (λ k. omega (arith, c.type_inv.file k)) c.requires.indexed c.requires.most_in_bounds _ _ _ c.loop-i.invariant (omega arith)).numbered.length_is, c.u64_at-length.ensures, c.requires.manifest_at.within)

pub overflow_add-end : goal.overflow_add-end
overflow_add-end c = omega (arith, select_low _ _ _ c.requires.manifest_at _ _ _ _ _ c.loop-i.invariant (omega arith) (selecting_entry _ _ _ c.requires.manifest_at _ _ (λ k. omega (arith, c.type_inv.file k)) c.requires.indexed c.requires.most_in_bounds _ _ _ c.loop-i.invariant (omega arith)), (selecting_entry _ _ _ c.requires.manifest_at _ _ (λ k. omega (arith, c.type_inv.file k)) c.requires.indexed c.requires.most_in_bounds _ _ _ c.loop-i.invariant (omega arith)).numbered.room, (selecting_entry _ _ _ c.requires.manifest_at _ _ (λ k. omega (arith, c.type_inv.file k)) c.requires.indexed c.requires.most_in_bounds _ _ _ c.loop-i.invariant (omega arith)).numbered.length_is, c.u64_at-length.ensures, c.requires.manifest_at.within, round64_lt c.u64_at-length.result, c.round_up.ensures)

pub overflow_add-end-in-loop-i : goal.overflow_add-end-in-loop-i
overflow_add-end-in-loop-i c = omega (arith, select_low _ _ _ c.requires.manifest_at _ _ _ _ _ c.loop-i.invariant (omega arith) (selecting_entry _ _ _ c.requires.manifest_at _ _ (λ k. omega (arith, c.type_inv.file k)) c.requires.indexed c.requires.most_in_bounds _ _ _ c.loop-i.invariant (omega arith)), (selecting_entry _ _ _ c.requires.manifest_at _ _ (λ k. omega (arith, c.type_inv.file k)) c.requires.indexed c.requires.most_in_bounds _ _ _ c.loop-i.invariant (omega arith)).numbered.room, (selecting_entry _ _ _ c.requires.manifest_at _ _ (λ k. omega (arith, c.type_inv.file k)) c.requires.indexed c.requires.most_in_bounds _ _ _ c.loop-i.invariant (omega arith)).numbered.length_is, c.u64_at-length.ensures, c.requires.manifest_at.within, round64_lt c.u64_at-length.result, c.round_up.ensures)

pub loop-i-preserved : goal.loop-i-preserved
loop-i-preserved c =
    select_next _ _ _ c.requires.manifest_at _ _ _ _ _ c.loop-i.invariant (omega arith) (selecting_entry _ _ _ c.requires.manifest_at _ _ (λ k. omega (arith, c.type_inv.file k)) c.requires.indexed c.requires.most_in_bounds _ _ _ c.loop-i.invariant (omega arith)) c.if-file-manifest-ne0.false c.if-file-p-eq-KIND.false _ c.u64_at-length.ensures
    (sym c.is_whole.ensures ∙ c.if-not-is_whole.false) _ (ap (λ (n : ℕ). 64 + n) c.round_up.ensures)

pub returns-clause-answer : goal.returns-clause-answer
returns-clause-answer c = (select_last _ _ _ c.requires.manifest_at _ _ _ _ _ c.loop-i.invariant (omega arith)).0

pub returns-clause-offsets : goal.returns-clause-offsets
returns-clause-offsets c = (select_last _ _ _ c.requires.manifest_at _ _ _ _ _ c.loop-i.invariant (omega arith)).1
