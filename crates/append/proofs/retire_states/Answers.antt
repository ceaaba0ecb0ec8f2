-- `append::retire_states` meets its contract, by the lists that it makes of the directory.
use Rattle.std.proofs.Common.{arith, sym, ap, ◌∙◌}
use Rattle.std.specs.Prelude.{ℕ, ◌+◌, ◌-◌, ◌≡◌, length, take, drop}
use Rattle.std.proofs.Common.{length-drop, length-take-le}
use Rattle.std.proofs.lemmas.List.{length-replicate}
use Rattle.opening.proofs.Indexed.{manifest_part, manifest_room, before_offsets, stands_manifest}
use Rattle.append.proofs.Retiring.{part_is, entries_inside, lists_even, marks_held, marks_laid}
use Rattle.append.specs.retire.Marks.{retire_number}
use Rattle.append.proofs.retire.Number.{on_ok_of}
use Rattle.append.proofs.retire_states.Goals as goal

pub overflow_add-body : goal.overflow_add-body
overflow_add-body c =
    let d = c.args.directory.now in
    omega (arith, manifest_room _ _ _ _ d.bytes d.indexed d.room (stands_manifest _ _ _ d.within d.opens), d.within)

pub overflow_add-manifest : goal.overflow_add-manifest
overflow_add-manifest c =
    let d = c.args.directory.now in
    omega (arith, manifest_room _ _ _ _ d.bytes d.indexed d.room (stands_manifest _ _ _ d.within d.opens), d.within)

pub u64_at-requires : goal.u64_at-requires
u64_at-requires c =
    let d = c.args.directory.now in
    omega (arith, manifest_room _ _ _ _ d.bytes d.indexed d.room (stands_manifest _ _ _ d.within d.opens))

pub overflow_add-end : goal.overflow_add-end
overflow_add-end c =
    let d = c.args.directory.now in
    omega (arith, manifest_part _ _ _ _ d.bytes d.indexed d.room (stands_manifest _ _ _ d.within d.opens), c.u64_at.ensures, d.within)

pub slice_bounds-read_states-end : goal.slice_bounds-read_states-end
slice_bounds-read_states-end c =
    let d = c.args.directory.now in
    omega (arith, manifest_part _ _ _ _ d.bytes d.indexed d.room (stands_manifest _ _ _ d.within d.opens), c.u64_at.ensures)

pub read_states-requires : goal.read_states-requires
read_states-requires c =
    let d = c.args.directory.now in
    let e : d.manifest.offset + 64 + c.u64_at.result - (d.manifest.offset + 64) ≡ c.u64_at.result = omega arith in
    let mp = manifest_part _ _ _ _ d.bytes d.indexed d.room (stands_manifest _ _ _ d.within d.opens) in
    let n =
    length-take-le (d.manifest.offset + 64 + c.u64_at.result - (d.manifest.offset + 64)) (drop (d.manifest.offset + 64) d.file.now)
    (omega (arith, mp.0, c.u64_at.ensures, length-drop (d.manifest.offset + 64) d.file.now)) in
    (omega (arith, manifest_room _ _ _ _ d.bytes d.indexed d.room (stands_manifest _ _ _ d.within d.opens), ap length c.requires, length-replicate {A = ℕ} 1024 0), omega (arith, n, e, mp.1.1, c.u64_at.ensures))

pub slice_bounds-read_entries-end : goal.slice_bounds-read_entries-end
slice_bounds-read_entries-end c =
    let d = c.args.directory.now in
    sym (length-take-le d.manifest.count d.offsets.now (omega (arith, manifest_room _ _ _ _ d.bytes d.indexed d.room (stands_manifest _ _ _ d.within d.opens), d.room)))

pub read_entries-requires-clause-offsets_in_bounds : goal.read_entries-requires-clause-offsets_in_bounds
read_entries-requires-clause-offsets_in_bounds c =
    let d = c.args.directory.now in
    let n = length-take-le d.manifest.count d.offsets.now (omega (arith, manifest_room _ _ _ _ d.bytes d.indexed d.room (stands_manifest _ _ _ d.within d.opens), d.room)) in
    (omega (arith, n, manifest_room _ _ _ _ d.bytes d.indexed d.room (stands_manifest _ _ _ d.within d.opens)), omega (arith, n, manifest_room _ _ _ _ d.bytes d.indexed d.room (stands_manifest _ _ _ d.within d.opens)))

pub read_entries-requires-clause-inside : goal.read_entries-requires-clause-inside
read_entries-requires-clause-inside c =
    let d = c.args.directory.now in
    entries_inside _ _ _ (stands_manifest _ _ _ d.within d.opens) (take d.manifest.count d.offsets.now) (before_offsets _ _ _ _ d.bytes d.indexed d.room (stands_manifest _ _ _ d.within d.opens))

pub slice_bounds-entry_ids-end : goal.slice_bounds-entry_ids-end
slice_bounds-entry_ids-end c =
    let d = c.args.directory.now in
    omega (arith, manifest_room _ _ _ _ d.bytes d.indexed d.room (stands_manifest _ _ _ d.within d.opens), c.read_entries.auto.entry_ids)

pub slice_bounds-mark-end : goal.slice_bounds-mark-end
slice_bounds-mark-end c =
    let d = c.args.directory.now in
    sym (length-take-le d.manifest.count c.read_entries.new.entry_ids (omega (arith, manifest_room _ _ _ _ d.bytes d.indexed d.room (stands_manifest _ _ _ d.within d.opens), c.read_entries.auto.entry_ids)))

pub slice_bounds-kinds-end : goal.slice_bounds-kinds-end
slice_bounds-kinds-end c =
    let d = c.args.directory.now in
    omega (arith, manifest_room _ _ _ _ d.bytes d.indexed d.room (stands_manifest _ _ _ d.within d.opens), c.read_entries.auto.kinds)

pub slice_bounds-mark-end-2 : goal.slice_bounds-mark-end-2
slice_bounds-mark-end-2 c =
    let d = c.args.directory.now in
    sym (length-take-le d.manifest.count c.read_entries.new.kinds (omega (arith, manifest_room _ _ _ _ d.bytes d.indexed d.room (stands_manifest _ _ _ d.within d.opens), c.read_entries.auto.kinds)))

pub slice_bounds-mark-end-3 : goal.slice_bounds-mark-end-3
slice_bounds-mark-end-3 c =
    let d = c.args.directory.now in
    omega (arith, manifest_room _ _ _ _ d.bytes d.indexed d.room (stands_manifest _ _ _ d.within d.opens), c.read_states.auto.states, ap length c.requires, length-replicate {A = ℕ} 1024 0)

pub slice_bounds-mark-end-4 : goal.slice_bounds-mark-end-4
slice_bounds-mark-end-4 c =
    let d = c.args.directory.now in
    sym (length-take-le d.manifest.count c.read_states.new.states (omega (arith, manifest_room _ _ _ _ d.bytes d.indexed d.room (stands_manifest _ _ _ d.within d.opens), c.read_states.auto.states, ap length c.requires, length-replicate {A = ℕ} 1024 0)))

pub mark-requires-clause-rises : goal.mark-requires-clause-rises
mark-requires-clause-rises c =
    let d = c.args.directory.now in
    (lists_even _ _ _ (stands_manifest _ _ _ d.within d.opens) (take d.manifest.count d.offsets.now) (before_offsets _ _ _ _ d.bytes d.indexed d.room (stands_manifest _ _ _ d.within d.opens))
    _ c.read_entries.new.entry_ids _ c.read_entries.new.kinds _ c.read_states.new.states _
    c.read_entries.ensures.entry_ids c.read_entries.ensures.kinds c.read_states.ensures
    (part_is d.file.now d.offsets.now d.manifest.offset d.manifest.count d.bytes d.indexed d.room (stands_manifest _ _ _ d.within d.opens) c.u64_at.result c.u64_at.ensures)).1

pub returns-clause-answer : goal.returns-clause-answer
returns-clause-answer c =
    let d = c.args.directory.now in
    c.mark.ensures.answer
    ∙ ap retire_number (marks_held _ _ _ (stands_manifest _ _ _ d.within d.opens) (take d.manifest.count d.offsets.now) (before_offsets _ _ _ _ d.bytes d.indexed d.room (stands_manifest _ _ _ d.within d.opens))
    _ c.read_entries.new.entry_ids _ c.read_entries.new.kinds _ c.read_states.new.states _
    c.read_entries.ensures.entry_ids c.read_entries.ensures.kinds c.read_states.ensures
    (part_is d.file.now d.offsets.now d.manifest.offset d.manifest.count d.bytes d.indexed d.room (stands_manifest _ _ _ d.within d.opens) c.u64_at.result c.u64_at.ensures) c.args.ids.now)

pub returns-clause-states : goal.returns-clause-states
returns-clause-states c =
    let d = c.args.directory.now in
    on_ok_of c.mark.result (λ r. marks_laid _ _ _ (stands_manifest _ _ _ d.within d.opens) (take d.manifest.count d.offsets.now) (before_offsets _ _ _ _ d.bytes d.indexed d.room (stands_manifest _ _ _ d.within d.opens))
    _ c.read_entries.new.entry_ids _ c.read_entries.new.kinds _ c.read_states.new.states _
    c.read_entries.ensures.entry_ids c.read_entries.ensures.kinds c.read_states.ensures
    (part_is d.file.now d.offsets.now d.manifest.offset d.manifest.count d.bytes d.indexed d.room (stands_manifest _ _ _ d.within d.opens) c.u64_at.result c.u64_at.ensures) c.args.ids.now _ c.requires (omega (arith, manifest_room _ _ _ _ d.bytes d.indexed d.room (stands_manifest _ _ _ d.within d.opens))) r) c.mark.ensures.states
