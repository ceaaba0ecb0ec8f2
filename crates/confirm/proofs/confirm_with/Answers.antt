-- The ways out: a state that an entry may not have, a payload that is not the one written anew, and the hash.
use Rattle.std.proofs.Common.{length, ◌∙◌, arith}
use Rattle.confirm.proofs.states.Steps.{payload_aligned, part_room, held_read, compared_read, not_held, other_payload, by_hash, part_rooted}
use Rattle.confirm.proofs.confirm_with.Goals as goal

pub read_states-requires : goal.read_states-requires
read_states-requires c =
    (omega arith, part_room c.args.file.now c.args.offsets.now c.args.at c.args.len c.requires.len_in_bounds.0 c.requires.len_in_bounds.1)

pub returns-then-not-states_held : goal.returns-then-not-states_held
returns-then-not-states_held c =
    let h = held_read c.args.file.now c.args.offsets.now c.args.at c.args.len _ _ _ c.read_states.ensures c.states_held.ensures in
    not_held _ _ _ _ _ (h ∙ c.if-not-states_held.true)

pub put_payload-requires-clause-offsets_bound : goal.put_payload-requires-clause-offsets_bound
put_payload-requires-clause-offsets_bound c =
    let g = payload_aligned (length c.args.offsets.now) in
    omega arith

pub returns-then-not-same : goal.returns-then-not-same
returns-then-not-same c =
    let e = compared_read c.args.file.now c.args.offsets.now c.args.at c.args.len _ _ _ _ c.args.id _ c.requires.inside c.requires.len_in_bounds.1 c.read_states.ensures c.put_payload.ensures.buf c.same.ensures in
    other_payload _ _ _ _ _ (e ∙ c.if-not-same.true)

pub payload_sum-sum-requires : goal.payload_sum-sum-requires
payload_sum-sum-requires c =
    let e = compared_read c.args.file.now c.args.offsets.now c.args.at c.args.len _ _ _ _ c.args.id _ c.requires.inside c.requires.len_in_bounds.1 c.read_states.ensures c.put_payload.ensures.buf c.same.ensures in
    part_rooted c.args.file.now c.args.offsets.now c.args.at c.args.len c.args.id (e ∙ c.if-not-same.false)

pub returns : goal.returns
returns c =
    let h = held_read c.args.file.now c.args.offsets.now c.args.at c.args.len _ _ _ c.read_states.ensures c.states_held.ensures in
    let e = compared_read c.args.file.now c.args.offsets.now c.args.at c.args.len _ _ _ _ c.args.id _ c.requires.inside c.requires.len_in_bounds.1 c.read_states.ensures c.put_payload.ensures.buf c.same.ensures in
    by_hash _ _ _ _ _ _ c.requires.offsets_len_bound.0 (h ∙ c.if-not-states_held.false) (e ∙ c.if-not-same.false) c.is_whole_by.ensures
