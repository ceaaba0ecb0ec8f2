-- Each turn looks at the next offset and the next state.
use Rattle.std.proofs.Common.{length-append, arith, sym, ◌∙◌}
use Rattle.std.proofs.lemmas.Slice.Zip.{zip_turn, zip_end}
use Rattle.confirm.proofs.states.Steps.{held_stop, held_next, held_last}
use Rattle.confirm.proofs.states_held.Goals as goal

pub returns-then-not-state_held : goal.returns-then-not-state_held
returns-then-not-state_held c =
    let t = zip_turn c.args.offsets.now c.args.states.now c.loop-offset.yielded c.into_iter-offset-iterator.result c.loop-offset.offset-iterator c.next.new.self c.next.result (cc) (cc) c.loop-offset.yielded_by
    (c.in-Some.offset, c.in-Some.state) c.in-Some.is c.next.ensures.steps in
    held_stop _ _ _ c.requires.states_len _ c.loop-offset.invariant t.0
    (rw (t.2 0, t.3 0) at (sym c.state_held.ensures ∙ c.if-not-state_held.true))

pub loop-offset-preserved : goal.loop-offset-preserved
loop-offset-preserved c =
    let t = zip_turn c.args.offsets.now c.args.states.now c.loop-offset.yielded c.into_iter-offset-iterator.result c.loop-offset.offset-iterator c.next.new.self c.next.result (cc) (cc) c.loop-offset.yielded_by
    (c.in-Some.offset, c.in-Some.state) c.in-Some.is c.next.ensures.steps in
    simp length-append
    (held_next _ _ _ c.requires.states_len _ c.loop-offset.invariant t.0
    (rw (t.2 0, t.3 0) at (sym c.state_held.ensures ∙ c.if-not-state_held.false)))

pub returns : goal.returns
returns c =
    let n = zip_end c.args.offsets.now c.args.states.now c.loop-offset.yielded c.into_iter-offset-iterator.result c.loop-offset.offset-iterator c.next.new.self c.next.result (cc) (cc) c.loop-offset.yielded_by
    c.in-None.is c.next.ensures.steps in
    held_last _ _ _ c.requires.states_len _ c.loop-offset.invariant (omega (arith, c.requires.states_len))
