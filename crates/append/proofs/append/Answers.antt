-- `append::append` meets its contract: its tests in order, then the rest of the append from where the file's manifest ends.
use Rattle.std.proofs.Common.{arith, sym, ap, refl, subst, ◌∙◌}
use Rattle.std.specs.Prelude.{ℕ, ◌≡◌, List, length, take, replicate, Ok, Err}
use Rattle.append.specs.commit.Commit.{commit_answer, commit_buffer}
use Rattle.std.proofs.Common.{length-take}
use Rattle.answers.proofs.HandedOn.{number_some}
use Rattle.octets.proofs.le.Laws.{bytes_take}
use Rattle.manifest.specs.Opening.{opened}
use Rattle.batch.specs.Form.{bodies_of}
use Rattle.opening.proofs.Indexed.{opened_refused, opened_none, opened_at, opened_end, manifest_room, manifest_stands}
use Rattle.append.proofs.AppendLaws.{way_room, way_limit, way_none, way_batch, way_retire, way_done, way_handed}
use Rattle.append.proofs.Begins.{base_empty, states_empty, retire_none, retire_some, front_opens, base_later, states_later}
use Rattle.append.proofs.retire.Number.{number_held, number_refused}
use Rattle.appending.specs.Append.{Appends, appended_answer}
use Rattle.append.proofs.append.Goals as goal

pub returns-then-n-buf : goal.returns-then-n-buf
returns-then-n-buf c = way_room c.args.buf.now c.args.n c.args.batch.now c.args.ids.now c.args.timestamp (omega (arith, c.if-n-buf.true))

pub returns-then-n : goal.returns-then-n
returns-then-n c = way_limit c.args.buf.now c.args.n c.args.batch.now c.args.ids.now c.args.timestamp (omega (arith, c.if-n-buf.false)) (omega (arith, c.if-n.true))

pub returns-in_err-open_with : goal.returns-in_err-open_with
returns-in_err-open_with c =
    let r = opened_refused _ _ (sym c.in_err-open_with.ensures.answer) in
    absurd (omega (arith, r.1, c.if-n.false, length-take c.args.n c.args.buf.now))

pub returns-then-size-gt0 : goal.returns-then-size-gt0
returns-then-size-gt0 c = way_none c.args.buf.now c.args.n c.args.batch.now c.args.ids.now c.args.timestamp (omega (arith, c.if-n-buf.false)) (omega (arith, c.if-n.false)) ((opened_none _ _ (sym c.in_ok-open_with.ensures.answer ∙ ap Ok c.in-NoManifest.is)).1) (omega (arith, c.if-size-gt0.true))

pub returns-in_err-read-in-NoManifest : goal.returns-in_err-read-in-NoManifest
returns-in_err-read-in-NoManifest c =
    way_handed c.args.buf.now c.args.n c.args.batch.now c.args.ids.now c.args.timestamp _ _ _ c.from_residual-in_err-read-in-NoManifest.ensures.1
    (way_batch c.args.buf.now c.args.n c.args.batch.now c.args.ids.now c.args.timestamp (omega (arith, c.if-n-buf.false)) (omega (arith, c.if-n.false)) (λ z. omega (arith, c.if-size-gt0.false)) _ c.in_err-read-in-NoManifest.ensures.answer (omega (arith, number_some c.in_err-read-in-NoManifest.field-0.0)))

pub returns-then-ids-gt0 : goal.returns-then-ids-gt0
returns-then-ids-gt0 c =
    way_retire c.args.buf.now c.args.n c.args.batch.now c.args.ids.now c.args.timestamp (omega (arith, c.if-n-buf.false)) (omega (arith, c.if-n.false)) (λ z. omega (arith, c.if-size-gt0.false))
    (sym c.in_ok-read-in-NoManifest.ensures.answer) (retire_some _ ((opened_none _ _ (sym c.in_ok-open_with.ensures.answer ∙ ap Ok c.in-NoManifest.is)).1) _ (omega (arith, c.if-ids-gt0.true)))

pub commit-requires-clause-base : goal.commit-requires-clause-base
commit-requires-clause-base c =
    let z : ◌≡◌ {A = ℕ} 0 c.args.n = omega (arith, c.if-size-gt0.false) in
    base_empty _ (ap (λ (k : ℕ). opened (take k c.args.buf.now)) z ∙ (opened_none _ _ (sym c.in_ok-open_with.ensures.answer ∙ ap Ok c.in-NoManifest.is)).1) _ refl

pub returns-in_err-read-in-At : goal.returns-in_err-read-in-At
returns-in_err-read-in-At c =
    let found = opened_at _ _ _ _ _ _ (sym c.in_ok-open_with.ensures.answer ∙ ap Ok c.in-At.is) in
    way_handed c.args.buf.now c.args.n c.args.batch.now c.args.ids.now c.args.timestamp _ _ _ c.from_residual-in_err-read-in-At.ensures.1
    (way_batch c.args.buf.now c.args.n c.args.batch.now c.args.ids.now c.args.timestamp (omega (arith, c.if-n-buf.false)) (omega (arith, c.if-n.false)) (λ z. let q = sym found.opens ∙ z in absurd (let w : ◌≡◌ {A = ℕ} 0 1 = cc in omega arith)) _ c.in_err-read-in-At.ensures.answer (omega (arith, number_some c.in_err-read-in-At.field-0.0)))

pub invariant_of-directory : goal.invariant_of-directory
invariant_of-directory c =
    let found = opened_at _ _ _ _ _ _ (sym c.in_ok-open_with.ensures.answer ∙ ap Ok c.in-At.is) in
    record {
      bytes = λ k. (bytes_take c.args.n c.args.buf.now (λ k. omega (arith, c.slice_known-1.given k))) k;
      room = omega (arith, c.open_with.auto.offsets);
      indexed = (c.in_ok-open_with.ensures.offsets found.within);
      within = found.within;
      opens = manifest_stands _ _ _ found;
    }

pub returns-in_err-retire_states-in-At : goal.returns-in_err-retire_states-in-At
returns-in_err-retire_states-in-At c =
    let found = opened_at _ _ _ _ _ _ (sym c.in_ok-open_with.ensures.answer ∙ ap Ok c.in-At.is) in
    let no = number_refused _ _ c.in_err-retire_states-in-At.ensures.answer (number_some _) in
    way_handed c.args.buf.now c.args.n c.args.batch.now c.args.ids.now c.args.timestamp _ _ _ c.from_residual-in_err-retire_states-in-At.ensures.1
    (subst (λ (k : ℕ). Appends c.args.buf.now c.args.n c.args.batch.now c.args.ids.now c.args.timestamp (appended_answer (Err k)) c.args.buf.now) no.1
    (way_retire c.args.buf.now c.args.n c.args.batch.now c.args.ids.now c.args.timestamp (omega (arith, c.if-n-buf.false)) (omega (arith, c.if-n.false)) (λ z. let q = sym found.opens ∙ z in absurd (let w : ◌≡◌ {A = ℕ} 0 1 = cc in omega arith))
    (sym c.in_ok-read-in-At.ensures.answer) no.0))

pub overflow_add-count : goal.overflow_add-count
overflow_add-count c =
    let found = opened_at _ _ _ _ _ _ (sym c.in_ok-open_with.ensures.answer ∙ ap Ok c.in-At.is) in
    omega (arith, (manifest_room _ _ _ _ (bytes_take c.args.n c.args.buf.now (λ k. omega (arith, c.slice_known-1.given k))) (c.in_ok-open_with.ensures.offsets found.within) (omega (arith, c.open_with.auto.offsets)) found).1)

pub commit-requires-in-At-clause-base : goal.commit-requires-in-At-clause-base
commit-requires-in-At-clause-base c =
    let found = opened_at _ _ _ _ _ _ (sym c.in_ok-open_with.ensures.answer ∙ ap Ok c.in-At.is) in
    let ends = opened_end _ _ _ _ _ _ (sym c.in_ok-open_with.ensures.answer ∙ ap Ok c.in-At.is) in
    base_later _ c.args.buf.now _ c.args.n _ _ _ _ refl (omega (arith, c.if-n-buf.false)) (bytes_take c.args.n c.args.buf.now (λ k. omega (arith, c.slice_known-1.given k)))
    (c.in_ok-open_with.ensures.offsets found.within) (omega (arith, c.open_with.auto.offsets)) found ends.0 ends.1

pub returns-else-ids-gt0 : goal.returns-else-ids-gt0
returns-else-ids-gt0 c =
    let nf = (opened_none _ _ (sym c.in_ok-open_with.ensures.answer ∙ ap Ok c.in-NoManifest.is)).1 in
    let z : ◌≡◌ {A = ℕ} 0 c.args.n = omega (arith, c.if-size-gt0.false) in
    way_done c.args.buf.now c.args.n c.args.batch.now c.args.ids.now c.args.timestamp (omega (arith, c.if-n-buf.false)) (omega (arith, c.if-n.false)) (λ z. omega (arith, c.if-size-gt0.false))
    (sym c.in_ok-read-in-NoManifest.ensures.answer) (retire_none _ nf _ (omega (arith, c.if-ids-gt0.false)))
    _ _ _ _ (ap (λ (k : ℕ). opened (take k c.args.buf.now)) z) (c.commit.ensures.answer ∙ ap (λ (s : List ℕ). commit_answer (length c.args.buf.now) (opened (take 0 c.args.buf.now)) (bodies_of s)) c.in_ok-read-in-NoManifest.ensures.bytes)
    (c.commit.ensures.buf ∙ ap (λ (s : List ℕ). commit_buffer (opened (take 0 c.args.buf.now)) c.args.buf.now (bodies_of s) (replicate 1024 0) c.args.timestamp) c.in_ok-read-in-NoManifest.ensures.bytes)
    (states_empty _ nf _ _)

pub returns-in_ok-retire_states-in-At : goal.returns-in_ok-retire_states-in-At
returns-in_ok-retire_states-in-At c =
    let found = opened_at _ _ _ _ _ _ (sym c.in_ok-open_with.ensures.answer ∙ ap Ok c.in-At.is) in
    let ends = opened_end _ _ _ _ _ _ (sym c.in_ok-open_with.ensures.answer ∙ ap Ok c.in-At.is) in
    way_done c.args.buf.now c.args.n c.args.batch.now c.args.ids.now c.args.timestamp (omega (arith, c.if-n-buf.false)) (omega (arith, c.if-n.false)) (λ z. let q = sym found.opens ∙ z in absurd (let w : ◌≡◌ {A = ℕ} 0 1 = cc in omega arith))
    (sym c.in_ok-read-in-At.ensures.answer) (number_held _ c.in_ok-retire_states-in-At.ensures.answer) _ _ _ _
    (front_opens _ c.args.buf.now _ c.args.n _ _ _ _ refl (omega (arith, c.if-n-buf.false)) (bytes_take c.args.n c.args.buf.now (λ k. omega (arith, c.slice_known-1.given k)))
    (c.in_ok-open_with.ensures.offsets found.within) (omega (arith, c.open_with.auto.offsets)) found ends.0 ends.1)
    (c.commit-in-At.ensures.answer ∙ ap (λ (s : List ℕ). commit_answer (length c.args.buf.now) (opened (take c.in-At.end c.args.buf.now)) (bodies_of s)) c.in_ok-read-in-At.ensures.bytes)
    (c.commit-in-At.ensures.buf
    ∙ ap (λ (s : List ℕ). commit_buffer (opened (take c.in-At.end c.args.buf.now)) c.args.buf.now (bodies_of s) c.retire_states.new.states c.args.timestamp)
    c.in_ok-read-in-At.ensures.bytes)
    (states_later _ c.args.buf.now _ c.args.n _ _ _ _ refl (omega (arith, c.if-n-buf.false)) (bytes_take c.args.n c.args.buf.now (λ k. omega (arith, c.slice_known-1.given k)))
    (c.in_ok-open_with.ensures.offsets found.within) (omega (arith, c.open_with.auto.offsets)) found ends.0 ends.1
    _ _ _ c.in_ok-retire_states-in-At.ensures.states)
