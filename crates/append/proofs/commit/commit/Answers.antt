-- `append::commit::commit` meets its contract: its tests in order, then what is written.
use Rattle.std.proofs.Common.{arith, sym, ap, ◌∙◌}
use Rattle.std.specs.Prelude.{ℕ, ◌+◌, ◌-◌, ◌*◌, ◌^◌, ◌≡◌, ltb, length, take}
use Rattle.std.proofs.Common.{refl, length-take-le}
use borrow.Author.Tests.{ltb-false}
use Rattle.octets.specs.Round.{round64}
use Rattle.octets.proofs.RoundLaws.{round64_lt}
use Rattle.manifest.specs.Payload.{payload_length}
use Rattle.manifest.proofs.PayloadLaws.{payload_round}
use Rattle.batch.proofs.Lines.{bodies_count}
use Rattle.append.specs.commit.Commit.{next_id_of}
use Rattle.append.proofs.commit.CommitLaws.{commit_entries, commit_ids, commit_limit, commit_room, commit_done, count_number, id_number, end_number}
use Rattle.append.proofs.commit.Written.{bodies_most, written_inside, written_all}
use Rattle.append.proofs.commit.commit.Goals as goal

pub returns-then-count-gt-MAX_ENTRIES-clause-answer : goal.returns-then-count-gt-MAX_ENTRIES-clause-answer
returns-then-count-gt-MAX_ENTRIES-clause-answer c = (commit_entries _ c.args.buf.now _ c.args.states.now c.args.timestamp (omega (arith, count_number _ _ _ _ c.count-m.result (next_id_of c.args.last) c.requires.base.start_is c.requires.base.count_is (bodies_count c.args.batch.now.bytes.now ∙ sym c.count-m.ensures.count) c.requires.base.next_is))).0

pub returns-then-count-gt-MAX_ENTRIES-clause-buf : goal.returns-then-count-gt-MAX_ENTRIES-clause-buf
returns-then-count-gt-MAX_ENTRIES-clause-buf c = (commit_entries _ c.args.buf.now _ c.args.states.now c.args.timestamp (omega (arith, count_number _ _ _ _ c.count-m.result (next_id_of c.args.last) c.requires.base.start_is c.requires.base.count_is (bodies_count c.args.batch.now.bytes.now ∙ sym c.count-m.ensures.count) c.requires.base.next_is))).1

pub returns-then-ids_over-clause-answer : goal.returns-then-ids_over-clause-answer
returns-then-ids_over-clause-answer c =
    (commit_ids _ c.args.buf.now _ c.args.states.now c.args.timestamp (omega (arith, count_number _ _ _ _ c.count-m.result (next_id_of c.args.last) c.requires.base.start_is c.requires.base.count_is (bodies_count c.args.batch.now.bytes.now ∙ sym c.count-m.ensures.count) c.requires.base.next_is))
    (ap (ltb (2 ^ 64 - 1)) (sym (id_number _ _ _ _ c.count-m.result (next_id_of c.args.last) c.requires.base.start_is c.requires.base.count_is (bodies_count c.args.batch.now.bytes.now ∙ sym c.count-m.ensures.count) c.requires.base.next_is)) ∙ sym c.ids_over.ensures ∙ c.if-ids_over.true)).0

pub returns-then-ids_over-clause-buf : goal.returns-then-ids_over-clause-buf
returns-then-ids_over-clause-buf c =
    (commit_ids _ c.args.buf.now _ c.args.states.now c.args.timestamp (omega (arith, count_number _ _ _ _ c.count-m.result (next_id_of c.args.last) c.requires.base.start_is c.requires.base.count_is (bodies_count c.args.batch.now.bytes.now ∙ sym c.count-m.ensures.count) c.requires.base.next_is))
    (ap (ltb (2 ^ 64 - 1)) (sym (id_number _ _ _ _ c.count-m.result (next_id_of c.args.last) c.requires.base.start_is c.requires.base.count_is (bodies_count c.args.batch.now.bytes.now ∙ sym c.count-m.ensures.count) c.requires.base.next_is)) ∙ sym c.ids_over.ensures ∙ c.if-ids_over.true)).1

pub overflow_add-end : goal.overflow_add-end
overflow_add-end c = omega (arith, c.bodies_end-at.ensures, bodies_most c.args.batch.now.bytes.now c.args.start c.args.batch.now.held c.requires.base.small)

pub overflow_add-round_up : goal.overflow_add-round_up
overflow_add-round_up c = omega (arith, c.round_up.ensures, round64_lt (8 + 48 * (c.args.kept + c.count-m.result)))

pub round_up-requires-2 : goal.round_up-requires-2
round_up-requires-2 c = omega (arith, c.round_up.ensures, round64_lt (8 + 48 * (c.args.kept + c.count-m.result)))

pub overflow_add-end-2 : goal.overflow_add-end-2
overflow_add-end-2 c =
    omega (arith, c.bodies_end-at.ensures, bodies_most c.args.batch.now.bytes.now c.args.start c.args.batch.now.held c.requires.base.small, c.round_up.ensures, c.round_up-2.ensures, round64_lt (8 + 48 * (c.args.kept + c.count-m.result)), round64_lt (c.round_up.result + 4096))

pub returns-then-end-gt-MAX_FILE-clause-answer : goal.returns-then-end-gt-MAX_FILE-clause-answer
returns-then-end-gt-MAX_FILE-clause-answer c =
    (commit_limit _ c.args.buf.now _ c.args.states.now c.args.timestamp (omega (arith, count_number _ _ _ _ c.count-m.result (next_id_of c.args.last) c.requires.base.start_is c.requires.base.count_is (bodies_count c.args.batch.now.bytes.now ∙ sym c.count-m.ensures.count) c.requires.base.next_is))
    (ap (ltb (2 ^ 64 - 1)) (sym (id_number _ _ _ _ c.count-m.result (next_id_of c.args.last) c.requires.base.start_is c.requires.base.count_is (bodies_count c.args.batch.now.bytes.now ∙ sym c.count-m.ensures.count) c.requires.base.next_is)) ∙ sym c.ids_over.ensures ∙ c.if-ids_over.false)
    (omega (arith, end_number _ _ _ _ c.count-m.result (next_id_of c.args.last) c.requires.base.start_is c.requires.base.count_is (bodies_count c.args.batch.now.bytes.now ∙ sym c.count-m.ensures.count) c.requires.base.next_is _ _ _ c.bodies_end-at.ensures c.round_up.ensures c.round_up-2.ensures))).0

pub returns-then-end-gt-MAX_FILE-clause-buf : goal.returns-then-end-gt-MAX_FILE-clause-buf
returns-then-end-gt-MAX_FILE-clause-buf c =
    (commit_limit _ c.args.buf.now _ c.args.states.now c.args.timestamp (omega (arith, count_number _ _ _ _ c.count-m.result (next_id_of c.args.last) c.requires.base.start_is c.requires.base.count_is (bodies_count c.args.batch.now.bytes.now ∙ sym c.count-m.ensures.count) c.requires.base.next_is))
    (ap (ltb (2 ^ 64 - 1)) (sym (id_number _ _ _ _ c.count-m.result (next_id_of c.args.last) c.requires.base.start_is c.requires.base.count_is (bodies_count c.args.batch.now.bytes.now ∙ sym c.count-m.ensures.count) c.requires.base.next_is)) ∙ sym c.ids_over.ensures ∙ c.if-ids_over.false)
    (omega (arith, end_number _ _ _ _ c.count-m.result (next_id_of c.args.last) c.requires.base.start_is c.requires.base.count_is (bodies_count c.args.batch.now.bytes.now ∙ sym c.count-m.ensures.count) c.requires.base.next_is _ _ _ c.bodies_end-at.ensures c.round_up.ensures c.round_up-2.ensures))).1

pub returns-then-end-buf-clause-answer : goal.returns-then-end-buf-clause-answer
returns-then-end-buf-clause-answer c =
    let e = end_number _ _ _ _ c.count-m.result (next_id_of c.args.last) c.requires.base.start_is c.requires.base.count_is (bodies_count c.args.batch.now.bytes.now ∙ sym c.count-m.ensures.count) c.requires.base.next_is _ _ _ c.bodies_end-at.ensures c.round_up.ensures c.round_up-2.ensures in
    (commit_room _ c.args.buf.now _ c.args.states.now c.args.timestamp (omega (arith, count_number _ _ _ _ c.count-m.result (next_id_of c.args.last) c.requires.base.start_is c.requires.base.count_is (bodies_count c.args.batch.now.bytes.now ∙ sym c.count-m.ensures.count) c.requires.base.next_is))
    (ap (ltb (2 ^ 64 - 1)) (sym (id_number _ _ _ _ c.count-m.result (next_id_of c.args.last) c.requires.base.start_is c.requires.base.count_is (bodies_count c.args.batch.now.bytes.now ∙ sym c.count-m.ensures.count) c.requires.base.next_is)) ∙ sym c.ids_over.ensures ∙ c.if-ids_over.false) (omega (arith, e)) (omega (arith, e))).0

pub returns-then-end-buf-clause-buf : goal.returns-then-end-buf-clause-buf
returns-then-end-buf-clause-buf c =
    let e = end_number _ _ _ _ c.count-m.result (next_id_of c.args.last) c.requires.base.start_is c.requires.base.count_is (bodies_count c.args.batch.now.bytes.now ∙ sym c.count-m.ensures.count) c.requires.base.next_is _ _ _ c.bodies_end-at.ensures c.round_up.ensures c.round_up-2.ensures in
    (commit_room _ c.args.buf.now _ c.args.states.now c.args.timestamp (omega (arith, count_number _ _ _ _ c.count-m.result (next_id_of c.args.last) c.requires.base.start_is c.requires.base.count_is (bodies_count c.args.batch.now.bytes.now ∙ sym c.count-m.ensures.count) c.requires.base.next_is))
    (ap (ltb (2 ^ 64 - 1)) (sym (id_number _ _ _ _ c.count-m.result (next_id_of c.args.last) c.requires.base.start_is c.requires.base.count_is (bodies_count c.args.batch.now.bytes.now ∙ sym c.count-m.ensures.count) c.requires.base.next_is)) ∙ sym c.ids_over.ensures ∙ c.if-ids_over.false) (omega (arith, e)) (omega (arith, e))).1

pub put_manifest-requires-clause-offsets_in_bounds : goal.put_manifest-requires-clause-offsets_in_bounds
put_manifest-requires-clause-offsets_in_bounds c =
    let os = length-take-le (c.args.kept + c.count-m.result) c.put_bodies.new.offsets (omega (arith, c.put_bodies.auto.offsets, c.requires.lists.0)) in
    let pr = payload_round (c.args.kept + c.count-m.result) _ _ c.round_up.ensures c.round_up-2.ensures in
    let pl : round64 (payload_length (length (take (c.args.kept + c.count-m.result) c.put_bodies.new.offsets))) ≡ round64 (payload_length (c.args.kept + c.count-m.result)) =
    ap (λ (n : ℕ). round64 (payload_length n)) os in
    (omega (arith, pl, pr, c.put_bodies.auto.buf), omega arith)

pub put_manifest-requires-clause-inside : goal.put_manifest-requires-clause-inside
put_manifest-requires-clause-inside c =
    written_inside c.args.buf.now c.args.offsets.now c.args.batch.now.bytes.now c.args.start c.args.kept c.args.last
    c.requires.base c.args.batch.now.held c.args.timestamp c.ranges.timestamp.fits c.next_id-next.result c.count-m.result c.next_id-next.ensures
    c.count-m.ensures.count (omega (arith, c.next_id-next.ensures, ltb-false (2 ^ 64 - 1) (next_id_of c.args.last + c.count-m.result) (sym c.ids_over.ensures ∙ c.if-ids_over.false))) c.bodies_end-at.result c.bodies_end-at.ensures
    (omega arith) (omega arith) (omega (arith, c.requires.lists.0))
    c.put_bodies.new.buf c.put_bodies.new.offsets c.put_bodies.ensures.buf c.put_bodies.ensures.offsets

pub returns-clause-answer : goal.returns-clause-answer
returns-clause-answer c =
    let e = end_number _ _ _ _ c.count-m.result (next_id_of c.args.last) c.requires.base.start_is c.requires.base.count_is (bodies_count c.args.batch.now.bytes.now ∙ sym c.count-m.ensures.count) c.requires.base.next_is _ _ _ c.bodies_end-at.ensures c.round_up.ensures c.round_up-2.ensures in
    (commit_done _ c.args.buf.now _ c.args.states.now c.args.timestamp (omega (arith, count_number _ _ _ _ c.count-m.result (next_id_of c.args.last) c.requires.base.start_is c.requires.base.count_is (bodies_count c.args.batch.now.bytes.now ∙ sym c.count-m.ensures.count) c.requires.base.next_is))
    (ap (ltb (2 ^ 64 - 1)) (sym (id_number _ _ _ _ c.count-m.result (next_id_of c.args.last) c.requires.base.start_is c.requires.base.count_is (bodies_count c.args.batch.now.bytes.now ∙ sym c.count-m.ensures.count) c.requires.base.next_is)) ∙ sym c.ids_over.ensures ∙ c.if-ids_over.false) (omega (arith, e)) (omega (arith, e)) _ _ _ _ e
    (ap (λ (k : ℕ). k + c.count-m.result) c.next_id-next.ensures ∙ id_number _ _ _ _ c.count-m.result (next_id_of c.args.last) c.requires.base.start_is c.requires.base.count_is (bodies_count c.args.batch.now.bytes.now ∙ sym c.count-m.ensures.count) c.requires.base.next_is)
    (count_number _ _ _ _ c.count-m.result (next_id_of c.args.last) c.requires.base.start_is c.requires.base.count_is (bodies_count c.args.batch.now.bytes.now ∙ sym c.count-m.ensures.count) c.requires.base.next_is)
    (written_all c.args.buf.now c.args.offsets.now c.args.batch.now.bytes.now c.args.start c.args.kept c.args.last
    c.requires.base c.args.batch.now.held c.args.timestamp c.ranges.timestamp.fits c.next_id-next.result c.count-m.result c.next_id-next.ensures
    c.count-m.ensures.count (omega (arith, c.next_id-next.ensures, ltb-false (2 ^ 64 - 1) (next_id_of c.args.last + c.count-m.result) (sym c.ids_over.ensures ∙ c.if-ids_over.false))) c.bodies_end-at.result c.bodies_end-at.ensures
    (omega arith) (omega arith) (omega (arith, c.requires.lists.0))
    c.put_bodies.new.buf c.put_bodies.new.offsets c.put_bodies.ensures.buf c.put_bodies.ensures.offsets
    _ _ _ refl (λ k. omega (arith, c.slice_known-3-1.given k)) c.put_manifest.ensures)).0

pub returns-clause-buf : goal.returns-clause-buf
returns-clause-buf c =
    let e = end_number _ _ _ _ c.count-m.result (next_id_of c.args.last) c.requires.base.start_is c.requires.base.count_is (bodies_count c.args.batch.now.bytes.now ∙ sym c.count-m.ensures.count) c.requires.base.next_is _ _ _ c.bodies_end-at.ensures c.round_up.ensures c.round_up-2.ensures in
    (commit_done _ c.args.buf.now _ c.args.states.now c.args.timestamp (omega (arith, count_number _ _ _ _ c.count-m.result (next_id_of c.args.last) c.requires.base.start_is c.requires.base.count_is (bodies_count c.args.batch.now.bytes.now ∙ sym c.count-m.ensures.count) c.requires.base.next_is))
    (ap (ltb (2 ^ 64 - 1)) (sym (id_number _ _ _ _ c.count-m.result (next_id_of c.args.last) c.requires.base.start_is c.requires.base.count_is (bodies_count c.args.batch.now.bytes.now ∙ sym c.count-m.ensures.count) c.requires.base.next_is)) ∙ sym c.ids_over.ensures ∙ c.if-ids_over.false) (omega (arith, e)) (omega (arith, e)) _ _ _ _ e
    (ap (λ (k : ℕ). k + c.count-m.result) c.next_id-next.ensures ∙ id_number _ _ _ _ c.count-m.result (next_id_of c.args.last) c.requires.base.start_is c.requires.base.count_is (bodies_count c.args.batch.now.bytes.now ∙ sym c.count-m.ensures.count) c.requires.base.next_is)
    (count_number _ _ _ _ c.count-m.result (next_id_of c.args.last) c.requires.base.start_is c.requires.base.count_is (bodies_count c.args.batch.now.bytes.now ∙ sym c.count-m.ensures.count) c.requires.base.next_is)
    (written_all c.args.buf.now c.args.offsets.now c.args.batch.now.bytes.now c.args.start c.args.kept c.args.last
    c.requires.base c.args.batch.now.held c.args.timestamp c.ranges.timestamp.fits c.next_id-next.result c.count-m.result c.next_id-next.ensures
    c.count-m.ensures.count (omega (arith, c.next_id-next.ensures, ltb-false (2 ^ 64 - 1) (next_id_of c.args.last + c.count-m.result) (sym c.ids_over.ensures ∙ c.if-ids_over.false))) c.bodies_end-at.result c.bodies_end-at.ensures
    (omega arith) (omega arith) (omega (arith, c.requires.lists.0))
    c.put_bodies.new.buf c.put_bodies.new.offsets c.put_bodies.ensures.buf c.put_bodies.ensures.offsets
    _ _ _ refl (λ k. omega (arith, c.slice_known-3-1.given k)) c.put_manifest.ensures)).1
