-- `compact::compact_from` meets its contract: the segments are selected, then the fresh file is written if it fits.
use Rattle.std.proofs.Common.{arith, sym, ap, ◌∙◌}
use Rattle.std.specs.Prelude.{ℕ, ◌+◌, ◌*◌, ◌≡◌, length, take}
use Rattle.std.proofs.Math.ListN.{length-map}
use Rattle.octets.specs.Round.{round64}
use Rattle.octets.proofs.RoundLaws.{round64_lt}
use Rattle.answers.proofs.HandedOn.{handed_on}
use Rattle.segment.specs.Header.{Link}
use Rattle.manifest.specs.Payload.{payload_length}
use Rattle.manifest.proofs.PayloadLaws.{payload_round}
use Rattle.opening.proofs.Indexed.{manifest_numbered}
use Rattle.compacting.specs.Compact.{copied}
use Rattle.compact.proofs.CompactLaws.{chosen, chosen_offsets, compact_damaged, fresh_ends, fresh_small, compact_short, compact_done}
use Rattle.compact.proofs.copies.Links.{fresh_standing, fresh_end}
use Rattle.compact.proofs.compact_from.Goals as goal

pub returns-in_err-selected-clause-answer : goal.returns-in_err-selected-clause-answer
returns-in_err-selected-clause-answer c = handed_on _ _ c.from_residual.ensures.1 ∙ (compact_damaged _ _ _ c.requires.manifest_at c.args.buf.now _ (sym c.in_err-selected.ensures.answer)).0

pub returns-in_err-selected-clause-buf : goal.returns-in_err-selected-clause-buf
returns-in_err-selected-clause-buf c = (compact_damaged _ _ _ c.requires.manifest_at c.args.buf.now _ (sym c.in_err-selected.ensures.answer)).1

pub overflow_add-end : goal.overflow_add-end
overflow_add-end c = omega (arith, fresh_small _ _ _ c.requires.manifest_at _ _ (chosen _ _ _ c.requires.manifest_at _ _ (sym c.in_ok-selected.ensures.answer)) (λ k. omega (arith, c.type_inv.file k)) _ (manifest_numbered _ _ _ _ (λ k. omega (arith, c.type_inv.file k)) c.requires.indexed c.requires.most_in_bounds c.requires.manifest_at))

pub overflow_mul-n : goal.overflow_mul-n
overflow_mul-n c = omega (arith, fresh_small _ _ _ c.requires.manifest_at _ _ (chosen _ _ _ c.requires.manifest_at _ _ (sym c.in_ok-selected.ensures.answer)) (λ k. omega (arith, c.type_inv.file k)) _ (manifest_numbered _ _ _ _ (λ k. omega (arith, c.type_inv.file k)) c.requires.indexed c.requires.most_in_bounds c.requires.manifest_at))

pub overflow_add-n : goal.overflow_add-n
overflow_add-n c = omega (arith, fresh_small _ _ _ c.requires.manifest_at _ _ (chosen _ _ _ c.requires.manifest_at _ _ (sym c.in_ok-selected.ensures.answer)) (λ k. omega (arith, c.type_inv.file k)) _ (manifest_numbered _ _ _ _ (λ k. omega (arith, c.type_inv.file k)) c.requires.indexed c.requires.most_in_bounds c.requires.manifest_at))

pub round_up-requires : goal.round_up-requires
round_up-requires c = omega (arith, fresh_small _ _ _ c.requires.manifest_at _ _ (chosen _ _ _ c.requires.manifest_at _ _ (sym c.in_ok-selected.ensures.answer)) (λ k. omega (arith, c.type_inv.file k)) _ (manifest_numbered _ _ _ _ (λ k. omega (arith, c.type_inv.file k)) c.requires.indexed c.requires.most_in_bounds c.requires.manifest_at))

pub overflow_add-round_up : goal.overflow_add-round_up
overflow_add-round_up c = omega (arith, fresh_small _ _ _ c.requires.manifest_at _ _ (chosen _ _ _ c.requires.manifest_at _ _ (sym c.in_ok-selected.ensures.answer)) (λ k. omega (arith, c.type_inv.file k)) _ (manifest_numbered _ _ _ _ (λ k. omega (arith, c.type_inv.file k)) c.requires.indexed c.requires.most_in_bounds c.requires.manifest_at), c.round_up.ensures, round64_lt (8 + 48 * c.in_ok-selected.selected.count))

pub round_up-requires-2 : goal.round_up-requires-2
round_up-requires-2 c = omega (arith, fresh_small _ _ _ c.requires.manifest_at _ _ (chosen _ _ _ c.requires.manifest_at _ _ (sym c.in_ok-selected.ensures.answer)) (λ k. omega (arith, c.type_inv.file k)) _ (manifest_numbered _ _ _ _ (λ k. omega (arith, c.type_inv.file k)) c.requires.indexed c.requires.most_in_bounds c.requires.manifest_at), c.round_up.ensures, round64_lt (8 + 48 * c.in_ok-selected.selected.count))

pub overflow_add-end-2 : goal.overflow_add-end-2
overflow_add-end-2 c = omega (arith, fresh_small _ _ _ c.requires.manifest_at _ _ (chosen _ _ _ c.requires.manifest_at _ _ (sym c.in_ok-selected.ensures.answer)) (λ k. omega (arith, c.type_inv.file k)) _ (manifest_numbered _ _ _ _ (λ k. omega (arith, c.type_inv.file k)) c.requires.indexed c.requires.most_in_bounds c.requires.manifest_at), fresh_ends _ _ _ c.requires.manifest_at _ _ (chosen _ _ _ c.requires.manifest_at _ _ (sym c.in_ok-selected.ensures.answer)) (λ k. omega (arith, c.type_inv.file k)) _ _ c.round_up.ensures c.round_up-2.ensures)

pub returns-then-end-buf-clause-answer : goal.returns-then-end-buf-clause-answer
returns-then-end-buf-clause-answer c = (compact_short _ _ _ c.requires.manifest_at _ _ (chosen _ _ _ c.requires.manifest_at _ _ (sym c.in_ok-selected.ensures.answer)) (λ k. omega (arith, c.type_inv.file k)) c.args.buf.now _ (fresh_ends _ _ _ c.requires.manifest_at _ _ (chosen _ _ _ c.requires.manifest_at _ _ (sym c.in_ok-selected.ensures.answer)) (λ k. omega (arith, c.type_inv.file k)) _ _ c.round_up.ensures c.round_up-2.ensures) c.if-end-buf.true).0

pub returns-then-end-buf-clause-buf : goal.returns-then-end-buf-clause-buf
returns-then-end-buf-clause-buf c = (compact_short _ _ _ c.requires.manifest_at _ _ (chosen _ _ _ c.requires.manifest_at _ _ (sym c.in_ok-selected.ensures.answer)) (λ k. omega (arith, c.type_inv.file k)) c.args.buf.now _ (fresh_ends _ _ _ c.requires.manifest_at _ _ (chosen _ _ _ c.requires.manifest_at _ _ (sym c.in_ok-selected.ensures.answer)) (λ k. omega (arith, c.type_inv.file k)) _ _ c.round_up.ensures c.round_up-2.ensures) c.if-end-buf.true).1

pub overflow_add-manifest : goal.overflow_add-manifest
overflow_add-manifest c = omega (arith, (manifest_numbered _ _ _ _ (λ k. omega (arith, c.type_inv.file k)) c.requires.indexed c.requires.most_in_bounds c.requires.manifest_at).room, c.requires.manifest_at.within)

pub u64_at-id-requires : goal.u64_at-id-requires
u64_at-id-requires c = omega (arith, (manifest_numbered _ _ _ _ (λ k. omega (arith, c.type_inv.file k)) c.requires.indexed c.requires.most_in_bounds c.requires.manifest_at).room)

pub overflow_add-manifest-2 : goal.overflow_add-manifest-2
overflow_add-manifest-2 c = omega (arith, (manifest_numbered _ _ _ _ (λ k. omega (arith, c.type_inv.file k)) c.requires.indexed c.requires.most_in_bounds c.requires.manifest_at).room, c.requires.manifest_at.within)

pub u64_at-timestamp-requires : goal.u64_at-timestamp-requires
u64_at-timestamp-requires c = omega (arith, (manifest_numbered _ _ _ _ (λ k. omega (arith, c.type_inv.file k)) c.requires.indexed c.requires.most_in_bounds c.requires.manifest_at).room)

pub slice_bounds-put_file-end : goal.slice_bounds-put_file-end
slice_bounds-put_file-end c = omega (arith, fresh_small _ _ _ c.requires.manifest_at _ _ (chosen _ _ _ c.requires.manifest_at _ _ (sym c.in_ok-selected.ensures.answer)) (λ k. omega (arith, c.type_inv.file k)) _ (manifest_numbered _ _ _ _ (λ k. omega (arith, c.type_inv.file k)) c.requires.indexed c.requires.most_in_bounds c.requires.manifest_at), c.select.auto.offsets, c.requires.most_in_bounds)

pub slice_bounds-put_file-end-2 : goal.slice_bounds-put_file-end-2
slice_bounds-put_file-end-2 c = sym (ap length (chosen_offsets _ _ _ c.requires.manifest_at _ _ (chosen _ _ _ c.requires.manifest_at _ _ (sym c.in_ok-selected.ensures.answer)) _ c.in_ok-selected.ensures.offsets) ∙ length-map (copied c.requires.manifest_at.found) (λ (l : Link). l.offset) ∙ sym (chosen _ _ _ c.requires.manifest_at _ _ (sym c.in_ok-selected.ensures.answer)).count_is)

pub put_file-requires-clause-offsets_len_bound : goal.put_file-requires-clause-offsets_len_bound
put_file-requires-clause-offsets_len_bound c =
    (omega (arith, (ap length (chosen_offsets _ _ _ c.requires.manifest_at _ _ (chosen _ _ _ c.requires.manifest_at _ _ (sym c.in_ok-selected.ensures.answer)) _ c.in_ok-selected.ensures.offsets) ∙ length-map (copied c.requires.manifest_at.found) (λ (l : Link). l.offset) ∙ sym (chosen _ _ _ c.requires.manifest_at _ _ (sym c.in_ok-selected.ensures.answer)).count_is), fresh_small _ _ _ c.requires.manifest_at _ _ (chosen _ _ _ c.requires.manifest_at _ _ (sym c.in_ok-selected.ensures.answer)) (λ k. omega (arith, c.type_inv.file k)) _ (manifest_numbered _ _ _ _ (λ k. omega (arith, c.type_inv.file k)) c.requires.indexed c.requires.most_in_bounds c.requires.manifest_at)), fresh_standing _ _ (λ k. omega (arith, c.type_inv.file k)) c.requires.manifest_at.opens (chosen _ _ _ c.requires.manifest_at _ _ (sym c.in_ok-selected.ensures.answer)).all_whole _ (chosen_offsets _ _ _ c.requires.manifest_at _ _ (chosen _ _ _ c.requires.manifest_at _ _ (sym c.in_ok-selected.ensures.answer)) _ c.in_ok-selected.ensures.offsets))

pub put_file-requires-clause-at_value : goal.put_file-requires-clause-at_value
put_file-requires-clause-at_value c =
    ((chosen _ _ _ c.requires.manifest_at _ _ (sym c.in_ok-selected.ensures.answer)).at_is ∙ sym (fresh_end _ _ (λ k. omega (arith, c.type_inv.file k)) c.requires.manifest_at.opens (chosen _ _ _ c.requires.manifest_at _ _ (sym c.in_ok-selected.ensures.answer)).all_whole _ (chosen_offsets _ _ _ c.requires.manifest_at _ _ (chosen _ _ _ c.requires.manifest_at _ _ (sym c.in_ok-selected.ensures.answer)) _ c.in_ok-selected.ensures.offsets)), (fresh_small _ _ _ c.requires.manifest_at _ _ (chosen _ _ _ c.requires.manifest_at _ _ (sym c.in_ok-selected.ensures.answer)) (λ k. omega (arith, c.type_inv.file k)) _ (manifest_numbered _ _ _ _ (λ k. omega (arith, c.type_inv.file k)) c.requires.indexed c.requires.most_in_bounds c.requires.manifest_at)).1.0)

pub put_file-requires-clause-offsets_in_bounds : goal.put_file-requires-clause-offsets_in_bounds
put_file-requires-clause-offsets_in_bounds c =
    let pl : round64 (payload_length (length (take c.in_ok-selected.selected.count c.select.new.offsets))) ≡ round64 (payload_length c.in_ok-selected.selected.count) =
    ap (λ (j : ℕ). round64 (payload_length j)) (ap length (chosen_offsets _ _ _ c.requires.manifest_at _ _ (chosen _ _ _ c.requires.manifest_at _ _ (sym c.in_ok-selected.ensures.answer)) _ c.in_ok-selected.ensures.offsets) ∙ length-map (copied c.requires.manifest_at.found) (λ (l : Link). l.offset) ∙ sym (chosen _ _ _ c.requires.manifest_at _ _ (sym c.in_ok-selected.ensures.answer)).count_is) in
    omega (arith, pl, payload_round c.in_ok-selected.selected.count _ _ c.round_up.ensures c.round_up-2.ensures)

pub returns-clause-answer : goal.returns-clause-answer
returns-clause-answer c =
    (compact_done _ _ _ c.requires.manifest_at _ _ (chosen _ _ _ c.requires.manifest_at _ _ (sym c.in_ok-selected.ensures.answer)) (λ k. omega (arith, c.type_inv.file k)) _ (manifest_numbered _ _ _ _ (λ k. omega (arith, c.type_inv.file k)) c.requires.indexed c.requires.most_in_bounds c.requires.manifest_at) c.args.buf.now _ _ _ _ _
    (fresh_ends _ _ _ c.requires.manifest_at _ _ (chosen _ _ _ c.requires.manifest_at _ _ (sym c.in_ok-selected.ensures.answer)) (λ k. omega (arith, c.type_inv.file k)) _ _ c.round_up.ensures c.round_up-2.ensures) (omega arith) c.u64_at-id.ensures c.u64_at-timestamp.ensures (chosen_offsets _ _ _ c.requires.manifest_at _ _ (chosen _ _ _ c.requires.manifest_at _ _ (sym c.in_ok-selected.ensures.answer)) _ c.in_ok-selected.ensures.offsets) c.put_file.ensures).0

pub returns-clause-buf : goal.returns-clause-buf
returns-clause-buf c =
    (compact_done _ _ _ c.requires.manifest_at _ _ (chosen _ _ _ c.requires.manifest_at _ _ (sym c.in_ok-selected.ensures.answer)) (λ k. omega (arith, c.type_inv.file k)) _ (manifest_numbered _ _ _ _ (λ k. omega (arith, c.type_inv.file k)) c.requires.indexed c.requires.most_in_bounds c.requires.manifest_at) c.args.buf.now _ _ _ _ _
    (fresh_ends _ _ _ c.requires.manifest_at _ _ (chosen _ _ _ c.requires.manifest_at _ _ (sym c.in_ok-selected.ensures.answer)) (λ k. omega (arith, c.type_inv.file k)) _ _ c.round_up.ensures c.round_up-2.ensures) (omega arith) c.u64_at-id.ensures c.u64_at-timestamp.ensures (chosen_offsets _ _ _ c.requires.manifest_at _ _ (chosen _ _ _ c.requires.manifest_at _ _ (sym c.in_ok-selected.ensures.answer)) _ c.in_ok-selected.ensures.offsets) c.put_file.ensures).1
