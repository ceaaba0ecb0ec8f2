-- Cheap tests, then the payload written anew.
use Rattle.std.proofs.Common.{ℕ, ◌+◌, sym, ap, ◌∙◌, arith}
use Rattle.octets.specs.Round.{round64}
use Rattle.manifest.specs.Sized.{record_by}
use Rattle.manifest.specs.Payload.{payload_length}
use Rattle.confirm.proofs.states.Steps.{other_kind, too_many, other_length}
use Rattle.confirm.proofs.is_confirmed.Goals as goal
use Rattle.confirm.proofs.is_confirmed.Goals.{then-kind-ne-KIND-via-then-kind-ne-KIND, then-kind-ne-KIND-via-else-kind-ne-KIND+then-offsets-gt-MAX_ENTRIES}

pub returns-then-kind-ne-KIND : goal.returns-then-kind-ne-KIND
returns-then-kind-ne-KIND c =
    elim c.then-kind-ne-KIND.branch [
      | then-kind-ne-KIND-via-then-kind-ne-KIND w ↦ other_kind _ _ _ _ _ _ w.if-kind-ne-KIND.true
      | then-kind-ne-KIND-via-else-kind-ne-KIND+then-offsets-gt-MAX_ENTRIES w ↦ too_many _ _ _ _ _ _ w.if-offsets-gt-MAX_ENTRIES.true
    ]

pub overflow_add-round_up : goal.overflow_add-round_up
unfolding round64
overflow_add-round_up c = omega (arith, c.round_up.ensures)

pub returns-then-len-round_up : goal.returns-then-len-round_up
unfolding payload_length record_by
returns-then-len-round_up c =
    other_length _ _ _ _ _ _ c.requires.len_in_bounds c.requires.inside
    (λ q. c.if-len-round_up.true (q ∙ ap (λ (m : ℕ). m + 4096) (sym c.round_up.ensures)))

pub confirm_with-requires-clause-len_in_bounds : goal.confirm_with-requires-clause-len_in_bounds
unfolding payload_length record_by
confirm_with-requires-clause-len_in_bounds c =
    (c.requires.len_in_bounds, c.if-len-round_up.false ∙ ap (λ (m : ℕ). m + 4096) c.round_up.ensures)

pub confirm_with-requires-clause-len_in_bounds_2 : goal.confirm_with-requires-clause-len_in_bounds_2
unfolding round64
confirm_with-requires-clause-len_in_bounds_2 c = omega (arith, c.round_up.ensures)
