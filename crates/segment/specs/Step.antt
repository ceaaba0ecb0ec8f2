-- What the reading functions answer, as definitions: the step from a place, and whether the link at a place is whole. Then the ways out of reading
-- a link at a place, each with its law, and what the test for a whole link says of the link.
-- The laws stand in proofs/StepLaws.antt. Definitions only.
-- Assumes nothing.
use Rattle.std.specs.Prelude.{Bool, List, ℕ, ◌+◌, take, Some, None}
use Rattle.std.specs.Prelude.{Option as Maybe}
use Rattle.std.proofs.Math.Option.{Option, none, some}
use Rattle.std.proofs.Math.ListN.{length, drop}
use Rattle.octets.specs.Zero.{same_bytes}
use Rattle.segment.specs.declared.Step.{Step}
use Rattle.segment.specs.Header.{Link, State, link_at, size, hash_in, content_hash}
use Rattle.octets.specs.numbers.Numbers.{least_next}

-- how many links count before one: none before the first, else the last of them
abbrev pub count_before : Maybe ℕ → ℕ
count_before None = 0
count_before (Some prev) = 1

-- 'id above the id of the link before (the first link: any id)', as the least id
abbrev pub least_id : Maybe ℕ → ℕ
least_id prev = least_next prev

-- what the link at a place is read with
abbrev pub state_at : ℕ → Maybe ℕ → State
state_at at prev = record { at = at; least = least_id prev }

-- of a link: its end, id, payload length, type and flags
unfoldable pub step_of : Option Link → Maybe Step
step_of none = None
step_of (some l) = Some (record { end = l.offset + size l; id = l.id; length = length l.payload; kind = l.kind; flags = l.flags })

unfoldable pub step_at : List ℕ → ℕ → Maybe ℕ → Maybe Step
step_at f at prev = step_of (link_at (state_at at prev) (drop at f))

-- the header's hash at a place is that of the payload behind the header
unfoldable pub whole_at : List ℕ → ℕ → ℕ → Bool
whole_at f at len = same_bytes (hash_in (drop at f)) (content_hash (take len (drop (at + 64) f)))
