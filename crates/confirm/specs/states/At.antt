-- Whether the link at a place is a confirmed manifest, by the file alone: the places of the links before it, where it stands itself, and what its header says.
-- Assumes nothing.
use Rattle.std.specs.Prelude.{ℕ, ◌+◌, Bool, true, cond, ◌&&◌, List, [], ◌∷◌, eqb, leb, length, take, drop}
use Rattle.octets.specs.Zero.{same_bytes}
use Rattle.answers.specs.limits.Limits.{max_entries}
use Rattle.segment.specs.Step.{whole_at}
use Rattle.manifest.specs.Payload.{manifest_kind, states_in}
use Rattle.manifest.specs.At.{payload_at}
use Rattle.segment.specs.Header.{kind_at}

-- 0 live, 1 retired; a manifest is never retired
unfoldable pub state_of : ℕ → ℕ → Bool
state_of kind state = cond (eqb kind manifest_kind) (eqb state 0) (leb state 1)

unfoldable pub states_held_at : List ℕ → List ℕ → List ℕ → Bool
states_held_at f [] ss = true
states_held_at f (o ∷ os) [] = true
states_held_at f (o ∷ os) (s ∷ ss) = state_of (kind_at f o) s && states_held_at f os ss

-- the payload of the link at a place, and the states that it says
abbrev pub payload_in : List ℕ → ℕ → ℕ → List ℕ
payload_in f at len = take len (drop (at + 64) f)

abbrev pub states_read_at : List ℕ → List ℕ → ℕ → ℕ → List ℕ
states_read_at f os at len = states_in (length os) (drop 8 (payload_in f at len))

-- what the test asks, in one place: the type, the count, the hash, the states, the payload and what it must be
abbrev pub verdict : ℕ → ℕ → Bool → Bool → List ℕ → List ℕ → Bool
verdict kind count whole held payload wanted = eqb kind manifest_kind && leb count max_entries && whole && held && same_bytes payload wanted

unfoldable pub confirmed_at : List ℕ → List ℕ → ℕ → ℕ → ℕ → ℕ → Bool
confirmed_at f os at len kind id =
    verdict kind (length os) (whole_at f at len) (states_held_at f os (states_read_at f os at len)) (payload_in f at len) (payload_at f os (states_read_at f os at len) at id)
