-- What opening finds and answers: the file's manifest, which is the last confirmed link of the chain from byte 0; and the number
-- of boundaries that the search from the end tries. Definitions only.
-- Assumes nothing.
use Rattle.std.specs.Prelude.{ℕ, ◌+◌, ◌-◌, ◌/◌, cond, List, [], ◌∷◌, leb, length, drop, set, Result, Ok, Err}
use Rattle.std.proofs.Math.Option.{Option, none, some}
use Rattle.std.proofs.lemmas.List.Edits.{sets}
use Rattle.answers.specs.Answer.{Answer, Accepted, Refusal}
use Rattle.answers.specs.limits.Limits.{max_file}
use Rattle.segment.specs.chain.Chain.{Found, open_of}
use Rattle.segment.specs.Header.{Link, size, start, reader}
use Rattle.manifest.specs.Payload.{confirmed, states_in}
use Rattle.manifest.specs.declared.Opened.{Opened}
use Rattle.manifest.specs.declared.Opened.TheVariants.{At, NoManifest}

-- 'The file's manifest is the last confirmed one', with the links before it
unfoldable pub opened : List ℕ → Option (Found Link)
opened f = open_of reader confirmed start f

-- 'the boundaries tried: floor(N/64) - p/64 when found at p; if none, floor(N/64)'
unfoldable pub tried : List ℕ → Option (Found Link) → ℕ
tried f none = length f / 64
tried f (some r) = length f / 64 - r.link.offset / 64

-- the states of the directory's entries
unfoldable pub states : Found Link → List ℕ
states r = states_in (length r.before) (drop 8 r.link.payload)

-- 'Reading calls meet 1, then 2, first': 1 for a file above the limit, else what a call says of what opening finds
unfoldable pub at_opened : {A : Type 0} → A → (Option (Found Link) → A) → List ℕ → A
at_opened one g f = cond (leb (length f) max_file) (g (opened f)) one

-- 'Opening answers offset, end, id, c and that number'; 'none means refusal 2'
unfoldable pub found_case : List ℕ → Option (Found Link) → Opened
found_case f none = NoManifest (tried f none)
found_case f (some r) = At r.link.offset (r.link.offset + size r.link) r.link.id (length r.before) (tried f (some r))

unfoldable pub opened_case : List ℕ → Result Opened ℕ
opened_case f = at_opened (Err 1) (λ o. Ok (found_case f o)) f

-- the number and the values of each case; 'opening's 2 also the boundaries tried'
unfoldable pub opened_answer : Result Opened ℕ → Answer
opened_answer (Ok (At offset end id count t)) = Accepted (offset ∷ end ∷ id ∷ count ∷ t ∷ [])
opened_answer (Ok (NoManifest t)) = Refusal 2 (t ∷ [])
opened_answer (Err n) = Refusal n []

-- what opening answers about a file
unfoldable pub open_answer : List ℕ → Answer
open_answer f = opened_answer (opened_case f)

-- what an array for the values holds after the call: the values, or what it held; where no manifest is found, the boundaries tried at index 4
-- alone
unfoldable pub open_out : List ℕ → Answer → List ℕ
open_out out (Accepted vs) = sets out 0 vs
open_out out (Refusal n []) = out
open_out out (Refusal n (t ∷ ts)) = set out 4 t
