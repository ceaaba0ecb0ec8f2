-- The model of a file (document 01's 'book'): fed each append's arguments other than the file, and whether it was accepted. It shares the format's
-- definitions, and nothing of what appending does. Definitions only, in the order of 01's sentences.
-- Assumes nothing.
use Rattle.std.specs.Prelude.{ℕ, ◌+◌, Bool, cond, List, [], ◌∷◌, ◌++◌, map, drop, get_or}
use Rattle.std.proofs.Math.Option.{Option, none, some}
use Rattle.segment.specs.chain.Chain.{Found}
use Rattle.segment.specs.Header.{Link, size}
use Rattle.segment.specs.Written.{link_of}
use Rattle.manifest.specs.Payload.{manifest_kind, manifest_payload}
use Rattle.manifest.specs.Opening.{states}
use Rattle.batch.specs.Form.{Body, bodies_of, member}

-- an entry: the segment as the chain has it, and its state
pub record Entry : Type 0 where
  pub link : Link
  pub state : ℕ

abbrev pub links_of : List Entry → List Link
links_of es = map (λ e. e.link) es

abbrev pub states_of : List Entry → List ℕ
states_of es = map (λ e. e.state) es

abbrev pub live_entry : Link → Entry
live_entry l = record { link = l; state = 0 }

-- 'It holds an end, a next id, entries and a manifest's entry'
pub record Model : Type 0 where
  pub end : ℕ
  pub next : ℕ
  pub entries : List Entry
  pub manifest : Option Entry

-- 'For an empty file it starts with 0, 0, none, none'
unfoldable pub empty_model : Model
empty_model = record { end = 0; next = 0; entries = []; manifest = none }

-- 'for one that opens, with the manifest's end, its id + 1, the directory and the manifest as the chain has it, live'
unfoldable pub paired : List Link → List ℕ → List Entry
paired [] ss = []
paired (l ∷ ls) ss = record { link = l; state = get_or ss 0 0 } ∷ paired ls (drop 1 ss)

unfoldable pub model_of : Found Link → Model
model_of r =
    record { end = r.link.offset + size r.link; next = r.link.id + 1; entries = paired r.before (states r); manifest = some (live_entry r.link) }

-- ---- an accepted append

-- 'named entries become retired'
unfoldable pub retired_if : List ℕ → Entry → Entry
retired_if ids e = cond (member e.link.id ids) (record { link = e.link; state = 1 }) e

unfoldable pub retire : List ℕ → Model → Model
retire ids k = record { end = k.end; next = k.next; entries = map (retired_if ids) k.entries; manifest = k.manifest }

-- 'The manifest's entry, if any, joins the entries'
unfoldable pub if_any : Option Entry → List Entry
if_any none = []
if_any (some e) = e ∷ []

unfoldable pub join_manifest : Model → Model
join_manifest k = record { end = k.end; next = k.next; entries = k.entries ++ if_any k.manifest; manifest = k.manifest }

-- 'Then each body in line order joins, live, with the end as offset and the next id; the end goes up by 64 + length, rounded up to a multiple of
-- 64, the next id by 1'
unfoldable pub join_body : ℕ → Body → Model → Model
join_body ts b k =
    let l = link_of k.end b.kind b.flags k.next ts b.payload in
    record { end = k.end + size l; next = k.next + 1; entries = k.entries ++ (live_entry l ∷ []); manifest = k.manifest }

unfoldable pub join_bodies : ℕ → List Body → Model → Model
join_bodies ts [] k = k
join_bodies ts (b ∷ bs) k = join_bodies ts bs (join_body ts b k)

-- 'The new manifest takes offset and id alike, and both go up alike; its payload is the form above for the entries now held, and its entry, live, is
-- now the manifest's entry'
unfoldable pub new_manifest_entry : ℕ → Model → Model
new_manifest_entry ts k =
    let l = link_of k.end manifest_kind 0 k.next ts (manifest_payload (links_of k.entries) (states_of k.entries) k.end k.next) in
    record { end = k.end + size l; next = k.next + 1; entries = k.entries; manifest = some (live_entry l) }

-- ---- the list

-- what the model is fed
pub record Fed : Type 0 where
  pub batch : List ℕ
  pub retiring : List ℕ
  pub timestamp : ℕ
  pub accepted : Bool

unfoldable pub accepted_model : List ℕ → List ℕ → ℕ → Model → Model
accepted_model batch ids ts k = new_manifest_entry ts (join_bodies ts (bodies_of batch) (join_manifest (retire ids k)))

-- 'A refused append changes nothing in it'
unfoldable pub feed : Fed → Model → Model
feed x k = cond x.accepted (accepted_model x.batch x.retiring x.timestamp k) k

unfoldable pub feed_all : List Fed → Model → Model
feed_all [] k = k
feed_all (x ∷ xs) k = feed_all xs (feed x k)
