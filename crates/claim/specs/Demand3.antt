-- THE CLAIM of document 01's demand 3, over every list of appends, accepted or refused. Definitions only, in the order of 01's sentences; the
-- theorem stands in Theorem.antt.
-- Assumes nothing.
use Rattle.std.specs.Prelude.{ℕ, ◌+◌, ◌-◌, ◌/◌, ◌^◌, ◌≤◌, ◌<◌, ◌≡◌, Bool, true, false, cond, List, [], ◌∷◌, ◌++◌, leb, ltb, length, take, drop, get_or}
use Rattle.std.proofs.Math.Option.{Option, none, some}
use Rattle.answers.specs.limits.Limits.{max_file}
use Rattle.answers.specs.Answer.{Answer, Accepted, Refusal}
use Rattle.segment.specs.chain.Chain.{All, Found}
use Rattle.segment.specs.Header.{Link, no_link}
use Rattle.manifest.specs.Opening.{opened, open_answer}
use Rattle.manifest.specs.Directory.{entry_of, entry_case}
use Rattle.manifest.specs.declared.DirectoryEntry.{DirectoryEntry}
use Rattle.std.specs.Prelude.{Result, Ok, Some, None}
use Rattle.std.specs.Prelude.{Option as Maybe}
use Rattle.reading.specs.Answers.{part_in, vector_case, vector_after, value_in}
use Rattle.reading.specs.Part.{InFile}
use Rattle.reading.specs.Listing.{max_listed, list_with}
use Rattle.compacting.specs.Compact.{compact_case, compact_buffer}
use Rattle.appending.specs.Append.{start_of, append_answer, Appends, Holds}
use Rattle.claim.specs.Model.{Entry, links_of, states_of, Model, empty_model, model_of, Fed, feed_all}

-- ---- lists of appends

-- a call's arguments other than the file, and its answer
pub record Call : Type 0 where
  pub batch : List ℕ
  pub retiring : List ℕ
  pub timestamp : ℕ
  pub answer : Answer

unfoldable pub is_accepted : Answer → Bool
is_accepted (Accepted vs) = true
is_accepted (Refusal n vs) = false

-- 'After an accepted append N is the end answered; after a refused one N and the bytes are as before'
unfoldable pub file_after : List ℕ → List ℕ → Answer → List ℕ
file_after f new (Accepted vs) = take (get_or vs 0 0) new
file_after f new (Refusal n vs) = f

-- from a file, by a list of calls, to a file: 'The file is the buffer's first N bytes', 'the buffer behind it may differ from call to call', and
-- it may be shorter than the file. Each call did what the contract of an append says.
pub data Run : List ℕ → List Call → List ℕ → Type 0 where
  stop : {f : List ℕ} → Run f [] f
  call : {f g old new batch ids : List ℕ} {ts : ℕ} {answer : Answer} {cs : List Call} → Holds old f → ts < 2 ^ 64
      → Appends old (length f) batch ids ts answer new → Run (file_after f new answer) cs g
      → Run f (record { batch = batch; retiring = ids; timestamp = ts; answer = answer } ∷ cs) g

-- 'The book is fed each append's arguments other than the file, and whether it was accepted'
abbrev pub fed_of : Call → Fed
fed_of c = record { batch = c.batch; retiring = c.retiring; timestamp = c.timestamp; accepted = is_accepted c.answer }

unfoldable pub fed_all : List Call → List Fed
fed_all [] = []
fed_all (c ∷ cs) = fed_of c ∷ fed_all cs

-- 'For an empty file', and 'for one that opens': the files that a list starts from, each with its model
pub data Starts : List ℕ → Model → Type 0 where
  empty : Starts [] empty_model
  opens : {f : List ℕ} {r : Found Link} → length f ≤ max_file → opened f ≡ some r → Starts f (model_of r)

-- ---- after the list

-- the directory's entry with an index, as the model has it
unfoldable pub entry_by : List Entry → ℕ → Result (Maybe DirectoryEntry) ℕ
entry_by es i = Ok (cond (leb (length es) i) None (Some (entry_of (get_or (links_of es) i no_link) (get_or (states_of es) i 0))))

-- what the last accepted append answered
unfoldable pub or_before : Option Answer → Answer → Option Answer
or_before (some a) b = some a
or_before none (Accepted vs) = some (Accepted vs)
or_before none (Refusal n vs) = none

unfoldable pub last_accepted : List Call → Option Answer
last_accepted [] = none
last_accepted (c ∷ cs) = or_before (last_accepted cs) c.answer

pub record Claim (cs : List Call) (g : List ℕ) (k : Model) : Type 0 where
  -- 'After the list, opening refuses 2 if the book has no manifest'
  pub refuses : k.manifest ≡ none → open_answer g ≡ Refusal 2 (length g / 64 ∷ [])
  -- 'Else it answers that manifest's offset and id, the book's end, and as c the number of its entries'
  pub answers : (m : Entry) → k.manifest ≡ some m
      → open_answer g ≡ Accepted (m.link.offset ∷ k.end ∷ m.link.id ∷ length k.entries ∷ (length g / 64 - m.link.offset / 64) ∷ [])
  -- 'the directory is those entries'
  pub directory : (m : Entry) → k.manifest ≡ some m → (i : ℕ) → entry_case g i ≡ entry_by k.entries i
  -- 'The last accepted append answered the same end, id and c'
  pub last : (m : Entry) → k.manifest ≡ some m → (a : Answer) → last_accepted cs ≡ some a
      → a ≡ Accepted (k.end ∷ m.link.id ∷ length k.entries ∷ [])
  -- 'After an accepted append N is the end answered', also behind later refusals
  pub ends : (a : Answer) → last_accepted cs ≡ some a → length g ≡ k.end
  -- 'Each accepted body lies at its entry's offset + 64': every entry's payload does, and the model gives each body an entry of its own
  pub lies : All (InFile g) (links_of k.entries)

-- ---- what each call leaves alone

-- 'Bytes before the start and from the new end on keep their values'; a refused call changes nothing
unfoldable pub LeftAlone : List ℕ → List ℕ → List ℕ → Answer → Type 0
LeftAlone f old new (Accepted vs) = (take (start_of (opened f)) new ≡ take (start_of (opened f)) old) × (drop (get_or vs 0 0) new ≡ drop (get_or vs 0 0) old)
LeftAlone f old new (Refusal n vs) = new ≡ old

unfoldable pub Untouched : {f g : List ℕ} {cs : List Call} → Run f cs g → Type 0
Untouched stop = Unit {0}
Untouched (call {f = f} {old = old} {new = new} {answer = answer} h t p r) = LeftAlone f old new answer × Untouched r

-- ---- a drop-out

-- 'only the boundaries tried (the places searched) may differ': opening's answer without them
unfoldable pub without_tried : Answer → Answer
without_tried (Accepted vs) = Accepted (take 4 vs)
without_tried (Refusal n vs) = Refusal n []

-- 'A reading answer is all that a call answers about a lent file it doesn't write: numbers, refusal, bytes written to a buffer, a part by its place,
-- length and bytes': every reading call answers alike on two files. Each later reading call joins here.
pub record Alike (f g : List ℕ) : Type 0 where
  pub opening : without_tried (open_answer f) ≡ without_tried (open_answer g)
  pub entry : (i : ℕ) → entry_case f i ≡ entry_case g i
  pub payload : (id : ℕ) → part_in f id ≡ part_in g id
  pub vector : (id : ℕ) (buf : List ℕ) → vector_case f id buf ≡ vector_case g id buf
  pub buffer : (id : ℕ) (buf : List ℕ) → vector_after f id buf ≡ vector_after g id buf
  pub component : (id i : ℕ) → value_in f id i ≡ value_in g id i
  pub compaction : (buf : List ℕ) → compact_case f buf ≡ compact_case g buf
  pub written : (buf : List ℕ) → compact_buffer f buf ≡ compact_buffer g buf
  -- the lister's text with any number in the place of the boundaries tried; its own limit is 'no reading answer of demand 3'
  pub listing : length f ≤ max_listed → length g ≤ max_listed → (t : ℕ) → list_with t f ≡ list_with t g

-- a last accepted append of a list: the calls before it, the file that it got, the call itself, and the calls behind it, all refused
pub record LastAppend (f : List ℕ) (cs : List Call) (g : List ℕ) : Type 0 where
  pub earlier : List Call
  pub got : List ℕ
  pub run : Run f earlier got
  pub old : List ℕ
  pub new : List ℕ
  pub batch : List ℕ
  pub retiring : List ℕ
  pub timestamp : ℕ
  pub values : List ℕ
  pub holds : Holds old got
  pub fits : timestamp < 2 ^ 64
  pub appends : Appends old (length got) batch retiring timestamp (Accepted values) new
  pub later : List Call
  pub then : Run (take (get_or values 0 0) new) later g
  pub refused : last_accepted later ≡ none
  pub split : cs ≡ earlier ++ (record { batch = batch; retiring = retiring; timestamp = timestamp; answer = Accepted values } ∷ later)

-- 'A cut file is the bytes up to the start and the first k new ones, k from 0 to new end - start - 1'
unfoldable pub cut_at : List ℕ → List ℕ → ℕ → List ℕ
cut_at f g k = take (start_of (opened f) + k) g

pub record CutShort {f g : List ℕ} {cs : List Call} (l : LastAppend f cs g) (k : ℕ) : Type 0 where
  -- 'it is equal on the cut file and on the file that the last accepted append got'
  pub alike : Alike (cut_at l.got g k) l.got
  -- '(Where the start was 0 and k is above 0, appending to it answers 2.)', and 9 where the buffer is shorter than the cut file
  pub again : start_of (opened l.got) ≡ 0 → 0 < k → (old batch ids : List ℕ) → Holds old (cut_at l.got g k)
      → append_answer old (length (cut_at l.got g k)) batch ids ≡ cond (ltb (length old) (length (cut_at l.got g k))) (Refusal 9 []) (Refusal 2 [])

-- ---- all of it, of a list that starts from a model

pub record Demand3 {f g : List ℕ} {cs : List Call} (k : Model) (r : Run f cs g) : Type 0 where
  pub claim : Claim cs g (feed_all (fed_all cs) k)
  pub untouched : Untouched r
  -- a list with an accepted append has a last one, and each last one may be cut short anywhere before its last byte
  pub dropped : (a : Answer) → last_accepted cs ≡ some a → LastAppend f cs g
  pub cut : (l : LastAppend f cs g) (k : ℕ) → k < get_or l.values 0 0 - start_of (opened l.got) → CutShort l k

-- a start that has no model: neither empty nor a file within the limit that opens. Every append refuses, and the file stays.
unfoldable pub Closed : List ℕ → Type 0
Closed f = (0 < length f) × (length f ≤ max_file → opened f ≡ none)
