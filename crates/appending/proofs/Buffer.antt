-- One accepted append, on any file and any buffer that holds it: what the file is then, what opening it finds, and what opening it cut short finds.
-- Assumes nothing.
use Rattle.std.specs.Prelude.{ℕ, ◌+◌, ◌^◌, ◌≤◌, ◌<◌, ◌≡◌}
use Rattle.std.proofs.Math.Path.{sym, ap}
use Rattle.std.proofs.Common.{◌∙◌, arith, take_at, drop_at}
use Rattle.std.proofs.Math.Option.{Option, some}
use mathlib.Core.List.{List, [], ◌∷◌, ◌++◌, append_assoc}
use Rattle.std.proofs.Math.ListN.{length, take, drop, length-append, length-take}
use Rattle.std.proofs.Math.Seq.{take-take, take-length, take-append-add, length-take-le}
use Rattle.std.proofs.lemmas.List.{take-append-le}
use Rattle.octets.specs.Over.{over}
use Rattle.octets.specs.Round.{round64}
use Rattle.answers.specs.Answer.{Accepted}
use Rattle.segment.proofs.chain.Last as last
use Rattle.segment.specs.chain.Chain.{Found, up_to, open_of}
use Rattle.segment.specs.Header.{Link, start, reader, size}
use Rattle.segment.proofs.Laws.{segment_format}
use Rattle.segment.specs.Written.{link_of}
use Rattle.segment.proofs.WrittenLaws.{link_of_size}
use Rattle.manifest.specs.Payload.{manifest_kind, payload_length, confirmed}
use Rattle.manifest.specs.Opening.{opened, states}
use Rattle.batch.specs.Form.{Body, bodies_of}
use Rattle.appending.specs.Append.{kept_links, start_of, next_id, body_links, manifest_at, manifest_id, new_count, new_end, new_links, new_states, new_payload, new_bytes, answer_on, append_answer, buffer_on, append_buffer, Appends, Holds}
use Rattle.appending.proofs.Accepts.{Fits, accepted_when}
use Rattle.appending.proofs.Written.{bodies_held, bodies_never}
use Rattle.appending.proofs.Opens.{kept, new_manifest, file_with, cut_file, links_count, new_payload_length, new_states_are, new_confirmed, new_length, new_exact}

-- ---- the start lies in the file

module _ (f : List ℕ) where
  pub kept_is : last.kept_of reader confirmed start f ≡ take (start_of (opened f)) f
  unfolding last.kept_of opened
  kept_is = ap (λ (n : ℕ). take n f) (kept f).sizes_is

  pub start_inside : start_of (opened f) ≤ length f
  unfolding opened
  start_inside =
      let n : length (take (start_of (opened f)) f) ≡ start_of (opened f) = sym (ap length kept_is) ∙ last.kept_length reader confirmed start segment_format f ∙ (kept f).sizes_is in
      omega (arith, length-take (start_of (opened f)) f)

-- ---- opening after it

module _ (f : List ℕ) (room n : ℕ) (batch ids : List ℕ) (ts : ℕ) (h : ts < 2 ^ 64) (y : Fits room n (opened f) batch ids) where
  abbrev bs : List Body
  bs = bodies_of batch

  abbrev o : Option (Found Link)
  o = opened f

  pub open_with : opened (file_with f bs ids ts) ≡ some (record { before = new_links o bs ts; link = new_manifest o bs ids ts })
  unfolding opened file_with new_links
  open_with =
      ap (λ (x : List ℕ). open_of reader confirmed start (x ++ new_bytes o bs ids ts)) (sym (kept_is f))
      ∙ last.open_append reader confirmed start segment_format f (new_bytes o bs ids ts) (body_links (start_of o) (next_id o) ts bs) (new_manifest o bs ids ts)
      (new_exact o (kept f) bs ids ts h (bodies_held batch y.batch_is_held) y.id_fits y.end_limit)
      (new_confirmed o (kept f) bs ids ts y.count_fits y.retire_is_held)

  -- the states of the directory that is found then
  pub states_with : states (record { before = new_links o bs ts; link = new_manifest o bs ids ts }) ≡ new_states o bs ids
  unfolding states new_manifest link_of
  states_with = new_states_are o (kept f) bs ids ts

  -- cut short, what was found before is found
  pub open_cut : (k : ℕ) → k < length (new_bytes o bs ids ts) → opened (cut_file f bs ids ts k) ≡ opened f
  unfolding opened cut_file
  open_cut k l =
      ap (λ (x : List ℕ). open_of reader confirmed start (x ++ take k (new_bytes o bs ids ts))) (sym (kept_is f))
      ∙ last.open_cut reader confirmed start segment_format f (new_bytes o bs ids ts) (body_links (start_of o) (next_id o) ts bs) (new_manifest o bs ids ts)
      (new_exact o (kept f) bs ids ts h (bodies_held batch y.batch_is_held) y.id_fits y.end_limit)
      (bodies_never ts (start_of o) (next_id o) bs (bodies_held batch y.batch_is_held)) k l

  pub with_length : length (file_with f bs ids ts) ≡ new_end o bs
  unfolding file_with
  with_length =
      let s = start_inside f in
      let a = length-append (take (start_of o) f) (new_bytes o bs ids ts) in
      let b = length-take-le (start_of o) f s in
      omega (arith, new_length o (kept f) bs ids ts)

pub record AppendedBy (f old : List ℕ) (batch ids : List ℕ) (ts : ℕ) (vs new : List ℕ) : Type 0 where
  pub fits : Fits (length old) (length f) (opened f) batch ids
  pub values : vs ≡ new_end (opened f) (bodies_of batch) ∷ manifest_id (opened f) (bodies_of batch) ∷ new_count (opened f) (bodies_of batch) ∷ []
  pub buffer : new ≡ over old (start_of (opened f)) (new_bytes (opened f) (bodies_of batch) ids ts)
  pub front : take (start_of (opened f)) old ≡ take (start_of (opened f)) f

module _ (f old : List ℕ) (batch ids : List ℕ) (ts : ℕ) (hold : Holds old f) where
  -- a call is answered as the file says
  pub answer_is : length f ≤ length old → append_answer old (length f) batch ids ≡ answer_on (length old) (length f) (opened f) batch ids
  unfolding append_answer
  answer_is l = ap (λ (x : List ℕ). answer_on (length old) (length f) (opened x) batch ids) (hold l)

  module _ (vs new : List ℕ) (a : Appends old (length f) batch ids ts (Accepted vs) new) where
    -- it was accepted, so the buffer is long enough
    in_buffer : length f ≤ length old
    unfolding append_answer
    in_buffer = (accepted_when (length old) (length f) (opened (take (length f) old)) batch ids vs (sym a.answers)).0.in_buffer

    pub appended : AppendedBy f old batch ids ts vs new
    unfolding append_buffer buffer_on
    appended =
        let q : answer_on (length old) (length f) (opened f) batch ids ≡ Accepted vs = sym (a.answers ∙ answer_is in_buffer) in
        let w = accepted_when (length old) (length f) (opened f) batch ids vs q in
        let s = start_inside f in
        record {
          fits = w.0;
          values = w.1;
          buffer =
              a.leaves
              ∙ ap (buffer_on (opened (take (length f) old)) old (bodies_of batch) ids ts) (sym a.answers)
              ∙ ap (λ (x : List ℕ). over old (start_of (opened x)) (new_bytes (opened x) (bodies_of batch) ids ts)) (hold in_buffer);
          front = sym (ap (take (start_of (opened f))) (sym (hold in_buffer)) ∙ take-take (start_of (opened f)) (length f) old s);
        }

module _ (f old : List ℕ) (batch ids : List ℕ) (ts : ℕ) (vs new : List ℕ) (a : AppendedBy f old batch ids ts vs new) where
  abbrev was : Option (Found Link)
  was = opened f

  abbrev bodies : List Body
  bodies = bodies_of batch

  abbrev bytes : List ℕ
  bytes = new_bytes (opened f) (bodies_of batch) ids ts

  split : new ≡ take (start_of was) f ++ (bytes ++ drop (start_of was + length bytes) old)
  unfolding over
  split = a.buffer ∙ ap (λ (x : List ℕ). x ++ (bytes ++ drop (start_of was + length bytes) old)) a.front

  front_length : length (take (start_of was) f) ≡ start_of was
  front_length = length-take-le (start_of was) f (start_inside f)

  -- the first so many bytes behind the start
  pub some_new : (k : ℕ) → k ≤ length bytes → take (start_of was + k) new ≡ cut_file f bodies ids ts k
  unfolding cut_file
  some_new k h =
      ap (take (start_of was + k)) split
      ∙ ap (λ (m : ℕ). take (m + k) (take (start_of was) f ++ (bytes ++ drop (start_of was + length bytes) old))) (sym front_length)
      ∙ take-append-add (take (start_of was) f) (bytes ++ drop (start_of was + length bytes) old) k
      ∙ ap (λ (x : List ℕ). take (start_of was) f ++ x) (take-append-le k bytes (drop (start_of was + length bytes) old) h)

  -- the file is what was kept, and the new bytes
  pub file_is : take (new_end was bodies) new ≡ file_with f bodies ids ts
  unfolding file_with cut_file
  file_is =
      let n : start_of was + length bytes ≡ new_end was bodies = new_length was (kept f) bodies ids ts in
      ap (λ (m : ℕ). take m new) (sym n) ∙ some_new (length bytes) (omega arith) ∙ ap (λ (x : List ℕ). take (start_of was) f ++ x) (take-length bytes)

  -- 'Bytes before the start and from the new end on keep their values'
  pub before_start : take (start_of was) new ≡ take (start_of was) old
  before_start = ap (take (start_of was)) split ∙ take_at (take (start_of was) f) (bytes ++ drop (start_of was + length bytes) old) (start_of was) front_length ∙ sym a.front

  pub behind_end : drop (new_end was bodies) new ≡ drop (new_end was bodies) old
  behind_end =
      let n : start_of was + length bytes ≡ new_end was bodies = new_length was (kept f) bodies ids ts in
      let p : length (take (start_of was) f ++ bytes) ≡ new_end was bodies = length-append (take (start_of was) f) bytes ∙ omega (arith, front_length) in
      ap (drop (new_end was bodies)) (split ∙ sym (append_assoc (take (start_of was) f) bytes (drop (start_of was + length bytes) old)))
      ∙ drop_at (take (start_of was) f ++ bytes) (drop (start_of was + length bytes) old) (new_end was bodies) p
      ∙ ap (λ (m : ℕ). drop m old) n

-- ---- what the next append goes on from

-- a new manifest takes so many bytes
pub next_size : (f : List ℕ) (batch ids : List ℕ) (ts : ℕ)
    → size (new_manifest (opened f) (bodies_of batch) ids ts) ≡ 64 + round64 (payload_length (new_count (opened f) (bodies_of batch)))
unfolding new_manifest
next_size f batch ids ts =
    link_of_size (manifest_at (opened f) (bodies_of batch)) manifest_kind 0 (manifest_id (opened f) (bodies_of batch)) ts (new_payload (opened f) (bodies_of batch) ids ts)
    ∙ ap (λ (n : ℕ). 64 + round64 n) (new_payload_length (opened f) (kept f) (bodies_of batch) ids ts)

module _ (f : List ℕ) (room n : ℕ) (batch ids : List ℕ) (ts : ℕ) (h : ts < 2 ^ 64) (y : Fits room n (opened f) batch ids) where
  pub next_start : start_of (opened (file_with f (bodies_of batch) ids ts)) ≡ new_end (opened f) (bodies_of batch)
  unfolding start_of new_manifest link_of new_end
  next_start = ap start_of (open_with f room n batch ids ts h y) ∙ ap (λ (k : ℕ). manifest_at (opened f) (bodies_of batch) + k) (next_size f batch ids ts)

  pub next_next : next_id (opened (file_with f (bodies_of batch) ids ts)) ≡ manifest_id (opened f) (bodies_of batch) + 1
  unfolding next_id new_manifest link_of
  next_next = ap next_id (open_with f room n batch ids ts h y)

  pub next_count : length (kept_links (opened (file_with f (bodies_of batch) ids ts))) ≡ new_count (opened f) (bodies_of batch) + 1
  unfolding up_to
  next_count =
      ap (λ (o : Option (Found Link)). length (kept_links o)) (open_with f room n batch ids ts h y)
      ∙ length-append (new_links (opened f) (bodies_of batch) ts) (new_manifest (opened f) (bodies_of batch) ids ts ∷ [])
      ∙ ap (λ (k : ℕ). k + 1) (links_count (opened f) (kept f) (bodies_of batch) ids ts)
