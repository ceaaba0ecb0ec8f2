-- The claim holds of every list: what agreement with the model says of the calls, and what each call leaves alone.
-- Assumes nothing.
use Rattle.std.specs.Prelude.{ℕ, ◌+◌, ◌-◌, ◌/◌, ◌^◌, ◌<◌, ◌≡◌, true, take, get_or}
use Rattle.std.proofs.Math.Path.{refl, sym, ap}
use Rattle.std.proofs.Common.{◌∙◌, true≢false, arith, length-append}
use Rattle.std.proofs.Math.Option.{Option, none, some, some-injective}
use mathlib.Core.List.{List, [], ◌∷◌, ◌++◌}
use Rattle.std.proofs.Math.ListN.{length, length-map}
use Rattle.answers.specs.Answer.{Answer, Accepted, Refusal}
use Rattle.segment.specs.chain.Chain.{All, Found, up_to}
use Rattle.segment.specs.Header.{Link, size}
use Rattle.manifest.specs.Opening.{opened, states, tried, found_case, opened_answer, open_answer}
use Rattle.manifest.proofs.OpeningLaws.{at_within, open_within}
use Rattle.manifest.specs.Directory.{entry_in, entry_case}
use Rattle.std.specs.Prelude.{Ok, Err}
use Rattle.reading.specs.Part.{InFile}
use Rattle.reading.proofs.Placed.{before_in}
use Rattle.batch.specs.Form.{bodies_of}
use Rattle.appending.specs.Append.{start_of, old_states, kept_links, new_end, buffer_on, append_buffer, Appends, Holds}
use Rattle.appending.proofs.Buffer.{AppendedBy, appended, before_start, behind_end, file_is, with_length}
use Rattle.claim.specs.Model.{Entry, links_of, states_of, Model, if_any, feed_all}
use Rattle.claim.specs.Demand3.{Call, is_accepted, file_after, Run, stop, call, fed_all, Starts, empty, opens, entry_by, or_before, last_accepted, Claim, LeftAlone, Untouched}
use Rattle.claim.proofs.Agree.{Agree, found_by, run_agrees, agree_empty, agree_opened}
use Rattle.claim.specs.Reports.{reported}
use Rattle.claim.proofs.Reports.{last_reported, refused_run}

-- ---- what agreement says of the calls

module _ (g : List ℕ) (k : Model) (a : Agree g k) where
  no_manifest : k.manifest ≡ none → opened g ≡ none
  unfolding found_by
  no_manifest e = a.opens ∙ ap (found_by k.entries) e

  has-manifest : (m : Entry) → k.manifest ≡ some m → opened g ≡ some (record { before = links_of k.entries; link = m.link })
  unfolding found_by
  has-manifest m e = a.opens ∙ ap (found_by k.entries) e

  pub opening_refuses : k.manifest ≡ none → open_answer g ≡ Refusal 2 (length g / 64 ∷ [])
  unfolding opened_answer found_case tried
  opening_refuses e = open_within g a.fits ∙ ap (λ (o : Option (Found Link)). opened_answer (Ok (found_case g o))) (no_manifest e)

  pub opening_answers : (m : Entry) → k.manifest ≡ some m
      → open_answer g ≡ Accepted (m.link.offset ∷ k.end ∷ m.link.id ∷ length k.entries ∷ (length g / 64 - m.link.offset / 64) ∷ [])
  unfolding opened_answer found_case tried start_of
  opening_answers m e =
      let o = has-manifest m e in
      let z : m.link.offset + size m.link ≡ k.end = sym (ap start_of o) ∙ a.end_is in
      let n : length (links_of k.entries) ≡ length k.entries = length-map k.entries (λ (x : Entry). x.link) in
      open_within g a.fits ∙ ap (λ (o : Option (Found Link)). opened_answer (Ok (found_case g o))) o ∙ rw (z, n)

  pub directory_is : (m : Entry) → k.manifest ≡ some m → (i : ℕ) → entry_case g i ≡ entry_by k.entries i
  unfolding entry_case entry_in entry_by old_states
  directory_is m e i =
      let o = has-manifest m e in
      let n : length (links_of k.entries) ≡ length k.entries = length-map k.entries (λ (x : Entry). x.link) in
      let s : states (record { before = links_of k.entries; link = m.link }) ≡ states_of k.entries = sym (ap old_states o) ∙ a.states_are in
      at_within (Err 1) (entry_in i) g a.fits ∙ ap (entry_in i) o ∙ rw (n, s)

  pub entries_lie : All (InFile g) (links_of k.entries)
  unfolding found_by All up_to
  entries_lie = go k.manifest refl
    where
      none_left : (es : List Entry) → length es ≡ 0 → All (InFile g) (links_of es)
      none_left [] e = tt
      none_left (x ∷ es) e = absurd (omega arith)

      go : (o : Option Entry) → k.manifest ≡ o → All (InFile g) (links_of k.entries)
      go none e =
          let z : [] ≡ links_of (k.entries ++ if_any k.manifest) = sym (ap kept_links (no_manifest e)) ∙ a.kept_are in
          let n = length-map (k.entries ++ if_any k.manifest) (λ (x : Entry). x.link) in
          let m = length-append k.entries (if_any k.manifest) in
          none_left k.entries (omega (arith, ap length z))
      go (some m) e = before_in g (record { before = links_of k.entries; link = m.link }) (has-manifest m e)

-- ---- the files that a list may start from

pub starts_agree : {f : List ℕ} {k : Model} → Starts f k → Agree f k
starts_agree empty = agree_empty
starts_agree (opens {f = f} {r = r} h e) = agree_opened f r h e

-- ---- the file ends where the last accepted append said

-- after an accepted append the file is as long as its end
pub accepted_length : (f old new batch ids vs : List ℕ) (ts : ℕ) → ts < 2 ^ 64 → Holds old f → Appends old (length f) batch ids ts (Accepted vs) new
    → length (take (get_or vs 0 0) new) ≡ get_or vs 0 0
accepted_length f old new batch ids vs ts t h p =
    let w : AppendedBy f old batch ids ts vs new = appended f old batch ids ts h vs new p in
    let e : get_or vs 0 0 ≡ new_end (opened f) (bodies_of batch) = ap (λ (x : List ℕ). get_or x 0 0) w.values in
    ap (λ (n : ℕ). length (take n new)) e
    ∙ ap length (file_is f old batch ids ts vs new w)
    ∙ with_length f (length old) (length f) batch ids ts t w.fits
    ∙ sym e

-- what the last accepted append answered is no refusal
some_accepted : (cs : List Call) (a : Answer) → last_accepted cs ≡ some a → is_accepted a ≡ true
unfolding last_accepted or_before is_accepted
some_accepted [] a e = absurd (let w : ◌≡◌ {A = ℕ} 0 1 = cc in omega arith)
some_accepted (c ∷ cs) a e = go (last_accepted cs) refl c.answer e (some_accepted cs a)
  where
    go : (o : Option Answer) → last_accepted cs ≡ o → (b : Answer) → or_before o b ≡ some a → (last_accepted cs ≡ some a → is_accepted a ≡ true) → is_accepted a ≡ true
    go (some x) q b z ih = ih (q ∙ z)
    go none q (Accepted vs) z ih = ap is_accepted (sym (some-injective _ _ z))
    go none q (Refusal n vs) z ih = absurd (let w : ◌≡◌ {A = ℕ} 0 1 = cc in omega arith)

-- the end that an append answers
unfoldable end_of : Answer → ℕ
end_of (Accepted vs) = get_or vs 0 0
end_of (Refusal n vs) = 0

run_ends : {f g : List ℕ} {cs : List Call} → Run f cs g → (a : Answer) → last_accepted cs ≡ some a → length g ≡ end_of a
unfolding last_accepted or_before file_after end_of
run_ends stop a e = absurd (let w : ◌≡◌ {A = ℕ} 0 1 = cc in omega arith)
run_ends (call {f = f} {g = g} {old = old} {new = new} {batch = batch} {ids = ids} {ts = ts} {answer = answer} {cs = cs} h t p r) a e =
    go (last_accepted cs) refl answer p r e (λ z. run_ends r a z)
  where
    go : (o : Option Answer) → last_accepted cs ≡ o → (answer : Answer) → Appends old (length f) batch ids ts answer new
        → Run (file_after f new answer) cs g → or_before o answer ≡ some a → (last_accepted cs ≡ some a → length g ≡ end_of a) → length g ≡ end_of a
    go (some b) q answer p r z ih = ih (q ∙ z)
    go none q (Accepted vs) p r z ih =
        ap length (refused_run r q) ∙ accepted_length f old new batch ids vs ts t h p ∙ ap end_of (some-injective _ _ z)
    go none q (Refusal n vs) p r z ih = absurd (let w : ◌≡◌ {A = ℕ} 0 1 = cc in omega arith)

-- ---- whatever calls were made, each as the contract of an append says, the claim holds of the file and the model after them

pub every_run : {f g : List ℕ} {cs : List Call} {k : Model} → Starts f k → Run f cs g → Claim cs g (feed_all (fed_all cs) k)
unfolding reported end_of is_accepted
every_run {g = g} {cs = cs} {k = k} s r =
    let a = run_agrees k r (starts_agree s) in
    record {
      refuses = opening_refuses _ _ a;
      answers = opening_answers _ _ a;
      directory = directory_is _ _ a;
      last = λ m e x q. last_reported k r (starts_agree s) x q ∙ ap (reported (feed_all (fed_all cs) k)) e;
      ends = λ x q. run_ends r x q ∙ ends_at (feed_all (fed_all cs) k).manifest x (last_reported k r (starts_agree s) x q) (some_accepted cs x q);
      lies = entries_lie _ _ a;
    }
  where
    ends_at : (o : Option Entry) (x : Answer) → x ≡ reported (feed_all (fed_all cs) k) o → is_accepted x ≡ true → end_of x ≡ (feed_all (fed_all cs) k).end
    ends_at none x e q = absurd (true≢false (sym q ∙ ap is_accepted e))
    ends_at (some m) x e q = ap end_of e

-- ---- what each call leaves alone

call_leaves : (f old new batch ids : List ℕ) (ts : ℕ) (answer : Answer) → Holds old f → Appends old (length f) batch ids ts answer new → LeftAlone f old new answer
unfolding LeftAlone append_buffer buffer_on
call_leaves f old new batch ids ts (Accepted vs) h p =
    let w : AppendedBy f old batch ids ts vs new = appended f old batch ids ts h vs new p in
    let e : get_or vs 0 0 ≡ new_end (opened f) (bodies_of batch) = ap (λ (x : List ℕ). get_or x 0 0) w.values in
    (before_start f old batch ids ts vs new w, rw e (behind_end f old batch ids ts vs new w))
call_leaves f old new batch ids ts (Refusal n vs) h p = p.leaves ∙ ap (buffer_on (opened (take (length f) old)) old (bodies_of batch) ids ts) (sym p.answers)

pub every_call : {f g : List ℕ} {cs : List Call} (r : Run f cs g) → Untouched r
unfolding Untouched
every_call stop = tt
every_call (call {f = f} {old = old} {new = new} {batch = batch} {ids = ids} {ts = ts} {answer = answer} h t p r) = (call_leaves f old new batch ids ts answer h p, every_call r)
