-- The laws of specs/Reports.antt.
-- Assumes nothing.
use Prim.Native.Nat.{ℕ, ◌+◌}
use Rattle.std.specs.Prelude.{◌≡◌, refl, cond, List, [], ◌∷◌}
use Rattle.std.proofs.Math.Path.{sym, ap, ap₂}
use Rattle.std.proofs.Common.{◌∙◌, arith}
use Rattle.std.proofs.Math.Option.{Option, none, some, some-injective}
use Rattle.std.proofs.Math.ListN.{length}
use Rattle.std.proofs.lemmas.List.{length-map}
use Rattle.answers.specs.Answer.{Answer, Accepted, Refusal}
use Rattle.segment.specs.Header.{size}
use Rattle.segment.specs.Written.{link_of}
use Rattle.manifest.specs.Opening.{opened}
use Rattle.batch.specs.Form.{bodies_of}
use Rattle.appending.specs.Append.{manifest_id, new_count, new_end, Appends, Holds}
use Rattle.appending.proofs.Opens.{kept, links_count}
use Rattle.appending.proofs.Buffer.{next_size, AppendedBy, appended}
use Rattle.claim.specs.Model.{Entry, Model, retire, join_manifest, join_bodies, new_manifest_entry, accepted_model, feed, feed_all}
use Rattle.claim.specs.Demand3.{file_after, Call, is_accepted, fed_of, fed_all, Run, stop, call, or_before, last_accepted}
use Rattle.claim.proofs.Agree.{Agree, agree_call, full_links, full_end, full_next, link_is}
use Rattle.claim.specs.Reports.{reported}

module _ (f : List ℕ) (k : Model) (a : Agree f k) (batch ids : List ℕ) (ts : ℕ) where
  abbrev after : Model
  after = accepted_model batch ids ts k

  count_is : length after.entries ≡ new_count (opened f) (bodies_of batch)
  unfolding accepted_model new_manifest_entry
  count_is =
      sym (length-map after.entries (λ (e : Entry). e.link))
      ∙ ap length (full_links f k a batch ids ts)
      ∙ links_count (opened f) (kept f) (bodies_of batch) ids ts

  end_is : after.end ≡ new_end (opened f) (bodies_of batch)
  unfolding accepted_model new_manifest_entry new_end
  end_is = ap₂ ◌+◌ (full_end f k a batch ids ts) (ap size (link_is f k a batch ids ts) ∙ next_size f batch ids ts)

  pub reported_is : reported after after.manifest
      ≡ Accepted (new_end (opened f) (bodies_of batch) ∷ manifest_id (opened f) (bodies_of batch) ∷ new_count (opened f) (bodies_of batch) ∷ [])
  unfolding reported accepted_model new_manifest_entry link_of
  reported_is =
      ap (λ (n : ℕ). Accepted (n ∷ (join_bodies ts (bodies_of batch) (join_manifest (retire ids k))).next ∷ length after.entries ∷ [])) end_is
      ∙ ap (λ (n : ℕ). Accepted (new_end (opened f) (bodies_of batch) ∷ n ∷ length after.entries ∷ [])) (full_next f k a batch ids ts)
      ∙ ap (λ (n : ℕ). Accepted (new_end (opened f) (bodies_of batch) ∷ manifest_id (opened f) (bodies_of batch) ∷ n ∷ [])) count_is

-- refused appends change nothing
feed_none : (cs : List Call) (k : Model) → last_accepted cs ≡ none → feed_all (fed_all cs) k ≡ k
unfolding last_accepted or_before fed_all feed_all feed is_accepted
feed_none [] k e = refl
feed_none (c ∷ cs) k e = go (last_accepted cs) refl c.answer e (feed_none cs k)
  where
    go : (o : Option Answer) → last_accepted cs ≡ o → (a : Answer) → or_before o a ≡ none → (last_accepted cs ≡ none → feed_all (fed_all cs) k ≡ k)
        → feed_all (fed_all cs) (cond (is_accepted a) (accepted_model c.batch c.retiring c.timestamp k) k) ≡ k
    go (some b) p a z ih = absurd (let w : ◌≡◌ {A = ℕ} 0 1 = cc in omega arith)
    go none p (Accepted vs) z ih = absurd (let w : ◌≡◌ {A = ℕ} 0 1 = cc in omega arith)
    go none p (Refusal n vs) z ih = ih p

abbrev call_of : List ℕ → List ℕ → ℕ → Answer → Call
call_of batch ids ts answer = record { batch = batch; retiring = ids; timestamp = ts; answer = answer }

-- one append
call_reported : (f old new batch ids : List ℕ) (ts : ℕ) (answer : Answer) (k : Model) → Holds old f → Appends old (length f) batch ids ts answer new → Agree f k
    → (a : Answer) → or_before none answer ≡ some a → a ≡ reported (feed (fed_of (call_of batch ids ts answer)) k) (feed (fed_of (call_of batch ids ts answer)) k).manifest
unfolding or_before feed is_accepted
call_reported f old new batch ids ts (Refusal n vs) k h p y a e = absurd (let w : ◌≡◌ {A = ℕ} 0 1 = cc in omega arith)
call_reported f old new batch ids ts (Accepted vs) k h p y a e =
    let w : AppendedBy f old batch ids ts vs new = appended f old batch ids ts h vs new p in
    sym (some-injective _ _ e) ∙ ap Accepted w.values ∙ sym (reported_is f k y batch ids ts)

-- the last accepted append answered what the model says
pub last_reported : {f g : List ℕ} {cs : List Call} (k : Model) → Run f cs g → Agree f k → (a : Answer) → last_accepted cs ≡ some a
    → a ≡ reported (feed_all (fed_all cs) k) (feed_all (fed_all cs) k).manifest
unfolding last_accepted or_before fed_all feed_all
last_reported k stop y a e = absurd (let w : ◌≡◌ {A = ℕ} 0 1 = cc in omega arith)
last_reported k (call {f = f} {old = old} {new = new} {batch = batch} {ids = ids} {ts = ts} {answer = answer} {cs = cs} h t p r) y a e =
    go (last_accepted cs) refl e
    (λ z. last_reported (feed (fed_of (call_of batch ids ts answer)) k) r (agree_call f old new batch ids ts answer k h t p y) a z)
  where
    go : (o : Option Answer) → last_accepted cs ≡ o → or_before o answer ≡ some a
        → (last_accepted cs ≡ some a → a ≡ reported (feed_all (fed_all cs) (feed (fed_of (call_of batch ids ts answer)) k)) (feed_all (fed_all cs) (feed (fed_of (call_of batch ids ts answer)) k)).manifest)
        → a ≡ reported (feed_all (fed_all cs) (feed (fed_of (call_of batch ids ts answer)) k)) (feed_all (fed_all cs) (feed (fed_of (call_of batch ids ts answer)) k)).manifest
    go (some b) q z ih = ih (q ∙ z)
    go none q z ih =
        call_reported f old new batch ids ts answer k h p y a z
        ∙ ap (λ (x : Model). reported x x.manifest) (sym (feed_none cs (feed (fed_of (call_of batch ids ts answer)) k) q))

-- ---- refused appends leave the file

pub refused_run : {f g : List ℕ} {cs : List Call} → Run f cs g → last_accepted cs ≡ none → g ≡ f
unfolding last_accepted or_before file_after
refused_run stop e = refl
refused_run (call {f = f} {new = new} {answer = answer} {cs = cs} h t p r) e =
    let z = parts (last_accepted cs) answer e in
    refused_run r z.0 ∙ z.1
  where
    parts : (o : Option Answer) (a : Answer) → or_before o a ≡ none → (o ≡ none) × (file_after f new a ≡ f)
    parts (some b) a q = absurd (let w : ◌≡◌ {A = ℕ} 0 1 = cc in omega arith)
    parts none (Accepted vs) q = absurd (let w : ◌≡◌ {A = ℕ} 0 1 = cc in omega arith)
    parts none (Refusal n vs) q = (refl, refl)
