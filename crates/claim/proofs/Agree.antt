-- A file and a model agree, and one append keeps them agreeing, for every file: torn tails included.
-- Assumes nothing.
use Rattle.std.specs.Prelude.{ℕ, ◌+◌, ◌^◌, ◌≤◌, ◌<◌, ◌≡◌, refl, Bool, true, false, cond, take, drop, get_or}
use Rattle.std.proofs.Math.Path.{sym, ap}
use Rattle.std.proofs.Common.{ap₂, subst, ◌∙◌, arith}
use Rattle.std.proofs.Math.Option.{Option, none, some}
use mathlib.Core.List.{List, [], ◌∷◌, ◌++◌, map, map-append, append_assoc, append-nil}
use Rattle.std.proofs.Math.ListN.{length, replicate}
use Rattle.answers.specs.limits.Limits.{max_file}
use Rattle.answers.specs.Answer.{Answer, Accepted, Refusal}
use Rattle.segment.specs.chain.Chain.{walk, walk_f, Found, up_to, last_confirmed, open_of, scan}
use Rattle.segment.specs.Header.{Link, size}
use Rattle.segment.specs.Written.{link_of}
use Rattle.segment.proofs.WrittenLaws.{link_of_size}
use Rattle.manifest.proofs.SizedLaws.{length_states_by}
use Rattle.manifest.specs.Payload.{manifest_kind, manifest_payload, entry_size}
use Rattle.manifest.specs.Opening.{opened, states}
use Rattle.batch.specs.Form.{Body, bodies_of, member}
use Rattle.appending.specs.Retire.{retired}
use Rattle.appending.specs.Append.{kept_links, start_of, next_id, old_states, kept_states, body_size, body_links, bodies_end, manifest_at, manifest_id, new_end, new_links, new_states, new_payload, Appends, Holds}
use Rattle.appending.proofs.Accepts.{Fits}
use Rattle.appending.proofs.Opens.{new_manifest, file_with}
use Rattle.appending.proofs.Buffer.{open_with, states_with, with_length, AppendedBy, appended, file_is}
use Rattle.claim.specs.Model.{Entry, links_of, states_of, live_entry, Model, empty_model, paired, model_of, retired_if, retire, if_any, join_manifest, join_body, join_bodies, new_manifest_entry, accepted_model, feed, feed_all}
use Rattle.claim.specs.Demand3.{Call, is_accepted, fed_of, fed_all, file_after, Run, stop, call}

-- what opening finds in a file of this model
unfoldable pub found_by : List Entry → Option Entry → Option (Found Link)
found_by es none = none
found_by es (some m) = some (record { before = links_of es; link = m.link })

-- the file opens as the model says, with its states, and ends where it says
pub record Agree (f : List ℕ) (k : Model) : Type 0 where
  pub fits : length f ≤ max_file
  pub opens : opened f ≡ found_by k.entries k.manifest
  pub states_are : old_states (opened f) ≡ states_of k.entries
  pub kept_are : kept_links (opened f) ≡ links_of (k.entries ++ if_any k.manifest)
  pub kept_states_are : (ids : List ℕ) → kept_states (opened f) ids ≡ states_of (map (retired_if ids) k.entries ++ if_any k.manifest)
  pub end_is : start_of (opened f) ≡ k.end
  pub next_is : next_id (opened f) ≡ k.next

-- ---- the model's steps

pub links_retired : (ids : List ℕ) (es : List Entry) → links_of (map (retired_if ids) es) ≡ links_of es
unfolding retired_if
links_retired ids [] = refl
links_retired ids (e ∷ es) = ap₂ ◌∷◌ (pick (member e.link.id ids)) (links_retired ids es)
  where
    pick : (t : Bool) → (cond t (record { link = e.link; state = 1 }) e).link ≡ e.link
    pick true = refl
    pick false = refl

states_retired : (ids : List ℕ) (es : List Entry) → states_of (map (retired_if ids) es) ≡ retired (links_of es) (states_of es) ids
unfolding retired_if retired
states_retired ids [] = refl
states_retired ids (e ∷ es) = ap₂ ◌∷◌ (pick (member e.link.id ids)) (states_retired ids es)
  where
    pick : (t : Bool) → (cond t (record { link = e.link; state = 1 }) e).state ≡ cond t 1 e.state
    pick true = refl
    pick false = refl

-- after the bodies
pub record Joined (ts : ℕ) (bs : List Body) (k : Model) : Type 0 where
  pub links : links_of (join_bodies ts bs k).entries ≡ links_of k.entries ++ body_links k.end k.next ts bs
  pub states : states_of (join_bodies ts bs k).entries ≡ states_of k.entries ++ replicate (length bs) 0
  pub end_is : (join_bodies ts bs k).end ≡ bodies_end k.end bs
  pub next_is : (join_bodies ts bs k).next ≡ k.next + length bs

pub joined : (ts : ℕ) (bs : List Body) (k : Model) → Joined ts bs k
unfolding join_bodies join_body body_links bodies_end
joined ts [] k =
    record {
      links = sym (append-nil (links_of k.entries));
      states = sym (append-nil (states_of k.entries));
      end_is = refl;
      next_is = omega arith;
    }
joined ts (b ∷ bs) k =
    let l : Link = link_of k.end b.kind b.flags k.next ts b.payload in
    let n : size l ≡ body_size b = link_of_size k.end b.kind b.flags k.next ts b.payload in
    let j = joined ts bs (join_body ts b k) in
    let e : k.end + size l ≡ k.end + body_size b = omega arith in
    record {
      links =
          j.links
          ∙ ap (λ (x : List Link). x ++ body_links (k.end + size l) (k.next + 1) ts bs) (map-append (λ (e : Entry). e.link) k.entries (live_entry l ∷ []))
          ∙ append_assoc (links_of k.entries) (l ∷ []) (body_links (k.end + size l) (k.next + 1) ts bs)
          ∙ ap (λ (m : ℕ). links_of k.entries ++ l ∷ body_links m (k.next + 1) ts bs) e;
      states =
          j.states
          ∙ ap (λ (x : List ℕ). x ++ replicate (length bs) 0) (map-append (λ (e : Entry). e.state) k.entries (live_entry l ∷ []))
          ∙ append_assoc (states_of k.entries) (0 ∷ []) (replicate (length bs) 0);
      end_is = j.end_is ∙ ap (λ (m : ℕ). bodies_end m bs) e;
      next_is = j.next_is ∙ omega arith;
    }

-- ---- a file that opens, with its entries

pub agree_found : (g : List ℕ) (es : List Entry) (l : Link) → length g ≤ max_file → opened g ≡ some (record { before = links_of es; link = l })
    → states (record { before = links_of es; link = l }) ≡ states_of es
    → Agree g (record { end = l.offset + size l; next = l.id + 1; entries = es; manifest = some (live_entry l) })
unfolding found_by old_states up_to kept_states if_any start_of next_id
agree_found g es l h e s =
    record {
      fits = h;
      opens = e;
      states_are = ap old_states e ∙ s;
      kept_are = ap kept_links e ∙ sym (map-append (λ (x : Entry). x.link) es (live_entry l ∷ []));
      kept_states_are = λ ids.
          ap (λ (o : Option (Found Link)). kept_states o ids) e
          ∙ ap (λ (ss : List ℕ). retired (links_of es) ss ids ++ (0 ∷ [])) s
          ∙ ap (λ (ss : List ℕ). ss ++ (0 ∷ [])) (sym (states_retired ids es))
          ∙ sym (map-append (λ (x : Entry). x.state) (map (retired_if ids) es) (live_entry l ∷ []));
      end_is = ap start_of e;
      next_is = ap next_id e;
    }

-- ---- the two starts

pub agree_empty : Agree [] empty_model
unfolding empty_model found_by opened open_of walk walk_f last_confirmed scan old_states up_to kept_states if_any start_of next_id
agree_empty = record { fits = omega arith; opens = refl; states_are = refl; kept_are = refl; kept_states_are = λ ids. refl; end_is = refl; next_is = refl }

paired_links : (ls : List Link) (ss : List ℕ) → links_of (paired ls ss) ≡ ls
unfolding paired
paired_links [] ss = refl
paired_links (l ∷ ls) ss = ap (λ (x : List Link). l ∷ x) (paired_links ls (drop 1 ss))

paired_states : (ls : List Link) (ss : List ℕ) → length ss ≡ length ls → states_of (paired ls ss) ≡ ss
unfolding paired
paired_states [] [] h = refl
paired_states [] (s ∷ ss) h = absurd (omega arith)
paired_states (l ∷ ls) [] h = absurd (omega arith)
paired_states (l ∷ ls) (s ∷ ss) h = ap (λ (x : List ℕ). s ∷ x) (paired_states ls ss (omega arith))

pub agree_opened : (f : List ℕ) (r : Found Link) → length f ≤ max_file → opened f ≡ some r → Agree f (model_of r)
unfolding model_of states
agree_opened f r h e =
    let p : links_of (paired r.before (states r)) ≡ r.before = paired_links r.before (states r) in
    let n : length (states r) ≡ length r.before = length_states_by entry_size (length r.before) (drop 8 r.link.payload) in
    agree_found f (paired r.before (states r)) r.link h
    (e ∙ ap (λ (ls : List Link). some (record { before = ls; link = r.link })) (sym p))
    (ap (λ (ls : List Link). states (record { before = ls; link = r.link })) p ∙ sym (paired_states r.before (states r) n))

-- ---- an accepted append

abbrev found_with : List Link → Link → Found Link
found_with ls l = record { before = ls; link = l }

module _ (f : List ℕ) (k : Model) (a : Agree f k) (batch ids : List ℕ) (ts : ℕ) where
  abbrev bs : List Body
  bs = bodies_of batch

  -- the model with the old manifest's entry, some entries retired
  abbrev old_model : Model
  old_model = join_manifest (retire ids k)

  abbrev full : Model
  full = join_bodies ts bs old_model

  old-links : links_of old_model.entries ≡ kept_links (opened f)
  unfolding join_manifest retire
  old-links =
      map-append (λ (x : Entry). x.link) (map (retired_if ids) k.entries) (if_any k.manifest)
      ∙ ap (λ (ls : List Link). ls ++ links_of (if_any k.manifest)) (links_retired ids k.entries)
      ∙ sym (map-append (λ (x : Entry). x.link) k.entries (if_any k.manifest))
      ∙ sym a.kept_are

  pub full_links : links_of full.entries ≡ new_links (opened f) bs ts
  unfolding join_manifest retire new_links
  full_links =
      (joined ts bs old_model).links
      ∙ ap (λ (ls : List Link). ls ++ body_links k.end k.next ts bs) old-links
      ∙ ap (λ (m : ℕ). kept_links (opened f) ++ body_links m k.next ts bs) (sym a.end_is)
      ∙ ap (λ (m : ℕ). kept_links (opened f) ++ body_links (start_of (opened f)) m ts bs) (sym a.next_is)

  pub full_states : states_of full.entries ≡ new_states (opened f) bs ids
  unfolding join_manifest retire new_states
  full_states = (joined ts bs old_model).states ∙ ap (λ (ss : List ℕ). ss ++ replicate (length bs) 0) (sym (a.kept_states_are ids))

  pub full_end : full.end ≡ manifest_at (opened f) bs
  unfolding join_manifest retire manifest_at
  full_end = (joined ts bs old_model).end_is ∙ ap (λ (m : ℕ). bodies_end m bs) (sym a.end_is)

  pub full_next : full.next ≡ manifest_id (opened f) bs
  unfolding join_manifest retire manifest_id
  full_next = (joined ts bs old_model).next_is ∙ ap (λ (m : ℕ). m + length bs) (sym a.next_is)

  -- the model's new manifest is the one that is written
  abbrev link : Link
  link = link_of full.end manifest_kind 0 full.next ts (manifest_payload (links_of full.entries) (states_of full.entries) full.end full.next)

  pub link_is : link ≡ new_manifest (opened f) bs ids ts
  unfolding new_manifest new_payload
  link_is =
      ap (λ (ls : List Link). link_of full.end manifest_kind 0 full.next ts (manifest_payload ls (states_of full.entries) full.end full.next)) full_links
      ∙ ap (λ (ss : List ℕ). link_of full.end manifest_kind 0 full.next ts (manifest_payload (new_links (opened f) bs ts) ss full.end full.next)) full_states
      ∙ ap (λ (m : ℕ). link_of m manifest_kind 0 full.next ts (manifest_payload (new_links (opened f) bs ts) (new_states (opened f) bs ids) m full.next)) full_end
      ∙ ap (λ (m : ℕ). link_of (manifest_at (opened f) bs) manifest_kind 0 m ts (manifest_payload (new_links (opened f) bs ts) (new_states (opened f) bs ids) (manifest_at (opened f) bs) m)) full_next

  found-is : found_with (new_links (opened f) bs ts) (new_manifest (opened f) bs ids ts) ≡ found_with (links_of full.entries) link
  found-is = ap₂ found_with (sym full_links) (sym link_is)

  pub agree_with : (room n : ℕ) → ts < 2 ^ 64 → Fits room n (opened f) batch ids → Agree (file_with f bs ids ts) (accepted_model batch ids ts k)
  unfolding accepted_model new_manifest_entry link_of
  agree_with room n h y =
      agree_found (file_with f bs ids ts) full.entries link
      (rw (with_length f room n batch ids ts h y) y.end_limit)
      (open_with f room n batch ids ts h y ∙ ap some found-is)
      (ap states (sym found-is) ∙ states_with f room n batch ids ts h y ∙ sym full_states)

-- ---- a call, and a run

pub agree_call : (f old new batch ids : List ℕ) (ts : ℕ) (answer : Answer) (k : Model) → Holds old f → ts < 2 ^ 64 → Appends old (length f) batch ids ts answer new
    → Agree f k → Agree (file_after f new answer) (feed (fed_of (record { batch = batch; retiring = ids; timestamp = ts; answer = answer })) k)
unfolding file_after feed is_accepted
agree_call f old new batch ids ts (Refusal n vs) k h t p a = a
agree_call f old new batch ids ts (Accepted vs) k h t p a =
    let w : AppendedBy f old batch ids ts vs new = appended f old batch ids ts h vs new p in
    let e : get_or vs 0 0 ≡ new_end (opened f) (bodies_of batch) = ap (λ (x : List ℕ). get_or x 0 0) w.values in
    subst (λ (g : List ℕ). Agree g (accepted_model batch ids ts k)) (sym (ap (λ (n : ℕ). take n new) e ∙ file_is f old batch ids ts vs new w))
    (agree_with f k a batch ids ts (length old) (length f) t w.fits)

-- after every list of appends the file and the model agree, where they did before it
pub run_agrees : {f g : List ℕ} {cs : List Call} (k : Model) → Run f cs g → Agree f k → Agree g (feed_all (fed_all cs) k)
unfolding fed_all feed_all
run_agrees k stop a = a
run_agrees k (call {f = f} {old = old} {new = new} {batch = batch} {ids = ids} {ts = ts} {answer = answer} h t p r) a =
    run_agrees (feed (fed_of (record { batch = batch; retiring = ids; timestamp = ts; answer = answer })) k) r (agree_call f old new batch ids ts answer k h t p a)
