-- Lists of appends run on two files in step leave them in step and get the same ids, as long as each call is accepted by both or refused by both.
-- Assumes nothing.
use Rattle.std.specs.Prelude.{ℕ, ◌+◌, ◌^◌, ◌<◌, ◌≤◌, ◌≡◌, refl, true, take, get_or}
use Rattle.std.proofs.Math.Path.{sym, ap, ap₂}
use Rattle.std.proofs.Common.{subst, ◌∙◌, true≢false, arith}
use Rattle.std.proofs.Math.Option.{Option, some}
use mathlib.Core.List.{List, ◌++◌, map-append}
use Rattle.std.proofs.Math.ListN.{length}
use borrow.Author.Tests.{eq-eqb}
use Rattle.answers.specs.limits.Limits.{max_file}
use Rattle.answers.specs.Answer.{Answer, Accepted, Refusal}
use Rattle.segment.specs.chain.Chain.{Found, open_of}
use Rattle.segment.specs.chain.Last.{LastIn}
use Rattle.segment.proofs.chain.Last.{last_stands}
use Rattle.segment.specs.Header.{Link}
use Rattle.segment.specs.Chained.{chain}
use Rattle.segment.specs.Written.{link_of}
use Rattle.manifest.specs.Payload.{manifest_kind, confirmed}
use Rattle.manifest.proofs.PayloadLaws.{confirmed_parts}
use Rattle.manifest.specs.Opening.{opened}
use Rattle.reading.specs.Live.{live_of, live}
use Rattle.batch.specs.Form.{bodies_of}
use Rattle.appending.specs.Append.{start_of, next_id, body_links, manifest_id, new_links, new_states, Appends, Holds}
use Rattle.appending.proofs.Accepts.{Fits}
use Rattle.appending.proofs.Written.{bodies_held}
use Rattle.appending.proofs.Opens.{new_manifest, file_with}
use Rattle.appending.proofs.Buffer.{open_with, states_with, with_length, AppendedBy, appended, file_is}
use Rattle.compacting.specs.Compact.{is_manifest, without_manifests, copied, moved_to}
use Rattle.compacting.specs.Promise.{unplaced}
use Rattle.compacting.proofs.Same.{same_answers}
use Rattle.claim.specs.Demand3.{Call, is_accepted, file_after, Run, stop, call}
use Rattle.claim.specs.Later.{Each, SameCall, SameCalls, id_answered, SameIds, InStep}
use Rattle.claim.proofs.AfterAppend.{stay, stay_unplaced, bodies_unplaced, after_append}

-- ---- an accepted append on each

-- what opening finds after it
abbrev found_after : List ℕ → List ℕ → List ℕ → ℕ → Found Link
found_after f batch ids ts = record { before = new_links (opened f) (bodies_of batch) ts; link = new_manifest (opened f) (bodies_of batch) ids ts }

module _ (f : List ℕ) (r : Found Link) (e : opened f ≡ some r) (room n : ℕ) (batch ids : List ℕ) (ts : ℕ) (t : ts < 2 ^ 64) (y : Fits room n (opened f) batch ids) where
  is-manifest : is_manifest r.link ≡ true
  unfolding opened open_of is_manifest
  is-manifest =
      let s : LastIn confirmed (chain f) r = last_stands confirmed (chain f) r e in
      eq-eqb r.link.kind manifest_kind (confirmed_parts r.before r.link s.holds).kind_is

  copied-after : copied (found_after f batch ids ts) ≡ stay ids (copied r) ++ body_links (start_of (some r)) (r.link.id + 1) ts (bodies_of batch)
  unfolding copied live next_id
  copied-after =
      ap (λ (ss : List ℕ). without_manifests (live_of (new_links (opened f) (bodies_of batch) ts) ss)) (states_with f room n batch ids ts t y)
      ∙ ap (λ (o : Option (Found Link)). without_manifests (live_of (new_links o (bodies_of batch) ts) (new_states o (bodies_of batch) ids))) e
      ∙ after_append r (bodies_of batch) ids ts is-manifest (bodies_held batch y.batch_is_held)

  unplaced-after : unplaced (copied (found_after f batch ids ts)) ≡ stay ids (unplaced (copied r)) ++ unplaced (body_links 0 (r.link.id + 1) ts (bodies_of batch))
  unplaced-after =
      ap unplaced copied-after
      ∙ map-append (moved_to 0) (stay ids (copied r)) (body_links (start_of (some r)) (r.link.id + 1) ts (bodies_of batch))
      ∙ ap₂ ◌++◌ (stay_unplaced ids (copied r)) (bodies_unplaced (start_of (some r)) 0 (r.link.id + 1) ts (bodies_of batch))

  id-after : manifest_id (opened f) (bodies_of batch) ≡ r.link.id + 1 + length (bodies_of batch)
  unfolding manifest_id next_id
  id-after = ap (λ (o : Option (Found Link)). next_id o + length (bodies_of batch)) e

  within-after : length (file_with f (bodies_of batch) ids ts) ≤ max_file
  within-after = omega (arith, with_length f room n batch ids ts t y, y.end_limit)

module _ (f g : List ℕ) (i : InStep f g) (batch ids : List ℕ) (ts : ℕ) (t : ts < 2 ^ 64) where
  step-with : (room n room' n' : ℕ) → Fits room n (opened f) batch ids → Fits room' n' (opened g) batch ids
      → InStep (file_with f (bodies_of batch) ids ts) (file_with g (bodies_of batch) ids ts)
  unfolding new_manifest link_of
  step-with room n room' n' y y' =
      let same : unplaced (copied (found_after f batch ids ts)) ≡ unplaced (copied (found_after g batch ids ts)) =
      unplaced-after f i.found i.opens room n batch ids ts t y
      ∙ ap₂ (λ (ls : List Link) (m : ℕ). stay ids ls ++ unplaced (body_links 0 (m + 1) ts (bodies_of batch))) i.segments i.manifest
      ∙ sym (unplaced-after g i.found' i.opens' room' n' batch ids ts t y') in
      let o = open_with f room n batch ids ts t y in
      let o' = open_with g room' n' batch ids ts t y' in
      let w = within-after f i.found i.opens room n batch ids ts t y in
      let w' = within-after g i.found' i.opens' room' n' batch ids ts t y' in
      record {
        found = found_after f batch ids ts;
        found' = found_after g batch ids ts;
        opens = o;
        opens' = o';
        within = w;
        within' = w';
        manifest =
            id-after f i.found i.opens room n batch ids ts t y
            ∙ ap (λ (m : ℕ). m + 1 + length (bodies_of batch)) i.manifest
            ∙ sym (id-after g i.found' i.opens' room' n' batch ids ts t y');
        segments = same;
        answers =
            same_answers (file_with f (bodies_of batch) ids ts) (file_with g (bodies_of batch) ids ts) (found_after f batch ids ts) (found_after g batch ids ts) w w' o o' same;
      }

-- ---- a call on each, and a list of calls

-- after an accepted append the file is what was kept and the new bytes
file_after_is : (f old new batch ids vs : List ℕ) (ts : ℕ) → AppendedBy f old batch ids ts vs new → take (get_or vs 0 0) new ≡ file_with f (bodies_of batch) ids ts
file_after_is f old new batch ids vs ts w = ap (λ (xs : List ℕ). take (get_or xs 0 0) new) w.values ∙ file_is f old batch ids ts vs new w

step : (f g old old' new new' batch ids : List ℕ) (ts : ℕ) (answer answer' : Answer) → InStep f g → ts < 2 ^ 64 → Holds old f → Holds old' g
    → Appends old (length f) batch ids ts answer new → Appends old' (length g) batch ids ts answer' new' → is_accepted answer ≡ is_accepted answer'
    → (id_answered answer ≡ id_answered answer') × InStep (file_after f new answer) (file_after g new' answer')
unfolding is_accepted id_answered file_after
step f g old old' new new' batch ids ts (Refusal n us) (Refusal n' us') i t h h' a a' q = (refl, i)
step f g old old' new new' batch ids ts (Refusal n us) (Accepted vs') i t h h' a a' q = absurd (true≢false (sym q))
step f g old old' new new' batch ids ts (Accepted vs) (Refusal n' us') i t h h' a a' q = absurd (true≢false q)
step f g old old' new new' batch ids ts (Accepted vs) (Accepted vs') i t h h' a a' q =
    let w : AppendedBy f old batch ids ts vs new = appended f old batch ids ts h vs new a in
    let w' : AppendedBy g old' batch ids ts vs' new' = appended g old' batch ids ts h' vs' new' a' in
    let s = step-with f g i batch ids ts t (length old) (length f) (length old') (length g) w.fits w'.fits in
    let one = id-after f i.found i.opens (length old) (length f) batch ids ts t w.fits in
    let two = id-after g i.found' i.opens' (length old') (length g) batch ids ts t w'.fits in (
      ap (λ (xs : List ℕ). get_or xs 1 0) w.values
          ∙ one
          ∙ ap (λ (m : ℕ). m + 1 + length (bodies_of batch)) i.manifest
          ∙ sym two
          ∙ sym (ap (λ (xs : List ℕ). get_or xs 1 0) w'.values),
      subst (λ (x : List ℕ). InStep x (take (get_or vs' 0 0) new')) (sym (file_after_is f old new batch ids vs ts w))
          (subst (InStep (file_with f (bodies_of batch) ids ts)) (sym (file_after_is g old' new' batch ids vs' ts w')) s),
    )

pub later : {f f' g g' : List ℕ} {cs ds : List Call} → Run f cs f' → Run g ds g' → SameCalls cs ds → InStep f g → SameIds cs ds × InStep f' g'
unfolding Each
later stop stop s i = (tt, i)
later stop (call h t p r) s i = absurd s
later (call h t p r) stop s i = absurd s
later (call {f = f} {old = old} {new = new} {batch = batch} {ids = ids} {ts = ts} {answer = answer} h t p r)
    (call {f = g} {old = old'} {new = new'} {batch = batch'} {ids = ids'} {ts = ts'} {answer = answer'} h' t' p' r') s i =
    let c : SameCall (record { batch = batch; retiring = ids; timestamp = ts; answer = answer }) (record { batch = batch'; retiring = ids'; timestamp = ts'; answer = answer' }) =
    s.0 in
    let b : batch' ≡ batch = sym c.batch in
    let x : ids' ≡ ids = sym c.retiring in
    let m : ts' ≡ ts = sym c.timestamp in
    let q : Appends old' (length g) batch ids ts answer' new' = rw (b, x, m) at p' in
    let one = step f g old old' new new' batch ids ts answer answer' i t h h' p q c.accepted in
    let rest = later r r' s.1 one.1 in
    ((one.0, rest.0), rest.1)
