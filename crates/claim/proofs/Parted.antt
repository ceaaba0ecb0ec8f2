-- What can part two files in step: where one accepts an append and the other refuses it, the refusal is for room (1, 9) or for the number of entries
-- (12). Batch, retirement and ids never part them.
-- Assumes nothing.
use Rattle.std.specs.Prelude.{ℕ, ◌+◌, ◌-◌, ◌^◌, ◌≤◌, refl, Bool, cond, not, ◌&&◌, ◌||◌, ◌⊎◌, List, [], ◌∷◌, eqb, take, drop, get_or}
use Rattle.std.proofs.Math.Path.{◌≡◌, sym}
use Rattle.std.proofs.Common.{ap, ◌∙◌, inl, inr, lt_of_not-le}
use Rattle.std.proofs.Math.Bool.{true, false}
use Rattle.std.proofs.Math.Option.{Option, some}
use native.Mathlib.Omega.{arith}
use Rattle.std.proofs.Math.Decide.{dec_le}
use Rattle.std.proofs.Math.Dec.{ltb}
use Rattle.std.proofs.Math.ListN.{length}
use borrow.Author.Tests.{lt-ltb, le-ltb}
use Rattle.answers.specs.limits.Limits.{max_file, max_entries}
use Rattle.answers.specs.Answer.{Accepted, Refusal}
use Rattle.segment.specs.chain.Chain.{Found}
use Rattle.segment.specs.Header.{Link}
use Rattle.manifest.specs.Payload.{manifest_kind}
use Rattle.manifest.specs.Opening.{opened, states}
use Rattle.reading.specs.Live.{live_of, live}
use Rattle.batch.specs.Form.{bodies_of}
use Rattle.appending.specs.Retire.{retirable, retire_held}
use Rattle.appending.specs.Append.{old_links, old_states, next_id, manifest_id, new_count, new_end, checked, is_none, append_checks, answer_on, append_answer, Holds}
use Rattle.appending.proofs.Accepts.{Fits, accepted_when, empty_passes}
use Rattle.compacting.specs.Compact.{is_manifest, without_manifests, copied, moved_to}
use Rattle.compacting.specs.Promise.{unplaced}
use Rattle.claim.specs.Later.{InStep}

-- ---- retirement goes by the live segments other than manifests

unfoldable named : ℕ → List Link → Bool
named id [] = false
named id (l ∷ ls) = eqb l.id id || named id ls

retirable_named : (ls : List Link) (ss : List ℕ) (id : ℕ) → retirable ls ss id ≡ named id (without_manifests (live_of ls ss))
unfolding retirable named without_manifests live_of is_manifest
retirable_named [] ss id = refl
retirable_named (l ∷ ls) ss id =
    rw (retirable_named ls (drop 1 ss) id) (pick (eqb l.id id) refl (eqb (get_or ss 0 0) 0) (eqb l.kind manifest_kind) refl)
  where
    pick : (i : Bool) → eqb l.id id ≡ i → (s k : Bool) → eqb l.kind manifest_kind ≡ k → (i && s && not k) || named id (without_manifests (live_of ls (drop 1 ss)))
        ≡ named id (without_manifests (cond s (l ∷ live_of ls (drop 1 ss)) (live_of ls (drop 1 ss))))
    pick true g true true h = rw h
    pick false g true true h = rw h
    pick true g true false h = rw (h, g)
    pick false g true false h = rw (h, g)
    pick true g false k h = refl
    pick false g false k h = refl

named_unplaced : (id : ℕ) (ls : List Link) → named id (unplaced ls) ≡ named id ls
unfolding named moved_to
named_unplaced id [] = refl
named_unplaced id (l ∷ ls) = ap (λ (t : Bool). eqb l.id id || t) (named_unplaced id ls)

-- two directories with the same such segments
retirable_alike : (r s : Found Link) → unplaced (copied r) ≡ unplaced (copied s) → (id : ℕ) → retirable r.before (states r) id ≡ retirable s.before (states s) id
unfolding copied live
retirable_alike r s e id =
    retirable_named r.before (states r) id
    ∙ sym (named_unplaced id (without_manifests (live_of r.before (states r))))
    ∙ ap (named id) e
    ∙ named_unplaced id (without_manifests (live_of s.before (states s)))
    ∙ sym (retirable_named s.before (states s) id)

retire_alike : (r s : Found Link) → unplaced (copied r) ≡ unplaced (copied s) → (ids : List ℕ) → retire_held r.before (states r) ids ≡ retire_held s.before (states s) ids
unfolding retire_held
retire_alike r s e [] = refl
retire_alike r s e (id ∷ ids) = rw (retirable_alike r s e id, retire_alike r s e ids)

-- ---- the refusal of the other file

-- the tests that are left
left : (n : ℕ) (us vs : List ℕ) (a b c d e : Bool)
    → cond a (Refusal 9 []) (cond b (Refusal 1 []) (cond c (Refusal 12 []) (cond d (Refusal 1 []) (cond e (Refusal 9 []) (Accepted vs))))) ≡ Refusal n us
    → (n ≡ 1) ⊎ ((n ≡ 9) ⊎ (n ≡ 12))
left n us vs true b c d e q = inr (inl (cc))
left n us vs false true c d e q = inl (cc)
left n us vs false false true d e q = inr (inr (cc))
left n us vs false false false true e q = inl (cc)
left n us vs false false false false true q = inr (inl (cc))
left n us vs false false false false false q = absurd (let z : ◌≡◌ {A = ℕ} 0 1 = cc in omega arith)

module _ (r s : Found Link) (same_id : r.link.id ≡ s.link.id) (same : unplaced (copied r) ≡ unplaced (copied s)) (room n room' n' : ℕ) (batch ids : List ℕ)
    (y : Fits room n (some r) batch ids) where
  by-room : (m : ℕ) (us : List ℕ) → answer_on room' n' (some s) batch ids ≡ Refusal m us → (m ≡ 1) ⊎ ((m ≡ 9) ⊎ (m ≡ 12))
  unfolding answer_on append_checks checked old_links old_states manifest_id next_id
  by-room m us q =
      let held : retire_held s.before (states s) ids ≡ true = sym (retire_alike r s same ids) ∙ y.retire_is_held in
      let opens : ltb 0 n' && is_none (some s) ≡ false = empty_passes n' (some s) (λ z. absurd (let w : ◌≡◌ {A = ℕ} 0 1 = cc in omega arith)) in
      let i = y.id_fits in
      let ids-fit : s.link.id + 1 + length (bodies_of batch) ≤ 2 ^ 64 - 1 = omega arith in
      left m us (new_end (some s) (bodies_of batch) ∷ manifest_id (some s) (bodies_of batch) ∷ new_count (some s) (bodies_of batch) ∷ [])
      (ltb room' n') (ltb max_file n') (ltb max_entries (new_count (some s) (bodies_of batch))) (ltb max_file (new_end (some s) (bodies_of batch)))
      (ltb room' (new_end (some s) (bodies_of batch)))
      (rw (opens, y.batch_is_held, y.vectors_good, held, le-ltb (2 ^ 64 - 1) (s.link.id + 1 + length (bodies_of batch)) ids-fit) at q)

-- a call on a buffer that holds a file that opens
opens_to : (f : List ℕ) (r : Found Link) → opened f ≡ some r → (old batch ids : List ℕ) → take (length f) old ≡ f
    → append_answer old (length f) batch ids ≡ answer_on (length old) (length f) (some r) batch ids
unfolding append_answer
opens_to f r e old batch ids h =
    ap (λ (x : List ℕ). answer_on (length old) (length f) (opened x) batch ids) h
    ∙ ap (λ (o : Option (Found Link)). answer_on (length old) (length f) o batch ids) e

-- what an accepted append passed on a file that opens
accepted_fits : (f : List ℕ) (r : Found Link) → opened f ≡ some r → (old batch ids vs : List ℕ) → Holds old f → append_answer old (length f) batch ids ≡ Accepted vs
    → Fits (length old) (length f) (some r) batch ids
unfolding append_answer
accepted_fits f r e old batch ids vs hold q =
    let inside = (accepted_when (length old) (length f) (opened (take (length f) old)) batch ids vs q).0.in_buffer in
    (accepted_when (length old) (length f) (some r) batch ids vs
    (sym (opens_to f r e old batch ids (hold inside)) ∙ q)).0

refused_by : (f g : List ℕ) (r s : Found Link) → opened f ≡ some r → opened g ≡ some s → r.link.id ≡ s.link.id → unplaced (copied r) ≡ unplaced (copied s)
    → (old old' batch ids vs us : List ℕ) (n : ℕ) → Holds old f → Holds old' g → append_answer old (length f) batch ids ≡ Accepted vs
    → append_answer old' (length g) batch ids ≡ Refusal n us → (n ≡ 1) ⊎ ((n ≡ 9) ⊎ (n ≡ 12))
unfolding append_answer answer_on append_checks checked
refused_by f g r s e d same_id same old old' batch ids vs us n hold hold' q q' = go (dec_le (length g) (length old'))
  where
    go : Dec (length g ≤ length old') → (n ≡ 1) ⊎ ((n ≡ 9) ⊎ (n ≡ 12))
    go (no h) =
        let z : Refusal 9 [] ≡ Refusal n us = rw (lt-ltb (length old') (length g) (lt_of_not-le h)) at q' in
        inr (inl (cc))
    go (yes h) =
        by-room r s same_id same (length old) (length f) (length old') (length g) batch ids (accepted_fits f r e old batch ids vs hold q) n us
        (sym (opens_to g s d old' batch ids (hold' h)) ∙ q')

-- where the first accepts and the second refuses, and the other way round
pub parted : (f g : List ℕ) → InStep f g → (old old' batch ids vs us : List ℕ) (n : ℕ) → Holds old f → Holds old' g
    → ((append_answer old (length f) batch ids ≡ Accepted vs) × (append_answer old' (length g) batch ids ≡ Refusal n us))
    ⊎ ((append_answer old (length f) batch ids ≡ Refusal n us) × (append_answer old' (length g) batch ids ≡ Accepted vs))
    → (n ≡ 1) ⊎ ((n ≡ 9) ⊎ (n ≡ 12))
parted f g i old old' batch ids vs us n h h' (inl q) =
    refused_by f g i.found i.found' i.opens i.opens' i.manifest i.segments old old' batch ids vs us n h h' q.0 q.1
parted f g i old old' batch ids vs us n h h' (inr q) =
    refused_by g f i.found' i.found i.opens' i.opens (sym i.manifest) (sym i.segments) old' old batch ids vs us n h' h q.1 q.0
