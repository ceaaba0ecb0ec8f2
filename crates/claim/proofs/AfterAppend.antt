-- The live segments other than manifests after an append: those before it less the retired ones, and the bodies.
-- Assumes nothing.
use Rattle.std.specs.Prelude.{ℕ, ◌+◌, ◌≡◌, refl, Bool, true, false, cond, List, [], ◌∷◌, ◌++◌, eqb, length, drop, get_or, replicate}
use Rattle.std.proofs.Common.{sym, ap, ap₂, ◌∙◌, append-nil, arith, length-append}
use Rattle.std.proofs.Math.Option.{some}
use Rattle.segment.specs.chain.Chain.{All, Found, up_to}
use Rattle.segment.specs.Header.{Link}
use Rattle.segment.specs.Written.{link_of}
use Rattle.manifest.specs.Opening.{states}
use Rattle.reading.specs.Live.{live_of, live}
use Rattle.batch.specs.Form.{Body, member}
use Rattle.appending.specs.Retire.{retired}
use Rattle.appending.specs.Append.{start_of, next_id, kept_states, body_size, body_links, new_links, new_states}
use Rattle.appending.proofs.States.{retired_length}
use Rattle.appending.proofs.Written.{BodyHeld, body_links_length}
use Rattle.compacting.specs.Compact.{is_manifest, without_manifests, copied, moved_to}
use Rattle.compacting.specs.Promise.{unplaced}
use Rattle.compacting.proofs.Copied.{live_all, without_none, without_append}

-- those of some links whose ids are not in a list
unfoldable pub stay : List ℕ → List Link → List Link
stay ids [] = []
stay ids (l ∷ ls) = cond (member l.id ids) (stay ids ls) (l ∷ stay ids ls)

-- retirement takes the named ones away
live_retired : (ls : List Link) (ss ids : List ℕ) → live_of ls (retired ls ss ids) ≡ stay ids (live_of ls ss)
unfolding live_of retired stay
live_retired [] ss ids = refl
live_retired (l ∷ ls) ss ids = rw (live_retired ls (drop 1 ss) ids) (pick (member l.id ids) refl (eqb (get_or ss 0 0) 0) refl)
  where
    pick : (m : Bool) → member l.id ids ≡ m → (b : Bool) → eqb (get_or ss 0 0) 0 ≡ b
        → cond (eqb (cond m 1 (get_or ss 0 0)) 0) (l ∷ stay ids (live_of ls (drop 1 ss))) (stay ids (live_of ls (drop 1 ss)))
        ≡ stay ids (cond b (l ∷ live_of ls (drop 1 ss)) (live_of ls (drop 1 ss)))
    pick true h true k = rw h
    pick true h false k = refl
    pick false h true k = rw (k, h)
    pick false h false k = rw k

stay_without : (ids : List ℕ) (ls : List Link) → without_manifests (stay ids ls) ≡ stay ids (without_manifests ls)
unfolding without_manifests stay
stay_without ids [] = refl
stay_without ids (l ∷ ls) = pick (member l.id ids) refl (is_manifest l) refl (stay_without ids ls)
  where
    pick : (m : Bool) → member l.id ids ≡ m → (b : Bool) → is_manifest l ≡ b → without_manifests (stay ids ls) ≡ stay ids (without_manifests ls)
        → without_manifests (cond m (stay ids ls) (l ∷ stay ids ls)) ≡ stay ids (cond b (without_manifests ls) (l ∷ without_manifests ls))
    pick true h true k ih = ih
    pick true h false k ih = rw h ih
    pick false h true k ih = rw k ih
    pick false h false k ih = rw (k, h, ih)

pub stay_unplaced : (ids : List ℕ) (ls : List Link) → unplaced (stay ids ls) ≡ stay ids (unplaced ls)
unfolding stay moved_to
stay_unplaced ids [] = refl
stay_unplaced ids (l ∷ ls) = rw (sym (stay_unplaced ids ls)) (pick (member l.id ids))
  where
    pick : (b : Bool) → unplaced (cond b (stay ids ls) (l ∷ stay ids ls)) ≡ cond b (unplaced (stay ids ls)) (moved_to 0 l ∷ unplaced (stay ids ls))
    pick true = refl
    pick false = refl

live_append : (xs ys : List Link) (ss ts : List ℕ) → length ss ≡ length xs → live_of (xs ++ ys) (ss ++ ts) ≡ live_of xs ss ++ live_of ys ts
unfolding live_of
live_append [] ys [] ts n = refl
live_append [] ys (s ∷ ss) ts n = absurd (omega arith)
live_append (x ∷ xs) ys [] ts n = absurd (omega arith)
live_append (x ∷ xs) ys (s ∷ ss) ts n = rw (live_append xs ys ss ts (omega arith)) (pick (eqb s 0))
  where
    pick : (b : Bool) → cond b (x ∷ (live_of xs ss ++ live_of ys ts)) (live_of xs ss ++ live_of ys ts) ≡ cond b (x ∷ live_of xs ss) (live_of xs ss) ++ live_of ys ts
    pick true = refl
    pick false = refl

bodies_others : (at id ts : ℕ) (bs : List Body) → All BodyHeld bs → All (λ l. is_manifest l ≡ false) (body_links at id ts bs)
unfolding All body_links link_of is_manifest
bodies_others at id ts [] t = tt
bodies_others at id ts (b ∷ bs) t = (t.0.no_manifest, bodies_others (at + body_size b) (id + 1) ts bs t.1)

pub bodies_unplaced : (at at' id ts : ℕ) (bs : List Body) → unplaced (body_links at id ts bs) ≡ unplaced (body_links at' id ts bs)
unfolding body_links moved_to link_of
bodies_unplaced at at' id ts [] = refl
bodies_unplaced at at' id ts (b ∷ bs) =
    ap (λ (ls : List Link). moved_to 0 (link_of 0 b.kind b.flags id ts b.payload) ∷ ls) (bodies_unplaced (at + body_size b) (at' + body_size b) (id + 1) ts bs)

-- what was copied before, less the retired ones, and the bodies
pub after_append : (r : Found Link) (bs : List Body) (ids : List ℕ) (ts : ℕ) → is_manifest r.link ≡ true → All BodyHeld bs
    → without_manifests (live_of (new_links (some r) bs ts) (new_states (some r) bs ids))
    ≡ stay ids (copied r) ++ body_links (start_of (some r)) (next_id (some r)) ts bs
unfolding new_links new_states up_to kept_states copied live without_manifests live_of
after_append r bs ids ts k t =
    let bodies : List Link = body_links (start_of (some r)) (next_id (some r)) ts bs in
    let old : List ℕ = retired r.before (states r) ids in
    let n : length (old ++ (0 ∷ [])) ≡ length (r.before ++ r.link ∷ []) =
    simp length-append (ap (λ (m : ℕ). m + 1) (retired_length r.before (states r) ids)) in
    let one : without_manifests (live_of (r.link ∷ []) (0 ∷ [])) ≡ [] = rw k in
    let new : without_manifests (live_of bodies (replicate (length bs) 0)) ≡ bodies =
    ap (λ (m : ℕ). without_manifests (live_of bodies (replicate m 0))) (sym (body_links_length (start_of (some r)) (next_id (some r)) ts bs))
    ∙ ap without_manifests (live_all bodies)
    ∙ without_none bodies (bodies_others (start_of (some r)) (next_id (some r)) ts bs t) in
    let front : without_manifests (live_of (r.before ++ r.link ∷ []) (old ++ (0 ∷ []))) ≡ stay ids (copied r) =
    ap without_manifests (live_append r.before (r.link ∷ []) old (0 ∷ []) (retired_length r.before (states r) ids))
    ∙ without_append (live_of r.before old) (live_of (r.link ∷ []) (0 ∷ []))
    ∙ ap₂ ◌++◌ (ap without_manifests (live_retired r.before (states r) ids) ∙ stay_without ids (live_of r.before (states r))) one
    ∙ append-nil (stay ids (copied r)) in
    ap without_manifests (live_append (r.before ++ r.link ∷ []) bodies (old ++ (0 ∷ [])) (replicate (length bs) 0) n)
    ∙ without_append (live_of (r.before ++ r.link ∷ []) (old ++ (0 ∷ []))) (live_of bodies (replicate (length bs) 0))
    ∙ ap₂ ◌++◌ front new
