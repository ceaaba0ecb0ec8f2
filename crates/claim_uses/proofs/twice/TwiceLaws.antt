-- The ways out of the function: the two accepted appends are a run, and what opening answers then is the claim's.
-- Assumes nothing.
use Rattle.std.specs.Prelude.{ℕ, ◌/◌, ◌-◌, ◌^◌, ◌≤◌, ◌<◌, take, get_or}
use Rattle.std.proofs.Math.Path.{◌≡◌, refl, ap, subst}
use Rattle.std.proofs.Common.{sym, ◌∙◌, arith, length-take}
use Rattle.std.proofs.Math.Option.{some}
use mathlib.Core.List.{List, [], ◌∷◌}
use Rattle.std.proofs.Math.ListN.{length}
use Rattle.answers.specs.Answer.{Answer, Accepted, Refusal, refusal_number}
use Rattle.manifest.specs.Opening.{opened, open_answer, opened_answer, opened_case}
use Rattle.manifest.specs.declared.Opened as op
use Rattle.manifest.specs.declared.Opened.TheVariants as ops
use Rattle.batch.specs.Form.{bodies_of}
use Rattle.appending.specs.declared.Appended.{Appended}
use Rattle.std.specs.Prelude.{Result, Ok, Err, Some, None}
use Rattle.answers.specs.declared.Refusal.{Refusal as RefusalName}
use Rattle.appending.specs.Append.{appended_answer, new_end, append_answer, append_buffer, Appends, Holds}
use Rattle.appending.proofs.Buffer as buffer
use Rattle.appending.proofs.Buffer.{with_length, file_is}
use Rattle.claim.specs.Model.{Entry, new_manifest_entry, accepted_model, feed, feed_all}
use Rattle.claim.specs.Demand3.{Call, is_accepted, file_after, Run, stop, call, fed_all, empty, or_before, last_accepted}
use Rattle.claim.proofs.Theorem.{demand3}
use Rattle.claim_uses.specs.twice.Twice.{twice_model, later_answer, later_buffer, twice_answer, twice_buffer, TwicePromise}

-- the file after an accepted append is as long as the end answered
pub file_length : (f old batch ids : List ℕ) (ts : ℕ) (vs new : List ℕ) → ts < 2 ^ 64 → Holds old f → Appends old (length f) batch ids ts (Accepted vs) new
    → length (take (get_or vs 0 0) new) ≡ get_or vs 0 0
file_length f old batch ids ts vs new t h a =
    let w = buffer.appended f old batch ids ts h vs new a in
    let e : get_or vs 0 0 ≡ new_end (opened f) (bodies_of batch) = ap (λ (x : List ℕ). get_or x 0 0) w.values in
    ap (λ (m : ℕ). length (take m new)) e ∙ ap length (file_is f old batch ids ts vs new w) ∙ with_length f (length old) (length f) batch ids ts t w.fits ∙ sym e

-- the model has a manifest
model_manifest : (first second ids : List ℕ) (ts : ℕ) → (m : Entry) × ((twice_model first second ids ts).manifest ≡ some m)
unfolding twice_model feed_all feed accepted_model new_manifest_entry
model_manifest first second ids ts = (_, refl)

module _ (old new₁ new₂ first second ids : List ℕ) (ts : ℕ) (t : ts < 2 ^ 64) where
  module _ (vs₁ vs₂ : List ℕ) (a₁ : Appends old 0 first [] ts (Accepted vs₁) new₁) (a₂ : Appends new₁ (get_or vs₁ 0 0) second ids ts (Accepted vs₂) new₂) where
    abbrev between : List ℕ
    between = take (get_or vs₁ 0 0) new₁

    length_is : length between ≡ get_or vs₁ 0 0
    length_is = file_length [] old first [] ts vs₁ new₁ t (λ h. refl) a₁

    holds : Holds new₁ between
    holds h = ap (λ (n : ℕ). take n new₁) length_is

    again : Appends new₁ (length between) second ids ts (Accepted vs₂) new₂
    again = subst (λ (n : ℕ). Appends new₁ n second ids ts (Accepted vs₂) new₂) (sym length_is) a₂

    abbrev calls : List Call
    calls =
        record { batch = first; retiring = []; timestamp = ts; answer = Accepted vs₁ } ∷ record { batch = second; retiring = ids; timestamp = ts; answer = Accepted vs₂ } ∷ []

    run : Run [] calls (take (get_or vs₂ 0 0) new₂)
    unfolding file_after
    run = call {old = old} {new = new₁} (λ h. refl) t a₁ (call {old = new₁} {new = new₂} holds t again stop)

    last-room : get_or vs₂ 0 0 ≤ length new₂
    last-room = let l = file_length between new₁ second ids ts vs₂ new₂ t holds again in omega (arith, length-take (get_or vs₂ 0 0) new₂)

    opens : (m : Entry) → (twice_model first second ids ts).manifest ≡ some m
        → open_answer (take (get_or vs₂ 0 0) new₂)
        ≡ Accepted
        (m.link.offset
        ∷ (twice_model first second ids ts).end
        ∷ m.link.id
        ∷ length (twice_model first second ids ts).entries
        ∷ (length (take (get_or vs₂ 0 0) new₂) / 64 - m.link.offset / 64)
        ∷ [])
    unfolding twice_model fed_all is_accepted
    opens m e = (demand3 empty run).claim.answers m e

    -- and that is what the second append reported
    reported : (m : Entry) → (twice_model first second ids ts).manifest ≡ some m
        → Accepted vs₂ ≡ Accepted ((twice_model first second ids ts).end ∷ m.link.id ∷ length (twice_model first second ids ts).entries ∷ [])
    unfolding twice_model fed_all is_accepted last_accepted or_before
    reported m e = (demand3 empty run).claim.last m e (Accepted vs₂) refl

  -- as the function has it: two answers, by cases
  module _ (r₁ r₂ : Result Appended ℕ) (end₁ id₁ count₁ end₂ id₂ count₂ : ℕ) (e₁ : r₁ ≡ Ok (record { end = end₁; id = id₁; count = count₁ })) (e₂ : r₂ ≡ Ok (record { end = end₂; id = id₂; count = count₂ }))
      (a₁ : Appends old 0 first [] ts (appended_answer r₁) new₁) (a₂ : Appends new₁ end₁ second ids ts (appended_answer r₂) new₂) where
    one : Appends old 0 first [] ts (Accepted (end₁ ∷ id₁ ∷ count₁ ∷ [])) new₁
    unfolding appended_answer
    one = subst (λ (r : Result Appended ℕ). Appends old 0 first [] ts (appended_answer r) new₁) e₁ a₁

    two : Appends new₁ end₁ second ids ts (Accepted (end₂ ∷ id₂ ∷ count₂ ∷ [])) new₂
    unfolding appended_answer
    two = subst (λ (r : Result Appended ℕ). Appends new₁ end₁ second ids ts (appended_answer r) new₂) e₂ a₂

    -- the end answered lies in the buffer
    pub end_inside : end₂ ≤ length new₂
    end_inside = last-room (end₁ ∷ id₁ ∷ count₁ ∷ []) (end₂ ∷ id₂ ∷ count₂ ∷ []) one two

    -- the buffer after the two
    both_left : new₂ ≡ twice_buffer old first second ids ts
    unfolding twice_buffer later_buffer
    both_left =
        two.leaves
        ∙ ap (λ (x : List ℕ). later_buffer x (Accepted (end₁ ∷ id₁ ∷ count₁ ∷ [])) second ids ts) one.leaves
        ∙ ap (λ (x : Answer). later_buffer (append_buffer old 0 first [] ts) x second ids ts) one.answers

    -- the second append's answer is that of the two
    both-answer : Accepted (end₂ ∷ id₂ ∷ count₂ ∷ []) ≡ twice_answer old first second ids ts
    unfolding twice_answer later_answer
    both-answer =
        two.answers
        ∙ ap (λ (x : List ℕ). later_answer x (Accepted (end₁ ∷ id₁ ∷ count₁ ∷ [])) second ids) one.leaves
        ∙ ap (λ (x : Answer). later_answer (append_buffer old 0 first [] ts) x second ids) one.answers

    -- opening is answered by the claim
    answered : (o : Result op.Opened ℕ) → opened_case (take end₂ new₂) ≡ o → (m : Entry) → (twice_model first second ids ts).manifest ≡ some m
        → opened_answer o
        ≡ Accepted
        (m.link.offset
        ∷ (twice_model first second ids ts).end
        ∷ m.link.id
        ∷ length (twice_model first second ids ts).entries
        ∷ (length (take end₂ new₂) / 64 - m.link.offset / 64)
        ∷ [])
    unfolding open_answer
    answered o e m h = ap opened_answer (sym e) ∙ opens (end₁ ∷ id₁ ∷ count₁ ∷ []) (end₂ ∷ id₂ ∷ count₂ ∷ []) one two m h

    pub way_at : (offset end id count tried : ℕ) → opened_case (take end₂ new₂) ≡ Ok (ops.At offset end id count tried)
        → TwicePromise old first second ids ts (Ok (Some (record { offset = offset; end = end; id = id; count = count }))) × (new₂ ≡ twice_buffer old first second ids ts)
    unfolding TwicePromise opened_answer
    way_at offset end id count tried e =
        let m = model_manifest first second ids ts in
        let q : Accepted (offset ∷ end ∷ id ∷ count ∷ tried ∷ [])
        ≡ Accepted
        (m.0.link.offset
        ∷ (twice_model first second ids ts).end
        ∷ m.0.link.id
        ∷ length (twice_model first second ids ts).entries
        ∷ (length (take end₂ new₂) / 64 - m.0.link.offset / 64)
        ∷ []) = answered (Ok (ops.At offset end id count tried)) e m.0 m.1 in
        let z = reported (end₁ ∷ id₁ ∷ count₁ ∷ []) (end₂ ∷ id₂ ∷ count₂ ∷ []) one two m.0 m.1 in
        let same : Accepted (end ∷ id ∷ count ∷ []) ≡ Accepted (end₂ ∷ id₂ ∷ count₂ ∷ []) = cc in
        ((same ∙ both-answer, (m.0, (m.1, (cc, (cc, (cc, cc)))))), both_left)

    pub way_none : (tried : ℕ) → opened_case (take end₂ new₂) ≡ Ok (ops.NoManifest tried) → TwicePromise old first second ids ts (Ok None) × (new₂ ≡ twice_buffer old first second ids ts)
    unfolding TwicePromise opened_answer
    way_none tried e =
        let m = model_manifest first second ids ts in
        let q = answered (Ok (ops.NoManifest tried)) e m.0 m.1 in
        absurd (let z : ◌≡◌ {A = ℕ} 0 1 = cc in omega arith)

    pub way_long : (n : ℕ) → opened_case (take end₂ new₂) ≡ Err n → TwicePromise old first second ids ts (Ok None) × (new₂ ≡ twice_buffer old first second ids ts)
    unfolding TwicePromise opened_answer
    way_long n e =
        let m = model_manifest first second ids ts in
        let q = answered (Err n) e m.0 m.1 in
        absurd (let z : ◌≡◌ {A = ℕ} 0 1 = cc in omega arith)

-- the first append refused
pub way_first : (old new₁ first second ids : List ℕ) (ts : ℕ) (r₁ : Result Appended ℕ) (n : RefusalName) → r₁ ≡ Err (refusal_number n) → Appends old 0 first [] ts (appended_answer r₁) new₁
    → TwicePromise old first second ids ts (Err n) × (new₁ ≡ twice_buffer old first second ids ts)
unfolding TwicePromise twice_answer twice_buffer later_answer later_buffer appended_answer
way_first old new₁ first second ids ts r₁ n e a =
    let q : Refusal (refusal_number n) [] ≡ append_answer old 0 first [] = sym (ap appended_answer e) ∙ a.answers in
    (ap (λ (x : Answer). later_answer (append_buffer old 0 first [] ts) x second ids) q, a.leaves ∙ ap (λ (x : Answer). later_buffer (append_buffer old 0 first [] ts) x second ids ts) q)

-- the second append refused
pub way_second : (old new₁ new₂ first second ids : List ℕ) (ts : ℕ) (r₁ r₂ : Result Appended ℕ) (end₁ id₁ count₁ : ℕ) (n : RefusalName) → r₁ ≡ Ok (record { end = end₁; id = id₁; count = count₁ }) → r₂ ≡ Err (refusal_number n)
    → Appends old 0 first [] ts (appended_answer r₁) new₁ → Appends new₁ end₁ second ids ts (appended_answer r₂) new₂
    → TwicePromise old first second ids ts (Err n) × (new₂ ≡ twice_buffer old first second ids ts)
unfolding TwicePromise twice_answer twice_buffer later_answer later_buffer appended_answer
way_second old new₁ new₂ first second ids ts r₁ r₂ end₁ id₁ count₁ n e₁ e₂ a₁ a₂ =
    let p : Accepted (end₁ ∷ id₁ ∷ count₁ ∷ []) ≡ append_answer old 0 first [] = sym (ap appended_answer e₁) ∙ a₁.answers in
    let q : Refusal (refusal_number n) [] ≡ append_answer new₁ end₁ second ids = sym (ap appended_answer e₂) ∙ a₂.answers in (
      q
          ∙ ap (λ (x : List ℕ). later_answer x (Accepted (end₁ ∷ id₁ ∷ count₁ ∷ [])) second ids) a₁.leaves
          ∙ ap (λ (x : Answer). later_answer (append_buffer old 0 first [] ts) x second ids) p,
      a₂.leaves
          ∙ ap (λ (x : List ℕ). later_buffer x (Accepted (end₁ ∷ id₁ ∷ count₁ ∷ [])) second ids ts) a₁.leaves
          ∙ ap (λ (x : Answer). later_buffer (append_buffer old 0 first [] ts) x second ids ts) p,
    )
