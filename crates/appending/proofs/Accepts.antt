-- What an accepted append has passed: the tests inverted.
-- Assumes nothing.
use Rattle.std.specs.Prelude.{ℕ, zero, suc, ◌-◌, ◌^◌, ◌≤◌, ◌<◌, ◌≡◌, refl, Bool, true, false, ◌&&◌, List, [], ◌∷◌, ltb}
use Rattle.std.proofs.Common.{sym, arith, ltb-false, lt-ltb, le-ltb}
use Rattle.std.proofs.Math.Bool.{and-false}
use Rattle.std.proofs.Math.Option.{Option, none, some}
use Rattle.std.proofs.lemmas.Bool.{not-false}
use Rattle.answers.specs.limits.Limits.{max_file, max_entries}
use Rattle.answers.specs.Answer.{Answer, Accepted, Refusal}
use Rattle.segment.specs.chain.Chain.{Found}
use Rattle.segment.specs.Header.{Link}
use Rattle.batch.specs.Form.{batch_held, bodies_of}
use Rattle.appending.specs.Retire.{retire_held}
use Rattle.appending.specs.Append.{old_links, old_states, manifest_id, new_count, new_end, vectors_bad, Check, checked, is_none, append_checks, answer_on}

-- an accepted call passed every test
unfoldable pub AllPass : List Check → Type 0
AllPass [] = Unit {0}
AllPass (c ∷ cs) = (c.bad ≡ false) × AllPass cs

pub passed : (cs : List Check) (a : Answer) (vs : List ℕ) → checked cs a ≡ Accepted vs → AllPass cs × (a ≡ Accepted vs)
unfolding checked AllPass
passed [] a vs q = (tt, q)
passed (c ∷ cs) a vs q = go c.bad refl (passed cs a vs)
  where
    go : (t : Bool) → c.bad ≡ t → (checked cs a ≡ Accepted vs → AllPass cs × (a ≡ Accepted vs)) → ((c.bad ≡ false) × AllPass cs) × (a ≡ Accepted vs)
    go true h ih = let q' : Refusal c.number [] ≡ Accepted vs = rw h at q in let z : ◌≡◌ {A = ℕ} 0 1 = cc in absurd (omega arith)
    go false h ih = let p = ih (rw h at q) in ((h, p.0), p.1)

pub record Fits (room n : ℕ) (o : Option (Found Link)) (batch ids : List ℕ) : Type 0 where
  pub in_buffer : n ≤ room
  pub in_limit : n ≤ max_file
  pub starts_empty : o ≡ none → n ≡ 0
  pub batch_is_held : batch_held batch ≡ true
  pub vectors_good : vectors_bad (bodies_of batch) ≡ 0
  pub retire_is_held : retire_held (old_links o) (old_states o) ids ≡ true
  pub count_fits : new_count o (bodies_of batch) ≤ max_entries
  pub id_fits : manifest_id o (bodies_of batch) < 2 ^ 64
  pub end_limit : new_end o (bodies_of batch) ≤ max_file
  pub end_room : new_end o (bodies_of batch) ≤ room

empty_only : (n : ℕ) (o : Option (Found Link)) → ltb 0 n && is_none o ≡ false → o ≡ none → n ≡ 0
unfolding is_none
empty_only zero o e z = refl
empty_only (suc n) none e z =
    let p : 0 < suc n = omega arith in
    let t : true ≡ false = rw (lt-ltb 0 (suc n) p) at e in
    absurd (let w : ◌≡◌ {A = ℕ} 0 1 = cc in omega arith)
empty_only (suc n) (some r) e z = absurd (let w : ◌≡◌ {A = ℕ} 0 1 = cc in omega arith)

none_bad : (v : ℕ) → ltb 0 v ≡ false → v ≡ 0
none_bad v e = let h = ltb-false 0 v e in omega arith

pub accepted_when : (room n : ℕ) (o : Option (Found Link)) (batch ids vs : List ℕ) → answer_on room n o batch ids ≡ Accepted vs
    → Fits room n o batch ids × (vs ≡ new_end o (bodies_of batch) ∷ manifest_id o (bodies_of batch) ∷ new_count o (bodies_of batch) ∷ [])
unfolding answer_on append_checks AllPass
accepted_when room n o batch ids vs q =
    let p = passed (append_checks room n o batch ids) _ vs q in
    let t = p.0 in
    let v : new_end o (bodies_of batch) ∷ manifest_id o (bodies_of batch) ∷ new_count o (bodies_of batch) ∷ [] ≡ vs = cc p.1 in
    let top = 2 ^ 64 - 1 in
    let idle : manifest_id o (bodies_of batch) ≤ 2 ^ 64 - 1 = ltb-false (2 ^ 64 - 1) (manifest_id o (bodies_of batch)) t.1.1.1.1.1.1.1.0 in (
      record {
        in_buffer = ltb-false room n t.0;
        in_limit = ltb-false max_file n t.1.0;
        starts_empty = empty_only n o t.1.1.0;
        batch_is_held = not-false (batch_held batch) t.1.1.1.0;
        vectors_good = none_bad (vectors_bad (bodies_of batch)) t.1.1.1.1.0;
        retire_is_held = not-false (retire_held (old_links o) (old_states o) ids) t.1.1.1.1.1.0;
        count_fits = ltb-false max_entries (new_count o (bodies_of batch)) t.1.1.1.1.1.1.0;
        id_fits = omega arith;
        end_limit = ltb-false max_file (new_end o (bodies_of batch)) t.1.1.1.1.1.1.1.1.0;
        end_room = ltb-false room (new_end o (bodies_of batch)) t.1.1.1.1.1.1.1.1.1.0;
      },
      sym v,
    )

-- and the other way: what passes every test is accepted
pub empty_passes : (n : ℕ) (o : Option (Found Link)) → (o ≡ none → n ≡ 0) → ltb 0 n && is_none o ≡ false
unfolding is_none
empty_passes n none h = rw (h refl)
empty_passes n (some r) h = and-false (ltb 0 n)

pub accepts : (room n : ℕ) (o : Option (Found Link)) (batch ids : List ℕ) → Fits room n o batch ids
    → answer_on room n o batch ids ≡ Accepted (new_end o (bodies_of batch) ∷ manifest_id o (bodies_of batch) ∷ new_count o (bodies_of batch) ∷ [])
unfolding answer_on append_checks checked
accepts room n o batch ids y =
    let top : manifest_id o (bodies_of batch) ≤ 2 ^ 64 - 1 = (let i = y.id_fits in omega arith) in
    rw (
      le-ltb room n y.in_buffer,
      le-ltb max_file n y.in_limit,
      empty_passes n o y.starts_empty,
      y.batch_is_held,
      y.vectors_good,
      y.retire_is_held,
      le-ltb max_entries (new_count o (bodies_of batch)) y.count_fits,
      le-ltb (2 ^ 64 - 1) (manifest_id o (bodies_of batch)) top,
      le-ltb max_file (new_end o (bodies_of batch)) y.end_limit,
      le-ltb room (new_end o (bodies_of batch)) y.end_room,
    )
