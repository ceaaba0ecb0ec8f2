-- The ways out of appending: the tests in order, each with what is answered and left.
-- Assumes nothing.
use Prim.Native.Nat.{ℕ, zero, suc, ◌≤◌, ◌<◌}
use Rattle.std.specs.Prelude.{◌≡◌, Bool, length, take}
use Rattle.std.proofs.Math.Path.{refl, sym, ap}
use Rattle.std.proofs.Common.{◌∙◌}
use Rattle.std.proofs.Math.Bool.{true, false, cond}
use Rattle.std.proofs.Math.Option.{Option, none}
use mathlib.Core.List.{List, []}
use native.Mathlib.Omega.{arith}
use borrow.Author.Tests.{lt-ltb, le-ltb, ltb-false}
use Rattle.answers.specs.limits.Limits.{max_file, max_entries}
use Rattle.answers.specs.Answer.{Answer, Accepted, Refusal}
use Rattle.octets.specs.Over.{over}
use Rattle.segment.specs.chain.Chain.{Found}
use Rattle.segment.specs.Header.{Link}
use Rattle.manifest.specs.Opening.{opened}
use Rattle.batch.specs.Form.{batch_held, bodies_of}
use Rattle.appending.specs.Retire.{retire_held}
use Rattle.appending.specs.Append.{start_of, old_links, old_states, new_count, new_states, new_payload, new_bytes, vectors_bad, checked, is_none, append_checks, answer_on, append_answer, buffer_on, append_buffer, Appends, appended_answer}
use Rattle.appending.proofs.Accepts.{AllPass, passed, empty_passes}
use Rattle.appending.specs.declared.Appended.{Appended}
use Rattle.std.specs.Prelude.{Result, Err}
use Rattle.append.specs.commit.Answer.{batch_number}
use Rattle.std.specs.Result.{IsErrAnd}
use Rattle.answers.specs.Answer.{refusal_number, numbered}
use Rattle.answers.specs.declared.Refusal.{Refusal as RefusalName}
use Rattle.answers.proofs.HandedOn.{handed_on}
use Rattle.std.proofs.Common.{subst}
use Rattle.append.specs.commit.Commit.{commit_checks, commit_answer, bytes_with, buffer_with, commit_buffer}

module _ (old : List ℕ) (n : ℕ) (batch ids : List ℕ) (ts : ℕ) where
  -- a refusal leaves the buffer
  refuses : (k : ℕ) → append_answer old n batch ids ≡ Refusal k [] → Appends old n batch ids ts (appended_answer (Err k)) old
  unfolding appended_answer append_buffer buffer_on
  refuses k e =
      record { answers = sym e; leaves = sym (ap (buffer_on (opened (take n old)) old (bodies_of batch) ids ts) e) }

  pub way_room : length old < n → Appends old n batch ids ts (appended_answer (Err 9)) old
  unfolding append_answer answer_on append_checks checked
  way_room h = refuses 9 (rw (lt-ltb (length old) n h))

  module _ (room : n ≤ length old) where
    pub way_limit : max_file < n → Appends old n batch ids ts (appended_answer (Err 1)) old
    unfolding append_answer answer_on append_checks checked
    way_limit h = refuses 1 (rw (le-ltb (length old) n room, lt-ltb max_file n h))

    module _ (limit : n ≤ max_file) where
      pub way_none : opened (take n old) ≡ none → 0 < n → Appends old n batch ids ts (appended_answer (Err 2)) old
      unfolding append_answer answer_on append_checks checked is_none
      way_none e h = refuses 2 (rw (le-ltb (length old) n room, le-ltb max_file n limit, lt-ltb 0 n h, e))

      module _ (from : opened (take n old) ≡ none → n ≡ 0) where
        form-bad : batch_held batch ≡ false → append_answer old n batch ids ≡ Refusal 10 []
        unfolding append_answer answer_on append_checks checked
        form-bad h = rw (le-ltb (length old) n room, le-ltb max_file n limit, empty_passes n (opened (take n old)) from, h)

        body-bad : (k : ℕ) → batch_held batch ≡ true → vectors_bad (bodies_of batch) ≡ k → 0 < k → append_answer old n batch ids ≡ Refusal k []
        unfolding append_answer answer_on append_checks checked
        body-bad k h e p = rw (le-ltb (length old) n room, le-ltb max_file n limit, empty_passes n (opened (take n old)) from, h, e, lt-ltb 0 k p)

        pub way_batch : (k : ℕ) → k ≡ batch_number batch → (k ≡ 0 → ⊥) → Appends old n batch ids ts (appended_answer (Err k)) old
        unfolding batch_number
        way_batch k e z = refuses k (go (batch_held batch) refl e)
          where
            above : (j : ℕ) → (j ≡ 0 → ⊥) → 0 < j
            above zero q = absurd (q refl)
            above (suc j) q = omega arith

            go : (t : Bool) → batch_held batch ≡ t → k ≡ cond t (vectors_bad (bodies_of batch)) 10 → append_answer old n batch ids ≡ Refusal k []
            go false h q = form-bad h ∙ ap (λ (j : ℕ). Refusal j []) (sym q)
            go true h q = body-bad k h (sym q) (above k z)

        module _ (taken : batch_number batch ≡ 0) where
          both : (batch_held batch ≡ true) × (vectors_bad (bodies_of batch) ≡ 0)
          unfolding batch_number
          both = go (batch_held batch) refl taken
            where
              go : (t : Bool) → batch_held batch ≡ t → cond t (vectors_bad (bodies_of batch)) 10 ≡ 0 → (batch_held batch ≡ true) × (vectors_bad (bodies_of batch) ≡ 0)
              go true h q = (h, q)
              go false h q = absurd (omega arith)

          pub taken_held : batch_held batch ≡ true
          taken_held = both.0

          pub way_retire : retire_held (old_links (opened (take n old))) (old_states (opened (take n old))) ids ≡ false → Appends old n batch ids ts (appended_answer (Err 11)) old
          unfolding append_answer answer_on append_checks checked
          way_retire h =
              refuses 11 (rw (le-ltb (length old) n room, le-ltb max_file n limit, empty_passes n (opened (take n old)) from, both.0, both.1, h))

          module _ (held : retire_held (old_links (opened (take n old))) (old_states (opened (take n old))) ids ≡ true) where
            committed : append_answer old n batch ids ≡ commit_answer (length old) (opened (take n old)) (bodies_of batch)
            unfolding append_answer answer_on append_checks checked commit_answer commit_checks
            committed = rw (le-ltb (length old) n room, le-ltb max_file n limit, empty_passes n (opened (take n old)) from, both.0, both.1, held)

            -- an accepted one has room for its entries
            at_most : (vs : List ℕ) → commit_answer (length old) (opened (take n old)) (bodies_of batch) ≡ Accepted vs → new_count (opened (take n old)) (bodies_of batch) ≤ max_entries
            unfolding commit_answer commit_checks AllPass
            at_most vs e =
                ltb-false max_entries (new_count (opened (take n old)) (bodies_of batch))
                (passed (commit_checks (length old) (opened (take n old)) (bodies_of batch)) _ vs e).0.0

            same_bytes : (states : List ℕ) → take (new_count (opened (take n old)) (bodies_of batch)) states ≡ new_states (opened (take n old)) (bodies_of batch) ids
                → bytes_with (opened (take n old)) (bodies_of batch) (take (new_count (opened (take n old)) (bodies_of batch)) states) ts ≡ new_bytes (opened (take n old)) (bodies_of batch) ids ts
            unfolding bytes_with new_bytes new_payload
            same_bytes states e = ap (λ (ss : List ℕ). bytes_with (opened (take n old)) (bodies_of batch) ss ts) e

            pub way_done : (r : Result Appended ℕ) (exit states : List ℕ) (o : Option (Found Link)) → o ≡ opened (take n old)
                → appended_answer r ≡ commit_answer (length old) o (bodies_of batch) → exit ≡ commit_buffer o old (bodies_of batch) states ts
                → (new_count (opened (take n old)) (bodies_of batch) ≤ max_entries → take (new_count (opened (take n old)) (bodies_of batch)) states ≡ new_states (opened (take n old)) (bodies_of batch) ids)
                → Appends old n batch ids ts (appended_answer r) exit
            unfolding commit_buffer append_buffer buffer_with buffer_on
            way_done r exit states o p a x s =
                let a2 : appended_answer r ≡ commit_answer (length old) (opened (take n old)) (bodies_of batch) = a ∙ ap (λ (z : Option (Found Link)). commit_answer (length old) z (bodies_of batch)) p in
                let x2 : exit ≡ commit_buffer (opened (take n old)) old (bodies_of batch) states ts = x ∙ ap (λ (z : Option (Found Link)). commit_buffer z old (bodies_of batch) states ts) p in
                record {
                  answers = a2 ∙ sym committed;
                  leaves =
                      x2
                      ∙ go (commit_answer (length old) (opened (take n old)) (bodies_of batch)) refl
                      ∙ sym (ap (buffer_on (opened (take n old)) old (bodies_of batch) ids ts) committed);
                }
              where
                go : (w : Answer) → commit_answer (length old) (opened (take n old)) (bodies_of batch) ≡ w
                    → buffer_with (opened (take n old)) old (bodies_of batch) (take (new_count (opened (take n old)) (bodies_of batch)) states) ts w
                    ≡ buffer_on (opened (take n old)) old (bodies_of batch) ids ts w
                go (Accepted vs) e = ap (over old (start_of (opened (take n old)))) (same_bytes states (s (at_most vs e)))
                go (Refusal k vs) e = refl

-- a refusal that is handed on
pub way_handed : (old : List ℕ) (n : ℕ) (batch ids : List ℕ) (ts : ℕ) (r : Result Appended RefusalName) (e : RefusalName) (new : List ℕ) → IsErrAnd r (λ x. x ≡ e)
    → Appends old n batch ids ts (appended_answer (Err (refusal_number e))) new → Appends old n batch ids ts (appended_answer (numbered r)) new
way_handed old n batch ids ts r e new h a = subst (λ (x : Result Appended ℕ). Appends old n batch ids ts (appended_answer x) new) (sym (handed_on r e h)) a
