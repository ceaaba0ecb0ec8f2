-- The ways out of the function: the accepted append is a run from the fresh file, and what opening answers then is the claim's.
-- Assumes nothing.
use Rattle.std.specs.Prelude.{ℕ, ◌/◌, ◌-◌, ◌^◌, ◌≤◌, ◌<◌, ◌≡◌, length, take}
use Rattle.std.proofs.Math.Path.{refl, ap, subst}
use Rattle.std.proofs.Common.{sym, ◌∙◌, arith, length-take}
use Rattle.std.proofs.Math.Option.{some}
use mathlib.Core.List.{List, [], ◌∷◌}
use Rattle.octets.specs.le.Le.{Bytes}
use Rattle.answers.specs.Answer.{Accepted, refusal_number, numbered}
use Rattle.segment.specs.chain.Chain.{Found}
use Rattle.segment.specs.Header.{Link}
use Rattle.manifest.specs.Opening.{open_answer, opened_answer, opened_case}
use Rattle.manifest.specs.declared.Opened as op
use Rattle.manifest.specs.declared.Opened.TheVariants as ops
use Rattle.appending.specs.declared.Appended.{Appended}
use Rattle.appending.specs.Append.{appended_answer, Appends, Holds}
use Rattle.compacting.specs.Compact.{compact_case, compacted_answer, compact_buffer}
use Rattle.compacting.specs.Promise.{Compaction, written_file}
use Rattle.compacting.proofs.Theorem.{compacted}
use Rattle.compacting.specs.declared.Compacted.{Compacted}
use Rattle.std.specs.Prelude.{Result, Ok, Err}
use Rattle.answers.specs.declared.Refusal.{Refusal as RefusalName}
use Rattle.claim.specs.Model.{Entry, new_manifest_entry, accepted_model, feed, feed_all}
use Rattle.claim.specs.Demand3.{Call, is_accepted, file_after, Run, stop, call, fed_all, or_before, last_accepted}
use Rattle.claim.proofs.Theorem.{demand3}
use Rattle.claim.proofs.LaterHolds.{starts_anew}
use Rattle.claim_uses.specs.twice.Twice.{later_answer, later_buffer}
use Rattle.claim_uses.proofs.twice.TwiceLaws.{file_length}
use Rattle.claim_uses.specs.anew.Anew.{anew_model, anew_answer, anew_buffer, AnewPromise}

-- the model has a manifest
model_manifest : (r : Found Link) (batch ids : List ℕ) (ts : ℕ) → (m : Entry) × ((anew_model r batch ids ts).manifest ≡ some m)
unfolding anew_model feed_all feed accepted_model new_manifest_entry
model_manifest r batch ids ts = (_, refl)

-- as the function has it: two answers, by cases
module _ (f buf new₁ new₂ batch ids : List ℕ) (ts : ℕ) (t : ts < 2 ^ 64) (bytes : Bytes f) (c : Result Compacted ℕ) (a : Result Appended ℕ) (end₁ id₁ count₁ end₂ id₂ count₂ : ℕ)
    (e₁ : c ≡ Ok (record { end = end₁; id = id₁; count = count₁ })) (e₂ : a ≡ Ok (record { end = end₂; id = id₂; count = count₂ })) (answers : c ≡ compact_case f buf) (leaves : new₁ ≡ compact_buffer f buf)
    (appends : Appends new₁ end₁ batch ids ts (appended_answer a) new₂) where
  first : compact_case f buf ≡ Ok (record { end = end₁; id = id₁; count = count₁ })
  first = sym answers ∙ e₁

  compaction : Compaction f buf end₁ id₁ count₁
  compaction = compacted f buf end₁ id₁ count₁ bytes first

  abbrev g : List ℕ
  g = written_file f buf end₁

  -- the fresh file is the buffer's first bytes
  fresh-is : g ≡ take end₁ new₁
  unfolding written_file
  fresh-is = ap (take end₁) (sym leaves)

  holds : Holds new₁ g
  holds h = ap (λ (n : ℕ). take n new₁) compaction.ends ∙ sym fresh-is

  one : Appends new₁ (length g) batch ids ts (Accepted (end₂ ∷ id₂ ∷ count₂ ∷ [])) new₂
  unfolding appended_answer
  one = subst (λ (n : ℕ). Appends new₁ n batch ids ts (Accepted (end₂ ∷ id₂ ∷ count₂ ∷ [])) new₂) (sym compaction.ends)
      (subst (λ (x : Result Appended ℕ). Appends new₁ end₁ batch ids ts (appended_answer x) new₂) e₂ appends)

  abbrev calls : List Call
  calls = record { batch = batch; retiring = ids; timestamp = ts; answer = Accepted (end₂ ∷ id₂ ∷ count₂ ∷ []) } ∷ []

  run : Run g calls (take end₂ new₂)
  unfolding file_after
  run = call {old = new₁} {new = new₂} holds t one stop

  -- the end answered lies in the buffer
  pub end_inside : end₂ ≤ length new₂
  end_inside = let l = file_length g new₁ batch ids ts (end₂ ∷ id₂ ∷ count₂ ∷ []) new₂ t holds one in omega (arith, length-take end₂ new₂)

  abbrev model : Entry → List ℕ
  model m =
      m.link.offset
      ∷ (anew_model compaction.found batch ids ts).end
      ∷ m.link.id
      ∷ length (anew_model compaction.found batch ids ts).entries
      ∷ (length (take end₂ new₂) / 64 - m.link.offset / 64)
      ∷ []

  opens : (m : Entry) → (anew_model compaction.found batch ids ts).manifest ≡ some m → open_answer (take end₂ new₂) ≡ Accepted (model m)
  unfolding anew_model fed_all is_accepted
  opens m e = (demand3 (starts_anew f buf end₁ id₁ count₁ compaction) run).claim.answers m e

  -- and that is what the append reported
  reported : (m : Entry) → (anew_model compaction.found batch ids ts).manifest ≡ some m
      → Accepted (end₂ ∷ id₂ ∷ count₂ ∷ [])
      ≡ Accepted ((anew_model compaction.found batch ids ts).end ∷ m.link.id ∷ length (anew_model compaction.found batch ids ts).entries ∷ [])
  unfolding anew_model fed_all is_accepted last_accepted or_before
  reported m e = (demand3 (starts_anew f buf end₁ id₁ count₁ compaction) run).claim.last m e (Accepted (end₂ ∷ id₂ ∷ count₂ ∷ [])) refl

  -- the buffer after the two, and the answer of the two
  both_left : new₂ ≡ anew_buffer f buf batch ids ts
  unfolding anew_buffer later_buffer compacted_answer appended_answer
  both_left =
      appends.leaves
      ∙ ap (λ (x : List ℕ). later_buffer x (Accepted (end₁ ∷ id₁ ∷ count₁ ∷ [])) batch ids ts) leaves
      ∙ ap (λ (x : Result Compacted ℕ). later_buffer (compact_buffer f buf) (compacted_answer x) batch ids ts) (sym first)

  both-answer : Accepted (end₂ ∷ id₂ ∷ count₂ ∷ []) ≡ anew_answer f buf batch ids
  unfolding anew_answer later_answer compacted_answer appended_answer
  both-answer =
      ap appended_answer (sym e₂)
      ∙ appends.answers
      ∙ ap (λ (x : List ℕ). later_answer x (Accepted (end₁ ∷ id₁ ∷ count₁ ∷ [])) batch ids) leaves
      ∙ ap (λ (x : Result Compacted ℕ). later_answer (compact_buffer f buf) (compacted_answer x) batch ids) (sym first)

  pub way_opened : (o : Result op.Opened RefusalName) → numbered o ≡ opened_case (take end₂ new₂) → AnewPromise f buf batch ids ts o × (new₂ ≡ anew_buffer f buf batch ids ts)
  unfolding AnewPromise opened_answer open_answer
  way_opened o e = (go o (ap opened_answer e ∙ opens m.0 m.1), both_left)
    where
      m : (m : Entry) × ((anew_model compaction.found batch ids ts).manifest ≡ some m)
      m = model_manifest compaction.found batch ids ts

      go : (o : Result op.Opened RefusalName) → opened_answer (numbered o) ≡ Accepted (model m.0) → AnewPromise f buf batch ids ts o
      go (Ok (ops.At offset end id count tried)) q =
          let z = reported m.0 m.1 in
          let same : Accepted (end ∷ id ∷ count ∷ []) ≡ Accepted (end₂ ∷ id₂ ∷ count₂ ∷ []) = cc in
          (same ∙ both-answer, (compaction.found, (compaction.opens, (m.0, (m.1, (cc, (cc, (cc, cc))))))))
      go (Ok (ops.NoManifest tried)) q = absurd (let z : ◌≡◌ {A = ℕ} 0 1 = cc in omega arith)
      go (Err n) q = absurd (let z : ◌≡◌ {A = ℕ} 0 1 = cc in omega arith)

-- compaction refused
pub way_first : (f buf new₁ batch ids : List ℕ) (ts : ℕ) (c : Result Compacted ℕ) (n : RefusalName) → c ≡ Err (refusal_number n) → c ≡ compact_case f buf → new₁ ≡ compact_buffer f buf
    → AnewPromise f buf batch ids ts (Err n) × (new₁ ≡ anew_buffer f buf batch ids ts)
unfolding AnewPromise anew_answer anew_buffer later_answer later_buffer compacted_answer
way_first f buf new₁ batch ids ts c n e answers leaves =
    let q : Err (refusal_number n) ≡ compact_case f buf = sym e ∙ answers in (
      ap (λ (x : Result Compacted ℕ). later_answer (compact_buffer f buf) (compacted_answer x) batch ids) q,
      leaves ∙ ap (λ (x : Result Compacted ℕ). later_buffer (compact_buffer f buf) (compacted_answer x) batch ids ts) q,
    )

-- the append refused
pub way_second : (f buf new₁ new₂ batch ids : List ℕ) (ts : ℕ) (c : Result Compacted ℕ) (a : Result Appended ℕ) (end₁ id₁ count₁ : ℕ) (n : RefusalName) → c ≡ Ok (record { end = end₁; id = id₁; count = count₁ }) → a ≡ Err (refusal_number n)
    → c ≡ compact_case f buf → new₁ ≡ compact_buffer f buf → Appends new₁ end₁ batch ids ts (appended_answer a) new₂
    → AnewPromise f buf batch ids ts (Err n) × (new₂ ≡ anew_buffer f buf batch ids ts)
unfolding AnewPromise anew_answer anew_buffer later_answer later_buffer compacted_answer appended_answer
way_second f buf new₁ new₂ batch ids ts c a end₁ id₁ count₁ n e₁ e₂ answers leaves appends =
    let p : Ok (record { end = end₁; id = id₁; count = count₁ }) ≡ compact_case f buf = sym e₁ ∙ answers in (
      sym (ap appended_answer e₂) ∙ appends.answers
          ∙ ap (λ (x : List ℕ). later_answer x (Accepted (end₁ ∷ id₁ ∷ count₁ ∷ [])) batch ids) leaves
          ∙ ap (λ (x : Result Compacted ℕ). later_answer (compact_buffer f buf) (compacted_answer x) batch ids) p,
      appends.leaves
          ∙ ap (λ (x : List ℕ). later_buffer x (Accepted (end₁ ∷ id₁ ∷ count₁ ∷ [])) batch ids ts) leaves
          ∙ ap (λ (x : Result Compacted ℕ). later_buffer (compact_buffer f buf) (compacted_answer x) batch ids ts) p,
    )
