-- The ways out of an append that is cut short. What the cut file answers is not reasoned about here: it is cited from the claim about every list of
-- appends.
-- Assumes nothing.
use Rattle.std.specs.Prelude.{Result, Ok, Err}
use Rattle.appending.specs.declared.Appended.{Appended}
use Rattle.answers.specs.declared.Refusal.{Refusal as RefusalName}
use Rattle.answers.specs.declared.Refusal.TheVariants.{NoRoom}
use Rattle.claim_uses.specs.cut.CutRead.{CutReadPromise}
use Rattle.std.specs.Prelude.{ℕ, ◌<◌, ◌≤◌, ◌+◌, ◌-◌, ◌^◌, ◌≡◌, length, get_or}
use Rattle.std.proofs.Math.Path.{refl, sym, ap, subst}
use Rattle.std.proofs.Common.{◌∙◌, arith, length-take-le}
use mathlib.Core.List.{List, [], ◌∷◌}
use Rattle.std.proofs.Math.ListN.{take}
use Rattle.manifest.specs.declared.Opened.TheVariants.{At, NoManifest}
use Rattle.appending.specs.Append.{append_buffer, Appends, appended_answer, start_of, manifest_at, new_end, Holds}
use Rattle.appending.proofs.Buffer.{AppendedBy, appended}
use Rattle.append.proofs.AppendLaws.{way_room}
use Rattle.claim_uses.specs.declared.cut.CutRead.TheVariants.{NotAppended, Read, NotCut}
use Rattle.manifest.specs.Opening.{opened, opened_case}
use Rattle.opening.proofs.Indexed.{opened_refused, opened_none, opened_at, opened_end}
use Rattle.claim.specs.Demand3.{opens, Call, file_after, Run, stop, call, Starts, empty, last_accepted, Alike, LastAppend, cut_at}
use Rattle.std.proofs.Math.Option.{Option, none, some}
use Rattle.std.proofs.Math.Seq.{take-take}
use Rattle.answers.specs.Answer.{Accepted, refusal_number, numbered}
use Rattle.vecseg.specs.declared.Vector.{Vector}
use Rattle.reading.specs.Answers.{vector_case, vector_after}
use Rattle.batch.specs.Form.{bodies_of}
use Rattle.appending.proofs.Written.{bodies_end_ge}
use Rattle.segment.specs.chain.Chain.{Found}
use Rattle.segment.specs.Header.{Link}
use Rattle.claim.specs.Model.{Model, empty_model, model_of}
use Rattle.claim.proofs.Theorem.{demand3}

module _ (old : List ℕ) (n : ℕ) (batch ids : List ℕ) (ts k id : ℕ) (out : List ℕ) where
  -- the buffer is too short for the file
  pub says_short : length old < n → CutReadPromise old n batch ids k id out out (NotAppended NoRoom) × (old ≡ append_buffer old n batch ids ts)
  unfolding CutReadPromise appended_answer
  says_short h = let w = way_room old n batch ids ts h in ((w.answers, refl), w.leaves)

  pub says_refused : (new : List ℕ) (r : Result Appended ℕ) (e : RefusalName) → r ≡ Err (refusal_number e) → Appends old n batch ids ts (appended_answer r) new
      → CutReadPromise old n batch ids k id out out (NotAppended e) × (new ≡ append_buffer old n batch ids ts)
  unfolding CutReadPromise appended_answer
  says_refused new r e is a = ((sym (ap appended_answer is) ∙ a.answers, refl), a.leaves)

-- ---- where an append starts, by what opening answers

module _ (f : List ℕ) where
  pub start_refused : (n : ℕ) → opened_case f ≡ Err n → length f ≤ 16777216 → 0 ≡ start_of (opened f)
  start_refused n e h = absurd (omega (arith, (opened_refused f n e).1))

  pub start_none : (t : ℕ) → opened_case f ≡ Ok (NoManifest t) → 0 ≡ start_of (opened f)
  unfolding start_of
  start_none t e = sym (ap start_of (opened_none f t e).1)

  pub start_at : (offset end id count t : ℕ) → opened_case f ≡ Ok (At offset end id count t) → end ≡ start_of (opened f)
  unfolding start_of
  start_at offset end id count t e = sym (ap start_of (opened_at f offset end id count t e).opens ∙ (opened_end f offset end id count t e).0)

-- ---- an accepted append, cut

module _ (old : List ℕ) (n : ℕ) (batch ids : List ℕ) (ts : ℕ) (end i count : ℕ) (new : List ℕ) (inside : n ≤ length old)
    (r : Result Appended ℕ) (is : r ≡ Ok (record { end = end; id = i; count = count })) (a : Appends old n batch ids ts (appended_answer r) new) where
  file-length : length (take n old) ≡ n
  file-length = length-take-le n old inside

  held : Holds old (take n old)
  held h = ap (λ (m : ℕ). take m old) file-length

  accepts : Appends old n batch ids ts (Accepted (end ∷ i ∷ count ∷ [])) new
  unfolding appended_answer
  accepts = subst (λ (x : Result Appended ℕ). Appends old n batch ids ts (appended_answer x) new) is a

  appends : Appends old (length (take n old)) batch ids ts (Accepted (end ∷ i ∷ count ∷ [])) new
  appends = subst (λ (m : ℕ). Appends old m batch ids ts (Accepted (end ∷ i ∷ count ∷ [])) new) (sym file-length) accepts

  did : AppendedBy (take n old) old batch ids ts (end ∷ i ∷ count ∷ []) new
  did = appended (take n old) old batch ids ts held (end ∷ i ∷ count ∷ []) new appends

  end_is : end ≡ new_end (opened (take n old)) (bodies_of batch)
  end_is = ap (λ (x : List ℕ). get_or x 0 0) did.values

  -- the file was within the limit
  pub within : length (take n old) ≤ 16777216
  within = omega (arith, did.fits.in_limit)

  -- the new end is at or behind the start, and within the buffer
  pub start_le : start_of (opened (take n old)) ≤ end
  unfolding new_end manifest_at
  start_le = omega (arith, end_is, bodies_end_ge (start_of (opened (take n old))) (bodies_of batch))

  pub end_room : end ≤ length old
  end_room = omega (arith, end_is, did.fits.end_room)

  -- no call came later
  none-later : last_accepted [] ≡ none
  unfolding last_accepted
  none-later = refl

  pub says_whole : (start k id : ℕ) (out : List ℕ) → (length (take n old) ≤ 16777216 → start ≡ start_of (opened (take n old))) → end - start ≤ k
      → CutReadPromise old n batch ids k id out out NotCut × (new ≡ append_buffer old n batch ids ts)
  unfolding CutReadPromise
  says_whole start k id out starts h =
      let s = starts within in
      ((end ∷ i ∷ count ∷ [], (accepts.answers, (omega (arith, s), refl))), accepts.leaves)

  -- the list of this one call, from a file that was empty or opens, since the append was accepted
  abbrev calls : List Call
  calls = record { batch = batch; retiring = ids; timestamp = ts; answer = Accepted (end ∷ i ∷ count ∷ []) } ∷ []

  run : ts < 2 ^ 64 → Run (take n old) calls (take end new)
  unfolding file_after
  run h = call {old = old} {new = new} held h appends stop

  nothing : (f : List ℕ) → length f ≡ 0 → Starts f empty_model
  nothing [] e = empty
  nothing (x ∷ f) e = absurd (omega arith)

  begins : (o : Option (Found Link)) → opened (take n old) ≡ o → (m : Model) × Starts (take n old) m
  begins none e = (empty_model, nothing (take n old) (did.fits.starts_empty e))
  begins (some r) e = (model_of r, opens within e)

  unfoldable last : ts < 2 ^ 64 → LastAppend (take n old) calls (take end new)
  last h =
      record {
        earlier = [];
        got = take n old;
        run = stop;
        old = old;
        new = new;
        batch = batch;
        retiring = ids;
        timestamp = ts;
        values = end ∷ i ∷ count ∷ [];
        holds = held;
        fits = h;
        appends = appends;
        later = [];
        then = stop;
        refused = none-later;
        split = refl;
      }

  module _ (fits : ts < 2 ^ 64) (start k : ℕ) (starts : length (take n old) ≤ 16777216 → start ≡ start_of (opened (take n old))) (short : k < end - start) where
    -- the cut file is what the claim cuts
    cut-is : cut_at (take n old) (take end new) k ≡ take (start + k) new
    unfolding cut_at
    cut-is =
        let s = starts within in
        take-take (start_of (opened (take n old)) + k) end new (omega (arith, s)) ∙ ap (λ (m : ℕ). take (m + k) new) (sym s)

    alike : Alike (take (start + k) new) (take n old)
    unfolding last
    alike =
        let s = starts within in
        let h : k < end - start_of (opened (take n old)) = omega (arith, s) in
        subst (λ (x : List ℕ). Alike x (take n old)) cut-is ((demand3 (begins (opened (take n old)) refl).1 (run fits)).cut (last fits) k h).alike

    -- so what is read there is what the file before the append has
    pub says_read : (id : ℕ) (out exit : List ℕ) (v : Result Vector RefusalName) → numbered v ≡ vector_case (take (start + k) new) id out → exit ≡ vector_after (take (start + k) new) id out
        → CutReadPromise old n batch ids k id out exit (Read v) × (new ≡ append_buffer old n batch ids ts)
    unfolding CutReadPromise
    says_read id out exit v e b =
        let s = starts within in
        (((end ∷ i ∷ count ∷ [], (accepts.answers, omega (arith, s))), (e ∙ alike.vector id out, b ∙ alike.buffer id out)), accepts.leaves)
