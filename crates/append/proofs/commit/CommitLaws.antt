-- The laws of specs/commit/Commit.antt.
-- Assumes nothing.
use Rattle.std.specs.Prelude.{ℕ, ◌+◌, ◌-◌, ◌^◌, ◌≤◌, ◌<◌, ◌≡◌, true, false, List, [], ◌∷◌, leb, ltb, length, take}
use Rattle.std.proofs.Math.Path.{sym, ap}
use Rattle.std.proofs.Common.{◌∙◌, lt_of_not-le}
use Rattle.std.proofs.Math.Option.{Option}
use native.Mathlib.Omega.{arith}
use Rattle.std.proofs.Math.Decide.{dec_le}
use borrow.Author.Tests.{lt-ltb, le-ltb, lt-leb, le-leb}
use Rattle.octets.specs.Round.{round64}
use Rattle.octets.specs.Over.{over}
use Rattle.answers.specs.limits.Limits.{max_file, max_entries}
use Rattle.answers.specs.Answer.{Accepted, Refusal}
use Rattle.segment.specs.chain.Chain.{Found}
use Rattle.segment.specs.Header.{Link}
use Rattle.manifest.specs.Sized.{record_by}
use Rattle.manifest.specs.Payload.{payload_length, entries_end}
use Rattle.batch.specs.Form.{Body}
use Rattle.appending.specs.Append.{kept_links, start_of, next_id, bodies_end, manifest_at, manifest_id, new_count, new_end, checked, appended_answer}
use Rattle.std.specs.Prelude.{Ok, Err, Some, None}
use Rattle.std.specs.Prelude.{Option as Maybe}
use Rattle.append.specs.commit.Commit.{next_id_of, commit_checks, commit_answer, bytes_with, buffer_with, commit_buffer}

-- ---- the ways out

-- the next id, and whether the new manifest's would pass the largest number
module _ (last : Maybe ℕ) where
  pub next_first : last ≡ None → 0 ≡ next_id_of last
  unfolding next_id_of
  next_first e = rw e

  pub next_later : (id : ℕ) → last ≡ Some id → id + 1 ≡ next_id_of last
  unfolding next_id_of
  next_later id e = rw e

  pub over_first : (m : ℕ) → last ≡ None → m ≤ 16 → false ≡ ltb (2 ^ 64 - 1) (next_id_of last + m)
  over_first m e h =
      let z = next_first e in
      let l : next_id_of last + m ≤ 2 ^ 64 - 1 = omega arith in
      sym (le-ltb (2 ^ 64 - 1) (next_id_of last + m) l)

  pub over_later : (id m : ℕ) → last ≡ Some id → id < 2 ^ 64 → leb (2 ^ 64 - 1 - id) m ≡ ltb (2 ^ 64 - 1) (next_id_of last + m)
  over_later id m e h = go (dec_le (2 ^ 64 - 1 - id) m)
    where
      go : Dec (2 ^ 64 - 1 - id ≤ m) → leb (2 ^ 64 - 1 - id) m ≡ ltb (2 ^ 64 - 1) (next_id_of last + m)
      go (yes q) =
          let z = next_later id e in
          let l : 2 ^ 64 - 1 < next_id_of last + m = omega arith in
          le-leb (2 ^ 64 - 1 - id) m q ∙ sym (lt-ltb (2 ^ 64 - 1) (next_id_of last + m) l)
      go (no q) =
          let z = next_later id e in
          let p = lt_of_not-le q in
          let l : next_id_of last + m ≤ 2 ^ 64 - 1 = omega arith in
          lt-leb (2 ^ 64 - 1 - id) m p ∙ sym (le-ltb (2 ^ 64 - 1) (next_id_of last + m) l)

module _ (o : Option (Found Link)) (old : List ℕ) (bs : List Body) (states : List ℕ) (ts : ℕ) where
  refused : (n : ℕ) → commit_answer (length old) o bs ≡ Refusal n [] → (appended_answer (Err n) ≡ commit_answer (length old) o bs) × (old ≡ commit_buffer o old bs states ts)
  unfolding appended_answer commit_buffer buffer_with
  refused n e = (sym e, sym (ap (buffer_with o old bs (take (new_count o bs) states) ts) e))

  pub commit_entries : max_entries < new_count o bs → (appended_answer (Err 12) ≡ commit_answer (length old) o bs) × (old ≡ commit_buffer o old bs states ts)
  unfolding commit_answer commit_checks checked
  commit_entries h = refused 12 (rw (lt-ltb max_entries (new_count o bs) h))

  module _ (at_most : new_count o bs ≤ max_entries) where
    pub commit_ids : ltb (2 ^ 64 - 1) (manifest_id o bs) ≡ true → (appended_answer (Err 13) ≡ commit_answer (length old) o bs) × (old ≡ commit_buffer o old bs states ts)
    unfolding commit_answer commit_checks checked
    commit_ids h = refused 13 (rw (le-ltb max_entries (new_count o bs) at_most, h))

    module _ (fit : ltb (2 ^ 64 - 1) (manifest_id o bs) ≡ false) where
      pub commit_limit : max_file < new_end o bs → (appended_answer (Err 1) ≡ commit_answer (length old) o bs) × (old ≡ commit_buffer o old bs states ts)
      unfolding commit_answer commit_checks checked
      commit_limit h = refused 1 (rw (le-ltb max_entries (new_count o bs) at_most, fit, lt-ltb max_file (new_end o bs) h))

      module _ (within : new_end o bs ≤ max_file) where
        pub commit_room : length old < new_end o bs → (appended_answer (Err 9) ≡ commit_answer (length old) o bs) × (old ≡ commit_buffer o old bs states ts)
        unfolding commit_answer commit_checks checked
        commit_room h = refused 9 (rw (le-ltb max_entries (new_count o bs) at_most, fit, le-ltb max_file (new_end o bs) within, lt-ltb (length old) (new_end o bs) h))

        pub commit_done : new_end o bs ≤ length old → (end id count : ℕ) (exit : List ℕ) → end ≡ new_end o bs → id ≡ manifest_id o bs → count ≡ new_count o bs
            → exit ≡ over old (start_of o) (bytes_with o bs (take (new_count o bs) states) ts)
            → (appended_answer (Ok (record { end = end; id = id; count = count })) ≡ commit_answer (length old) o bs) × (exit ≡ commit_buffer o old bs states ts)
        unfolding appended_answer commit_answer commit_checks checked commit_buffer buffer_with
        commit_done h end id count exit e i c x =
            let a : commit_answer (length old) o bs ≡ Accepted (new_end o bs ∷ manifest_id o bs ∷ new_count o bs ∷ []) =
            rw (le-ltb max_entries (new_count o bs) at_most, fit, le-ltb max_file (new_end o bs) within, le-ltb (length old) (new_end o bs) h) in
            (rw (e, i, c) (sym a), x ∙ sym (ap (buffer_with o old bs (take (new_count o bs) states) ts) a))

-- ---- the numbers, as the code has them

module _ (o : Option (Found Link)) (bs : List Body) (start kept m next : ℕ) (s : start_of o ≡ start) (k : length (kept_links o) ≡ kept) (l : length bs ≡ m) (n : next_id o ≡ next) where
  pub count_number : kept + m ≡ new_count o bs
  unfolding new_count
  count_number = rw (k, l)

  pub id_number : next + m ≡ manifest_id o bs
  unfolding manifest_id
  id_number = rw (n, l)

  pub at_number : (at : ℕ) → at ≡ bodies_end start bs → at ≡ manifest_at o bs
  unfolding manifest_at
  at_number at e = e ∙ ap (λ (x : ℕ). bodies_end x bs) (sym s)

  pub end_number : (at r r' : ℕ) → at ≡ bodies_end start bs → r ≡ round64 (entries_end (kept + m)) → r' ≡ round64 (r + 4096) → at + 64 + r' ≡ new_end o bs
  unfolding new_end payload_length record_by
  end_number at r r' e p q =
      let c = count_number in
      let a = at_number at e in
      let x : r' ≡ round64 (round64 (entries_end (new_count o bs)) + 4096) = q ∙ ap (λ (y : ℕ). round64 (y + 4096)) (p ∙ ap (λ (y : ℕ). round64 (entries_end y)) c) in
      omega arith
