-- What an append begins from: an empty file, or the file's manifest; and the states that its new directory gets.
-- Assumes nothing.
use Prim.Native.Nat.{ℕ, ◌+◌, ◌-◌, ◌≤◌, ◌<◌}
use Rattle.std.specs.Prelude.{◌≡◌, true, false, Some, None}
use Rattle.std.proofs.Math.Path.{refl, sym, ap}
use Rattle.std.proofs.Common.{◌∙◌, take-take}
use Rattle.std.proofs.Math.Option.{Option, none, some}
use mathlib.Core.List.{List, [], ◌∷◌, ◌++◌, append_assoc}
use native.Mathlib.Omega.{arith}
use Rattle.std.proofs.Math.ListN.{length, take, replicate, length-append}
use Rattle.std.proofs.lemmas.List.{replicate-append-replicate}
use Rattle.std.proofs.Math.Seq.{take-append-add, length-take-le}
use Rattle.octets.proofs.ZeroLaws.{zeros_front}
use Rattle.answers.specs.limits.Limits.{max_entries}
use Rattle.octets.specs.le.Le.{Bytes}
use Rattle.segment.specs.chain.Chain.{Found, up_to}
use Rattle.segment.specs.Header.{Link, size}
use Rattle.segment.specs.Chained.{offsets_of}
use Rattle.segment.specs.index.Offsets.{most}
use Rattle.manifest.specs.Opening.{opened, states}
use Rattle.opening.specs.Indexed.{ManifestAt, Indexed}
use Rattle.opening.proofs.Indexed.{kept_offsets, manifest_room}
use Rattle.batch.specs.Form.{Body}
use Rattle.appending.specs.Retire.{retirable, retire_held, retired}
use Rattle.appending.specs.Append.{kept_links, start_of, next_id, old_links, old_states, kept_states, new_count, new_states}
use Rattle.appending.proofs.States.{retired_length}
use Rattle.appending.proofs.Buffer.{start_inside}
use Rattle.append.specs.commit.Commit.{next_id_of}
use Rattle.append.specs.commit.Base.{Base}
use Rattle.append.proofs.commit.Base.{kept_opens}

-- ---- an empty file

module _ (g : List ℕ) (none_found : opened g ≡ none) where
  pub base_empty : (offsets : List ℕ) → length g ≡ 0 → Base g offsets 0 0 None
  unfolding start_of next_id next_id_of up_to
  base_empty offsets e =
      record {
        whole = e;
        small = omega arith;
        at_most = omega arith;
        start_is = ap start_of none_found;
        count_is = ap (λ (o : Option (Found Link)). length (kept_links o)) none_found;
        next_is = ap next_id none_found;
        offsets_are = sym (ap (λ (o : Option (Found Link)). offsets_of (kept_links o)) none_found);
      }

  pub states_empty : (bs : List Body) (ids : List ℕ) → new_count (opened g) bs ≤ max_entries → take (new_count (opened g) bs) (replicate 1024 0) ≡ new_states (opened g) bs ids
  unfolding new_count new_states kept_states up_to
  states_empty bs ids h =
      zeros_front (new_count (opened g) bs) 1024 h
      ∙ ap (λ (o : Option (Found Link)). replicate (new_count o bs) 0) none_found
      ∙ sym (replicate-append-replicate 0 (length bs) 0)
      ∙ sym (ap (λ (o : Option (Found Link)). new_states o bs ids) none_found)

  pub retire_none : (ids : List ℕ) → length ids ≡ 0 → retire_held (old_links (opened g)) (old_states (opened g)) ids ≡ true
  unfolding retire_held
  retire_none [] e = refl
  retire_none (x ∷ ids) e = absurd (omega arith)

  pub retire_some : (ids : List ℕ) → 0 < length ids → retire_held (old_links (opened g)) (old_states (opened g)) ids ≡ false
  unfolding retire_held retirable old_links old_states
  retire_some [] e = absurd (omega arith)
  retire_some (x ∷ ids) e = ap (λ (o : Option (Found Link)). retire_held (old_links o) (old_states o) (x ∷ ids)) none_found

-- ---- a manifest

module _ (f old offsets : List ℕ) (n offset end id count : ℕ) (f-is : take n old ≡ f) (inside : n ≤ length old) (t : Bytes f) (s : Indexed f offsets) (has_room : most ≤ length offsets)
    (m : ManifestAt f offset count) (end_is : m.found.link.offset + size m.found.link ≡ end) (id_is : m.found.link.id ≡ id) where
  start-end : start_of (opened f) ≡ end
  unfolding start_of
  start-end = ap start_of m.opens ∙ end_is

  f-long : length f ≡ n
  f-long = ap length (sym f-is) ∙ length-take-le n old inside

  end_low : end ≤ n
  end_low = omega (arith, start_inside f, start-end, f-long)

  front_same : take end old ≡ take (start_of (opened f)) f
  front_same =
      sym (take-take end n old end_low) ∙ ap (take end) f-is ∙ ap (λ (k : ℕ). take k f) (sym start-end)

  -- opening what is kept finds the same
  pub front_opens : opened (take end old) ≡ opened f
  front_opens = ap opened front_same ∙ kept_opens f

  pub base_later : Base (take end old) offsets end (count + 1) (Some id)
  unfolding next_id_of next_id up_to
  base_later =
      let r = manifest_room f offsets offset count t s has_room m in
      record {
        whole = length-take-le end old (omega (arith, end_low));
        small = omega (arith, end_low, f-long, m.within);
        at_most = omega (arith, r.1);
        start_is = ap start_of front_opens ∙ start-end;
        count_is =
            ap (λ (o : Option (Found Link)). length (kept_links o)) (front_opens ∙ m.opens)
            ∙ length-append m.found.before (m.found.link ∷ [])
            ∙ ap (λ (k : ℕ). k + 1) m.count_is;
        next_is = ap next_id (front_opens ∙ m.opens) ∙ ap (λ (k : ℕ). k + 1) id_is;
        offsets_are = sym (ap (λ (o : Option (Found Link)). offsets_of (kept_links o)) (front_opens ∙ m.opens) ∙ kept_offsets f offsets offset count t s has_room m);
      }

  pub states_later : (bs : List Body) (ids ss : List ℕ) → ss ≡ retired (old_links (opened f)) (old_states (opened f)) ids ++ replicate (1024 - count) 0
      → new_count (opened f) bs ≤ max_entries → take (new_count (opened f) bs) ss ≡ new_states (opened f) bs ids
  unfolding new_count new_states kept_states up_to old_links old_states
  states_later bs ids ss e h =
      let b : List Link = m.found.before in
      let marks : List ℕ = retired m.found.before (states m.found) ids in
      let ml : length (retired m.found.before (states m.found) ids) ≡ count = retired_length m.found.before (states m.found) ids ∙ m.count_is in
      let o : opened f ≡ some m.found = m.opens in
      let kl : length (kept_links (opened f)) ≡ count + 1 = ap (λ (o : Option (Found Link)). length (kept_links o)) o ∙ length-append m.found.before (m.found.link ∷ [])
      ∙ ap (λ (k : ℕ). k + 1) m.count_is in
      let c : new_count (opened f) bs ≡ length (retired m.found.before (states m.found) ids) + (1 + length bs) = ap (λ (k : ℕ). k + length bs) kl ∙ omega arith in
      let z : 1 + length bs ≤ 1024 - count = omega arith in
      ap (take (new_count (opened f) bs)) (e ∙ ap (λ (w : Option (Found Link)). retired (old_links w) (old_states w) ids ++ replicate (1024 - count) 0) o)
      ∙ ap (λ (k : ℕ). take k (retired m.found.before (states m.found) ids ++ replicate (1024 - count) 0)) c
      ∙ take-append-add (retired m.found.before (states m.found) ids) (replicate (1024 - count) 0) (1 + length bs)
      ∙ ap (λ (x : List ℕ). retired m.found.before (states m.found) ids ++ x) (zeros_front (1 + length bs) (1024 - count) z ∙ sym (replicate-append-replicate 1 (length bs) 0))
      ∙ sym (append_assoc (retired m.found.before (states m.found) ids) (0 ∷ []) (replicate (length bs) 0))
      ∙ sym (ap (λ (w : Option (Found Link)). new_states w bs ids) o)
