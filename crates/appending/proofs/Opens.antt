-- One append, on any file: what the new bytes are to the chain, and what opening finds with them, and with some of them only.
-- Assumes nothing.
use Rattle.std.specs.Prelude.{ℕ, ◌+◌, ◌^◌, ◌≤◌, ◌<◌, ◌≡◌, refl, true, List, [], ◌∷◌, ◌++◌, take, drop, replicate}
use Rattle.std.proofs.Math.Path.{sym, ap}
use Rattle.std.proofs.Common.{subst, ◌∙◌, append_assoc}
use Rattle.std.proofs.Math.Option.{Option, none, some}
use native.Mathlib.Omega.{arith}
use Rattle.std.proofs.Math.ListN.{length, length-append}
use Rattle.std.proofs.lemmas.List.{length-replicate}
use Rattle.octets.specs.Round.{round64}
use Rattle.octets.proofs.RoundLaws.{round64_ge}
use Rattle.answers.specs.limits.Limits.{max_file, max_entries}
use Rattle.segment.specs.chain.Laws.{afters, sizes}
use Rattle.segment.proofs.chain.Laws.{all_append, Exact, afters_append, exact_append}
use Rattle.segment.specs.chain.Chain.{All, Found, up_to, open_of}
use Rattle.segment.specs.chain.Last.{LastIn}
use Rattle.segment.proofs.chain.Last.{last_stands}
use Rattle.segment.proofs.chain.Walk.{sizes_append}
use Rattle.segment.specs.Header.{Link, start, reader, size}
use Rattle.segment.proofs.Laws.{segment_format, afters_at}
use Rattle.segment.specs.Chained.{chain}
use Rattle.segment.proofs.Chained.{link_place, Rising, chain_rising, rising_front}
use Rattle.segment.specs.Written.{segment, link_of}
use Rattle.segment.proofs.WrittenLaws.{segment_length}
use Rattle.manifest.proofs.SizedLaws.{length_states_by}
use Rattle.manifest.specs.Payload.{manifest_kind, entry_size, confirmed, payload_length, states_held, states_in}
use Rattle.manifest.proofs.PayloadLaws.{Hashed, chain_hashed, payload_length_is, states_back, states_append, states_live, confirmed_parts}
use Rattle.manifest.proofs.Made.{made_exact, made_confirmed}
use Rattle.manifest.specs.Opening.{opened, states}
use Rattle.batch.specs.Form.{Body}
use Rattle.appending.specs.Retire.{retire_held, retired}
use Rattle.appending.specs.Append.{kept_links, start_of, next_id, old_links, old_states, kept_states, body_links, body_bytes, bodies_end, manifest_at, manifest_id, new_count, new_end, new_links, new_states, new_payload, new_bytes}
use Rattle.appending.proofs.Written.{BodyHeld, bodies_hashed, body_links_length, bodies_exact, afters_bodies, bodies_length}
use Rattle.appending.proofs.States.{retired_length, retired_held}

-- ---- what is kept of a file

pub record Kept (o : Option (Found Link)) : Type 0 where
  pub state : afters reader start (kept_links o) ≡ record { at = start_of o; least = next_id o }
  pub sizes_is : sizes reader (kept_links o) ≡ start_of o
  pub hashed : All Hashed (kept_links o)
  pub many : (ids : List ℕ) → length (kept_states o ids) ≡ length (kept_links o)
  pub held : (ids : List ℕ) → retire_held (old_links o) (old_states o) ids ≡ true → states_held (kept_links o) (kept_states o ids) ≡ true

kept_none : Kept none
unfolding up_to afters start_of next_id sizes All kept_states states_held
kept_none = record { state = refl; sizes_is = refl; hashed = tt; many = λ ids. refl; held = λ ids h. refl }

kept_some : (f : List ℕ) (r : Found Link) → LastIn confirmed (chain f) r → Kept (some r)
unfolding up_to afters start_of next_id sizes kept_states states_held old_links old_states states
kept_some f r s =
    let b : List Link = r.before in
    let place : r.link.offset ≡ sizes reader r.before = link_place f r.before s.rest r.link s.split in
    let at : (afters reader start r.before).at ≡ 0 + sizes reader r.before = afters_at start r.before in
    let z : sizes reader (r.before ++ r.link ∷ []) ≡ r.link.offset + size r.link = sizes_append reader r.before (r.link ∷ []) ∙ omega arith in
    let n : length (states_in (length r.before) (drop 8 r.link.payload)) ≡ length r.before = length_states_by entry_size (length r.before) (drop 8 r.link.payload) in
    let front : chain f ≡ (r.before ++ r.link ∷ []) ++ s.rest = s.split ∙ sym (append_assoc r.before (r.link ∷ []) s.rest) in
    let p : (afters reader start r.before).at + size r.link ≡ r.link.offset + size r.link = omega arith in
    record {
      state = afters_append reader start r.before (r.link ∷ []) ∙ rw p;
      sizes_is = z;
      hashed = chain_hashed f (r.before ++ r.link ∷ []) s.rest front;
      many = λ ids.
          length-append (retired r.before (states_in (length r.before) (drop 8 r.link.payload)) ids) (0 ∷ [])
          ∙ ap (λ (k : ℕ). k + 1) (retired_length r.before (states_in (length r.before) (drop 8 r.link.payload)) ids)
          ∙ sym (length-append r.before (r.link ∷ []));
      held = λ ids h.
          states_append r.before (r.link ∷ []) (retired r.before (states_in (length r.before) (drop 8 r.link.payload)) ids) (0 ∷ [])
          (retired_length r.before (states_in (length r.before) (drop 8 r.link.payload)) ids)
          (retired_held r.before (states_in (length r.before) (drop 8 r.link.payload)) ids
          (rising_front r.before (r.link ∷ s.rest) 0 (subst (Rising 0) s.split (chain_rising f)))
          n (confirmed_parts r.before r.link s.holds).states_are_held h)
          (states_live (r.link ∷ []));
    }

pub kept : (f : List ℕ) → Kept (opened f)
unfolding opened open_of
kept f = go (opened f) refl
  where
    go : (o : Option (Found Link)) → opened f ≡ o → Kept o
    go none e = kept_none
    go (some r) e = kept_some f r (last_stands confirmed (chain f) r e)

-- ---- what is written

-- the link of the new manifest
unfoldable pub new_manifest : Option (Found Link) → List Body → List ℕ → ℕ → Link
new_manifest o bs ids ts = link_of (manifest_at o bs) manifest_kind 0 (manifest_id o bs) ts (new_payload o bs ids ts)

-- the bytes up to the start, with the new ones behind them
unfoldable pub file_with : List ℕ → List Body → List ℕ → ℕ → List ℕ
file_with f bs ids ts = take (start_of (opened f)) f ++ new_bytes (opened f) bs ids ts

unfoldable pub cut_file : List ℕ → List Body → List ℕ → ℕ → ℕ → List ℕ
cut_file f bs ids ts k = take (start_of (opened f)) f ++ take k (new_bytes (opened f) bs ids ts)

module _ (o : Option (Found Link)) (y : Kept o) (bs : List Body) (ids : List ℕ) (ts : ℕ) where
  pub links_count : length (new_links o bs ts) ≡ new_count o bs
  unfolding new_links new_count
  links_count =
      length-append (kept_links o) (body_links (start_of o) (next_id o) ts bs)
      ∙ ap (λ (k : ℕ). length (kept_links o) + k) (body_links_length (start_of o) (next_id o) ts bs)

  states-count : length (new_states o bs ids) ≡ length (new_links o bs ts)
  unfolding new_states new_count
  states-count =
      length-append (kept_states o ids) (replicate (length bs) 0)
      ∙ ap (λ (k : ℕ). k + length {A = ℕ} (replicate (length bs) 0)) (y.many ids)
      ∙ ap (λ (k : ℕ). length (kept_links o) + k) (length-replicate {A = ℕ} (length bs) 0)
      ∙ sym links_count

  links-hashed : All Hashed (new_links o bs ts)
  unfolding new_links
  links-hashed = all_append Hashed (kept_links o) (body_links (start_of o) (next_id o) ts bs) y.hashed (bodies_hashed (start_of o) (next_id o) ts bs)

  pub new_payload_length : length (new_payload o bs ids ts) ≡ payload_length (new_count o bs)
  unfolding new_payload
  new_payload_length =
      payload_length_is (new_links o bs ts) (new_states o bs ids) (manifest_at o bs) (manifest_id o bs) links-hashed ∙ ap payload_length links_count

  -- the states of the new directory, read off it
  pub new_states_are : states_in (length (new_links o bs ts)) (drop 8 (new_payload o bs ids ts)) ≡ new_states o bs ids
  unfolding new_payload
  new_states_are = states_back (new_links o bs ts) (new_states o bs ids) (manifest_at o bs) (manifest_id o bs) links-hashed states-count

  new-states-held : retire_held (old_links o) (old_states o) ids ≡ true → states_held (new_links o bs ts) (new_states o bs ids) ≡ true
  unfolding new_links new_states
  new-states-held h =
      states_append (kept_links o) (body_links (start_of o) (next_id o) ts bs) (kept_states o ids) (replicate (length bs) 0) (y.many ids) (y.held ids h)
      (subst (λ (k : ℕ). states_held (body_links (start_of o) (next_id o) ts bs) (replicate k 0) ≡ true) (body_links_length (start_of o) (next_id o) ts bs)
      (states_live (body_links (start_of o) (next_id o) ts bs)))

  -- the new manifest is confirmed by what stands before it
  pub new_confirmed : new_count o bs ≤ max_entries → retire_held (old_links o) (old_states o) ids ≡ true → confirmed (new_links o bs ts) (new_manifest o bs ids ts) ≡ true
  unfolding new_manifest new_payload
  new_confirmed c h =
      made_confirmed (new_links o bs ts) (new_states o bs ids) (manifest_at o bs) (manifest_id o bs) ts links-hashed states-count (omega (arith, links_count)) (new-states-held h)

  -- the new bytes reach to the new end
  pub new_length : start_of o + length (new_bytes o bs ids ts) ≡ new_end o bs
  unfolding new_bytes new_end manifest_at
  new_length =
      let a = length-append (body_bytes (next_id o) ts bs) (segment manifest_kind 0 (manifest_id o bs) ts (new_payload o bs ids ts)) in
      let s = segment_length manifest_kind 0 (manifest_id o bs) ts (new_payload o bs ids ts) in
      let p : round64 (length (new_payload o bs ids ts)) ≡ round64 (payload_length (new_count o bs)) = ap round64 new_payload_length in
      omega (arith, bodies_length ts (start_of o) (next_id o) bs)

  -- the new bytes are the bodies' links and the manifest's
  pub new_exact : ts < 2 ^ 64 → All BodyHeld bs → manifest_id o bs < 2 ^ 64 → new_end o bs ≤ max_file
      → Exact reader (afters reader start (kept_links o)) (body_links (start_of o) (next_id o) ts bs ++ new_manifest o bs ids ts ∷ []) (new_bytes o bs ids ts)
  unfolding new_bytes new_manifest new_end manifest_at manifest_id
  new_exact h t i e =
      let g : bodies_end (start_of o) bs ≤ max_file = omega arith in
      let n = new_payload_length in
      let r = round64_ge (payload_length (new_count o bs)) in
      rw y.state
      (exact_append reader segment_format {ms = new_manifest o bs ids ts ∷ []} (bodies_exact ts h (start_of o) (next_id o) bs t i (omega arith))
      (rw (afters_bodies ts (start_of o) (next_id o) bs)
      (made_exact (record { at = bodies_end (start_of o) bs; least = next_id o + length bs }) (next_id o + length bs) ts (new_payload o bs ids ts) (omega arith) i h (omega arith))))
