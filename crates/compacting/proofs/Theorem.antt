-- THE THEOREM of §11 for every accepted compaction: what was written, what opening and reading it answer, and that compacting it again gives the same.
-- Assumes nothing.
use Rattle.std.specs.Prelude.{ℕ, ◌+◌, ◌-◌, ◌/◌, ◌≤◌, ◌≡◌, refl, Bool, true, false, cond, List, [], ◌∷◌, eqb, leb}
use Rattle.std.proofs.Math.Path.{sym, ap}
use Rattle.std.proofs.Common.{◌∙◌, lt_of_not-le, leb-true, eqb-true}
use Rattle.std.proofs.Math.Option.{Option, none, some}
use native.Mathlib.Omega.{arith}
use Rattle.std.proofs.Math.Decide.{dec_le}
use Rattle.std.proofs.Math.ListN.{length, replicate}
use Rattle.octets.specs.Over.{over}
use Rattle.octets.proofs.Parts.{laid_front}
use Rattle.octets.specs.Round.{round64}
use Rattle.octets.specs.le.Le.{Bytes}
use Rattle.answers.specs.limits.Limits.{max_file}
use Rattle.answers.specs.Answer.{Accepted}
use Rattle.answers.specs.Write.{write_answer, write_buffer}
use Rattle.answers.proofs.WriteLaws.{write_done}
use Rattle.segment.specs.chain.Chain.{Found}
use Rattle.segment.specs.Header.{Link, size, whole}
use Rattle.segment.specs.Written.{link_of}
use Rattle.segment.proofs.WrittenLaws.{link_of_size}
use Rattle.manifest.specs.Payload.{manifest_kind}
use Rattle.manifest.specs.Opening.{opened, tried, found_case, opened_answer, open_answer}
use Rattle.manifest.proofs.OpeningLaws.{at_long, at_within, open_within}
use Rattle.reading.specs.Live.{live_of, live, with_id}
use Rattle.reading.proofs.Placed.{at_inside}
use Rattle.reading.specs.Answers.{NotHanded, part_found, part_in}
use Rattle.reading.proofs.PartLaws.{part_missing}
use Rattle.compacting.specs.Compact.{is_manifest, without_manifests, copied, segments_of, moved_to, moved_from, fresh_payload, fresh_file, fresh_manifest, fresh_found}
use Rattle.compacting.specs.Compact.{damaged, compacted_by, compact_found, compact_case, buffer_found, compact_buffer}
use Rattle.compacting.proofs.Copied.{live_all, none_manifest, without_none, moved_length, all_moved, all_whole, whole_sound}
use Rattle.compacting.proofs.Fresh.{link_inside, never_later, payload_long, fresh_length, fresh_states, unchanged, fresh_opens}
use Rattle.compacting.proofs.Same.{manifest_gone, missing_gone, unplaced_moved, same_answers, with_moved}
use Rattle.compacting.specs.Promise.{unplaced, Compaction, written_file}
use Rattle.compacting.specs.declared.Compacted.{Compacted}
use Rattle.std.specs.Prelude.{Result, Ok, Err}

-- ---- the links of the fresh file

moved_again : (at b : ℕ) (ls : List Link) → moved_from at (moved_from b ls) ≡ moved_from at ls
unfolding moved_from moved_to size
moved_again at b [] = refl
moved_again at b (l ∷ ls) = ap (λ (xs : List Link). moved_to at l ∷ xs) (moved_again (at + size l) (b + size l) ls)

moved_bytes : (at : ℕ) (ls : List Link) → segments_of (moved_from at ls) ≡ segments_of ls
unfolding moved_from moved_to segments_of
moved_bytes at [] = refl
moved_bytes at (l ∷ ls) = rw (moved_bytes (at + size l) ls)

module _ (f : List ℕ) (r : Found Link) (t : Bytes f) (e : opened f ≡ some r) where
  live-fresh : live (fresh_found r) ≡ moved_from 0 (copied r)
  unfolding live
  live-fresh =
      ap (live_of (moved_from 0 (copied r))) (fresh_states f r t e ∙ ap (λ (n : ℕ). replicate n 0) (sym (moved_length 0 (copied r)))) ∙ live_all (moved_from 0 (copied r))

  pub copied_fresh : copied (fresh_found r) ≡ moved_from 0 (copied r)
  unfolding copied moved_to is_manifest
  copied_fresh =
      ap without_manifests live-fresh
      ∙ without_none (moved_from 0 (copied r)) (all_moved (λ l. is_manifest l ≡ false) (λ at l h. h) 0 (copied r) (none_manifest (live r)))

  -- ---- compacted again

  fresh-sound : damaged (copied r) ≡ 0 → damaged (copied (fresh_found r)) ≡ 0
  unfolding moved_to whole
  fresh-sound w =
      ap damaged copied_fresh ∙ whole_sound (moved_from 0 (copied r)) (all_moved (λ l. whole l ≡ true) (λ at l h. h) 0 (copied r) (all_whole (copied r) w))

  same-file : fresh_file (fresh_found r) ≡ fresh_file r
  unfolding fresh_file fresh_payload fresh_manifest link_of
  same-file =
      rw (copied_fresh, moved_bytes 0 (copied r), moved_again 0 0 (copied r), moved_length 0 (copied r))

  same_count : length (copied (fresh_found r)) ≡ length (copied r)
  same_count = ap length copied_fresh ∙ moved_length 0 (copied r)

-- ---- a refusal leaves the buffer

refused_found : (buf : List ℕ) (n : ℕ) (o : Option (Found Link)) → compact_found buf o ≡ Err n → buffer_found buf o ≡ buf
unfolding compact_found compacted_by buffer_found write_answer write_buffer
refused_found buf n none q = refl
refused_found buf n (some r) q = go (eqb (damaged (copied r)) 0) (leb (length (fresh_file r)) (length buf)) q
  where
    go : (b c : Bool) → compacted_by r (cond b (cond c (Ok (length (fresh_file r))) (Err 9)) (Err (damaged (copied r)))) ≡ Err n
        → cond b (cond c (over buf 0 (fresh_file r)) buf) buf ≡ buf
    go true true z = absurd (let w : ◌≡◌ {A = ℕ} 0 1 = cc in omega arith)
    go true false z = refl
    go false c z = refl

pub refused_leaves : (f buf : List ℕ) (n : ℕ) → compact_case f buf ≡ Err n → compact_buffer f buf ≡ buf
unfolding compact_case compact_buffer
refused_leaves f buf n q = go (dec_le (length f) max_file)
  where
    go : Dec (length f ≤ max_file) → compact_buffer f buf ≡ buf
    go (yes h) = at_within buf (buffer_found buf) f h ∙ refused_found buf n (opened f) (sym (at_within (Err 1) (compact_found buf) f h) ∙ q)
    go (no h) = at_long buf (buffer_found buf) f (lt_of_not-le h)

-- ---- what an accepted compaction has passed

pub record Accepts (buf : List ℕ) (r : Found Link) (end id count : ℕ) : Type 0 where
  pub sound : damaged (copied r) ≡ 0
  pub room : length (fresh_file r) ≤ length buf
  pub end_is : end ≡ length (fresh_file r)
  pub id_is : id ≡ r.link.id
  pub count_is : count ≡ length (copied r)

-- the values of an accepted one
abbrev values_of : Result Compacted ℕ → Compacted
values_of (Ok c) = c
values_of (Err n) = record { end = 0; id = 0; count = 0 }

accepts : (buf : List ℕ) (r : Found Link) (end id count : ℕ) → compact_found buf (some r) ≡ Ok (record { end = end; id = id; count = count }) → Accepts buf r end id count
unfolding compact_found compacted_by write_answer
accepts buf r end id count q = go (eqb (damaged (copied r)) 0) (leb (length (fresh_file r)) (length buf)) refl refl q
  where
    go : (b c : Bool) → eqb (damaged (copied r)) 0 ≡ b → leb (length (fresh_file r)) (length buf) ≡ c
        → compacted_by r (cond b (cond c (Ok (length (fresh_file r))) (Err 9)) (Err (damaged (copied r)))) ≡ Ok (record { end = end; id = id; count = count }) → Accepts buf r end id count
    go true true h k z =
        record { sound = eqb-true (damaged (copied r)) 0 h; room = leb-true (length (fresh_file r)) (length buf) k; end_is = ap (λ (x : Result Compacted ℕ). (values_of x).end) (sym z); id_is = ap (λ (x : Result Compacted ℕ). (values_of x).id) (sym z); count_is = ap (λ (x : Result Compacted ℕ). (values_of x).count) (sym z) }
    go true false h k z = absurd (let w : ◌≡◌ {A = ℕ} 0 1 = cc in omega arith)
    go false c h k z = absurd (let w : ◌≡◌ {A = ℕ} 0 1 = cc in omega arith)

-- and the other way
accepted : (buf : List ℕ) (r : Found Link) → damaged (copied r) ≡ 0 → length (fresh_file r) ≤ length buf
    → (compact_found buf (some r) ≡ Ok (record { end = length (fresh_file r); id = r.link.id; count = length (copied r) })) × (buffer_found buf (some r) ≡ over buf 0 (fresh_file r))
unfolding compact_found compacted_by buffer_found
accepted buf r w h =
    let d = write_done (fresh_file r) buf (damaged (copied r)) (length (fresh_file r)) (over buf 0 (fresh_file r)) w h refl refl in
    (ap (compacted_by r) (sym d.0), sym d.1)

-- numbers that are the same
same_values : (o e i c t e' i' c' : ℕ) → e ≡ e' → i ≡ i' → c ≡ c' → Accepted (o ∷ e ∷ i ∷ c ∷ t ∷ []) ≡ Accepted (o ∷ e' ∷ i' ∷ c' ∷ t ∷ [])
same_values o e i c t e' i' c' p q s = rw (p, q, s)

same_numbers : (e i c e' i' c' : ℕ) → e ≡ e' → i ≡ i' → c ≡ c' → ◌≡◌ {A = Result Compacted ℕ} (Ok (record { end = e; id = i; count = c })) (Ok (record { end = e'; id = i'; count = c' }))
same_numbers e i c e' i' c' p q s = rw (p, q, s)

-- ---- the theorem

module _ (f buf : List ℕ) (end id count : ℕ) (t : Bytes f) (in_limit : length f ≤ max_file) (r : Found Link) (e : opened f ≡ some r) (a : Accepts buf r end id count) where
  abbrev g : List ℕ
  g = written_file f buf end

  file-is : g ≡ fresh_file r
  unfolding written_file compact_buffer
  file-is =
      laid_front (compact_buffer f buf) buf (fresh_file r) end
      (at_within buf (buffer_found buf) f in_limit ∙ ap (buffer_found buf) e ∙ (accepted buf r a.sound a.room).1)
      (sym a.end_is)

  reopens : opened g ≡ some (fresh_found r)
  reopens = ap opened file-is ∙ fresh_opens f r t e a.sound

  ends : length g ≡ end
  ends = ap length file-is ∙ sym a.end_is

  not-later : end ≤ r.link.offset + size r.link
  not-later = omega (arith, never_later f r t e, a.end_is)

  within : length g ≤ max_file
  within = omega (arith, ends, not-later, link_inside f r t e, in_limit)

  link-end : (fresh_manifest r).offset + size (fresh_manifest r) ≡ end
  unfolding fresh_manifest link_of
  link-end =
      omega (
        arith,
        link_of_size (length (segments_of (copied r))) manifest_kind 0 r.link.id r.link.timestamp (fresh_payload r),
        ap round64 (payload_long f r t e),
        fresh_length f r t e,
        a.end_is,
      )

  reports : open_answer g ≡ Accepted ((fresh_manifest r).offset ∷ end ∷ id ∷ count ∷ (length g / 64 - (fresh_manifest r).offset / 64) ∷ [])
  unfolding found_case opened_answer tried fresh_manifest link_of
  reports =
      open_within g within
      ∙ ap (λ (o : Option (Found Link)). opened_answer (Ok (found_case g o))) reopens
      ∙ same_values (fresh_manifest r).offset _ _ _ (length g / 64 - (fresh_manifest r).offset / 64) end id count link-end (sym a.id_is)
      (moved_length 0 (copied r) ∙ sym a.count_is)

  others : (x : ℕ) → with_id x (copied r) ≡ none → part_in g x ≡ NotHanded 3
  unfolding part_in
  others x n =
      at_within (NotHanded 1) (part_found x) g within ∙ ap (part_found x) reopens
      ∙ part_missing x (fresh_found r) (ap (with_id x) (live-fresh f r t e) ∙ with_moved x 0 (copied r) n)

  again : (buf' : List ℕ) → end ≤ length buf' → (compact_case g buf' ≡ Ok (record { end = end; id = id; count = count })) × (compact_buffer g buf' ≡ over buf' 0 g)
  unfolding compact_case compact_buffer fresh_manifest link_of
  again buf' h =
      let z = accepted buf' (fresh_found r) (fresh-sound f r t e a.sound) (omega (arith, ap length (same-file f r t e), a.end_is)) in (
        at_within (Err 1) (compact_found buf') g within ∙ ap (compact_found buf') reopens ∙ z.0
            ∙ same_numbers _ _ _ end id count (ap length (same-file f r t e) ∙ sym a.end_is) (sym a.id_is) (same_count f r t e ∙ sym a.count_is),
        at_within buf' (buffer_found buf') g within ∙ ap (buffer_found buf') reopens ∙ z.1 ∙ ap (over buf' 0) (same-file f r t e ∙ sym file-is),
      )

  alike : unplaced (copied r) ≡ unplaced (copied (fresh_found r))
  alike = sym (ap unplaced (copied_fresh f r t e) ∙ unplaced_moved 0 (copied r))

  compaction : Compaction f buf end id count
  unfolding fresh_manifest link_of
  compaction =
      record {
        found = r;
        opens = e;
        in_limit = in_limit;
        unchanged = unchanged f r t e a.sound;
        manifest = (refl, refl);
        reopens = reopens;
        all_live = fresh_states f r t e ∙ ap (λ (n : ℕ). replicate n 0) (sym a.count_is);
        reports = reports;
        alike = alike;
        answers = same_answers f g r (fresh_found r) in_limit within e reopens alike;
        manifests = λ x l h k. others x (manifest_gone f r e x l h k);
        missing = λ x h. others x (missing_gone f r e x h);
        ends = ends;
        never_later = not-later;
        within = within;
        again = again;
      }

pub compacted : (f buf : List ℕ) (end id count : ℕ) → Bytes f → compact_case f buf ≡ Ok (record { end = end; id = id; count = count }) → Compaction f buf end id count
unfolding compact_case compact_found
compacted f buf end id count t q = go (opened f) refl p.1
  where
    p : (length f ≤ max_file) × (compact_found buf (opened f) ≡ Ok (record { end = end; id = id; count = count }))
    p = at_inside {A = Result Compacted ℕ} (Err 1) (Ok (record { end = end; id = id; count = count })) (compact_found buf) f (λ z. let w : ◌≡◌ {A = ℕ} 0 1 = cc in omega arith) q

    go : (o : Option (Found Link)) → opened f ≡ o → compact_found buf o ≡ Ok (record { end = end; id = id; count = count }) → Compaction f buf end id count
    go none h z = absurd (let w : ◌≡◌ {A = ℕ} 0 1 = cc in omega arith)
    go (some r) h z = compaction f buf end id count t p.0 r h (accepts buf r end id count z)
