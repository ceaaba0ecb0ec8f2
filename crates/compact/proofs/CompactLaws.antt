-- The ways out of compaction: what opening refuses, a segment that is not whole, a buffer without room, and the fresh file written.
-- Assumes nothing.
use Rattle.std.specs.Prelude.{ℕ, ◌+◌, ◌≤◌, ◌<◌, refl, Bool, true, false, cond, ◌⊎◌, length, take}
use Rattle.std.proofs.Math.Path.{◌≡◌, sym, ap}
use Rattle.std.proofs.Common.{◌∙◌, inl, inr, arith, drop-drop}
use Rattle.std.proofs.Math.Logic.{⊎_elim}
use mathlib.Core.List.{List, [], ◌∷◌}
use Rattle.octets.specs.Over.{over}
use Rattle.octets.specs.Round.{round64}
use Rattle.octets.specs.le.Le.{le_at, le_of, Bytes}
use Rattle.answers.specs.limits.Limits.{max_file, max_entries}
use Rattle.answers.specs.Write.{write_answer, write_buffer}
use Rattle.answers.proofs.WriteLaws.{write_bad, write_short, write_done}
use Rattle.std.specs.Prelude.{Result, Ok, Err}
use Rattle.segment.specs.chain.Chain.{Found}
use Rattle.segment.specs.Header.{Link, whole, id_at}
use Rattle.segment.specs.Laws.{link_front}
use Rattle.segment.specs.Chained.{offsets_of}
use Rattle.segment.specs.index.Numbered.{Numbered}
use Rattle.manifest.specs.Payload.{payload_length, entries_end}
use Rattle.manifest.specs.Opening.{opened, opened_case}
use Rattle.manifest.proofs.OpeningLaws.{at_within}
use Rattle.manifest.proofs.PayloadLaws.{payload_round}
use Rattle.opening.specs.FileManifest.{manifest_of}
use Rattle.opening.proofs.FileManifestLaws.{refused_alike}
use Rattle.opening.specs.Indexed.{ManifestAt}
use Rattle.compacting.specs.Compact.{copied, segments_of, fresh_file, damaged, compacted_by, compact_found, compact_case, buffer_found, compact_buffer}
use Rattle.compacting.proofs.Copied.{segments_length}
use Rattle.compacting.proofs.Fresh.{copied_few, fresh_length, never_later}
use Rattle.compact.specs.declared.select.Selected.{Selected}
use Rattle.compact.specs.select.Selected.{copied_of, selected_of}
use Rattle.compact.proofs.select.Passed.{copied_of_found}
use Rattle.compact.specs.copies.Copies.{file_at}
use Rattle.compact.proofs.copies.Links.{fresh_file_is}

-- what opening refuses
pub compact_refused : (f buf : List ℕ) (n : ℕ) → manifest_of (opened_case f) ≡ Err n → (Err n ≡ compact_case f buf) × (buf ≡ compact_buffer f buf)
unfolding compact_case compact_found compact_buffer buffer_found
compact_refused f buf n e = (refused_alike Err (compact_found buf) f n refl e, refused_alike (λ k. buf) (buffer_found buf) f n refl e)

-- a list of links is sound or has one that is not whole
damaged_cases : (ls : List Link) → (damaged ls ≡ 0) ⊎ (damaged ls ≡ 4)
unfolding damaged
damaged_cases [] = inl refl
damaged_cases (l ∷ ls) = pick (whole l) (damaged_cases ls)
  where
    pick : (b : Bool) → (damaged ls ≡ 0) ⊎ (damaged ls ≡ 4) → (cond b (damaged ls) 4 ≡ 0) ⊎ (cond b (damaged ls) 4 ≡ 4)
    pick true c = c
    pick false c = inr refl

-- the values of a selection that is one
abbrev values_of : Result Selected ℕ → Selected
values_of (Ok x) = x
values_of (Err n) = record { count = 0; end = 0 }

-- what a selection says
pub record Chosen (r : Found Link) (n at : ℕ) : Type 0 where
  pub all_whole : damaged (copied r) ≡ 0
  pub count_is : n ≡ length (copied r)
  pub at_is : at ≡ length (segments_of (copied r))

module _ (f : List ℕ) (offset count : ℕ) (m : ManifestAt f offset count) where
  abbrev r : Found Link
  r = m.found

  copied_is : copied_of (opened f) ≡ copied m.found
  copied_is = copied_of_found f r m.opens

  pub chosen : (n at : ℕ) → selected_of (copied_of (opened f)) ≡ Ok (record { count = n; end = at }) → Chosen m.found n at
  unfolding selected_of
  chosen n at e = ⊎_elim sound unsound (damaged_cases (copied r))
    where
      given : selected_of (copied r) ≡ Ok (record { count = n; end = at })
      given = ap selected_of (sym copied_is) ∙ e

      sound : damaged (copied r) ≡ 0 → Chosen m.found n at
      sound d =
          let q : ◌≡◌ {A = Result Selected ℕ} (Ok (record { count = length (copied r); end = _ })) (Ok (record { count = n; end = at })) = rw d at given in
          record {
            all_whole = d;
            count_is = sym (ap (λ (x : Result Selected ℕ). (values_of x).count) q);
            at_is = sym (segments_length (copied r) ∙ ap (λ (x : Result Selected ℕ). (values_of x).end) q);
          }

      unsound : damaged (copied r) ≡ 4 → Chosen m.found n at
      unsound d =
          let q : ◌≡◌ {A = Result Selected ℕ} (Err 4) (Ok (record { count = n; end = at })) = rw d at given in
          absurd (let z : ◌≡◌ {A = ℕ} 0 1 = cc in omega arith)

  -- what a writer of the fresh file answers and leaves
  by-writer : (buf : List ℕ) (x : Result ℕ ℕ) (exit : List ℕ)
      → (x ≡ write_answer (damaged (copied r)) (fresh_file r) buf) × (exit ≡ write_buffer (damaged (copied r)) (fresh_file r) buf)
      → (compacted_by r x ≡ compact_case f buf) × (exit ≡ compact_buffer f buf)
  unfolding compact_case compact_found compact_buffer buffer_found
  by-writer buf x exit p = (
    ap (compacted_by r) p.0 ∙ sym (at_within (Err 1) (compact_found buf) f m.within ∙ ap (compact_found buf) m.opens),
    p.1 ∙ sym (at_within buf (buffer_found buf) f m.within ∙ ap (buffer_found buf) m.opens),
  )

  pub compact_damaged : (buf : List ℕ) (n : ℕ) → selected_of (copied_of (opened f)) ≡ Err n → (Err n ≡ compact_case f buf) × (buf ≡ compact_buffer f buf)
  unfolding selected_of compacted_by
  compact_damaged buf n e = ⊎_elim sound unsound (damaged_cases (copied r))
    where
      given : selected_of (copied r) ≡ Err n
      given = ap selected_of (sym copied_is) ∙ e

      unsound : damaged (copied r) ≡ 4 → (Err n ≡ compact_case f buf) × (buf ≡ compact_buffer f buf)
      unsound d =
          let q : ◌≡◌ {A = Result Selected ℕ} (Err 4) (Err n) = rw d at given in
          let z : 4 ≡ n = cc in
          by-writer buf (Err n) buf (write_bad (fresh_file r) buf (damaged (copied r)) n (d ∙ z) (omega arith))

      sound : damaged (copied r) ≡ 0 → (Err n ≡ compact_case f buf) × (buf ≡ compact_buffer f buf)
      sound d =
          let q : ◌≡◌ {A = Result Selected ℕ} (Ok (record { count = length (copied r); end = _ })) (Err n) = rw d at given in
          absurd (let z : ◌≡◌ {A = ℕ} 0 1 = cc in omega arith)

  module _ (n at : ℕ) (y : Chosen m.found n at) where
    pub chosen_offsets : (os : List ℕ) → (damaged (copied_of (opened f)) ≡ 0 → take (length (copied_of (opened f))) os ≡ offsets_of (copied_of (opened f)))
        → take n os ≡ offsets_of (copied r)
    chosen_offsets os h =
        ap (λ (k : ℕ). take k os) (y.count_is ∙ ap length (sym copied_is)) ∙ h (ap damaged copied_is ∙ y.all_whole) ∙ ap offsets_of copied_is

    module _ (t : Bytes f) where
      -- the fresh file's end, as the code adds it up
      pub fresh_ends : (a b : ℕ) → a ≡ round64 (entries_end n) → b ≡ round64 (a + 4096) → at + 64 + b ≡ length (fresh_file r)
      fresh_ends a b p q =
          let s : b ≡ round64 (payload_length (length (copied r))) = payload_round n a b p q ∙ ap (λ (k : ℕ). round64 (payload_length k)) y.count_is in
          omega (arith, y.at_is, fresh_length f r t m.opens)

      -- a buffer without room
      pub compact_short : (buf : List ℕ) (end : ℕ) → end ≡ length (fresh_file r) → length buf < end → (Err 9 ≡ compact_case f buf) × (buf ≡ compact_buffer f buf)
      unfolding compacted_by
      compact_short buf end e h = by-writer buf (Err 9) buf (write_short (fresh_file r) buf (damaged (copied r)) y.all_whole (omega arith))

      module _ (i : ℕ) (l : Numbered f offset i r.link) where
        -- no number on the way is too large
        pub fresh_small : (n ≤ max_entries) × ((at ≤ max_file) × (length (fresh_file r) ≤ max_file))
        fresh_small =
            let a = never_later f r t m.opens in
            let b = fresh_length f r t m.opens in (
              omega (arith, y.count_is, copied_few f r t m.opens),
              (omega (arith, y.at_is, l.ends, l.offset_is, m.within), omega (arith, l.ends, l.offset_is, m.within)),
            )

        pub compact_done : (buf : List ℕ) (end id ts : ℕ) (os exit : List ℕ) → end ≡ length (fresh_file r) → end ≤ length buf → id ≡ id_at f offset
            → ts ≡ le_at 8 f (offset + 0x18) → os ≡ offsets_of (copied r) → exit ≡ over buf 0 (file_at f os at id ts)
            → (Ok (record { end = end; id = id; count = n }) ≡ compact_case f buf) × (exit ≡ compact_buffer f buf)
        unfolding compacted_by link_front
        compact_done buf end id ts os exit e h p s o x =
            let i-is : id ≡ r.link.id = p ∙ sym l.id_is in
            let s-is : ts ≡ r.link.timestamp =
            s ∙ sym (ap (λ (k : Link). k.timestamp) l.link_is ∙ ap (λ (z : List ℕ). le_of (take 8 z)) (drop-drop 0x18 offset f)) in
            let w = by-writer buf (Ok end) exit
            (write_done (fresh_file r) buf (damaged (copied r)) end exit y.all_whole (omega arith) e
            (x ∙ ap (over buf 0) (fresh_file_is f r t m.opens y.all_whole os o at id ts y.at_is i-is s-is))) in
            (rw (i-is, y.count_is) w.0, w.1)
