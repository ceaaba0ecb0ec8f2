-- The laws of specs/entries/Entries.antt.
-- Assumes nothing.
use Rattle.std.specs.Prelude.{ℕ, ◌+◌, ◌*◌, ◌≤◌, ◌<◌, ◌≡◌, refl, List, [], ◌++◌, take, get_or}
use Rattle.std.proofs.Common.{sym, ap, subst, ◌∙◌, arith}
use Rattle.std.proofs.Math.Option.{Option, none, some}
use Rattle.std.proofs.Math.Numerals.{add-one}
use Rattle.std.proofs.Math.ListN.{length}
use Rattle.std.proofs.Math.Seq.{take-suc, take-length, length-take-le}
use Rattle.octets.specs.text.Written.{Written}
use Rattle.octets.proofs.text.Written.{nothing, then}
use Rattle.segment.specs.chain.Chain.{Found}
use Rattle.segment.specs.Header.{Link, no_link}
use Rattle.segment.specs.index.Offsets.{link_no}
use Rattle.segment.specs.index.Numbered.{Numbered}
use Rattle.manifest.specs.Opening.{opened, states}
use Rattle.opening.specs.Indexed.{ManifestAt}
use Rattle.opening.proofs.Indexed.{EntryAt}
use Rattle.reading.specs.Listing.{state_word, lines_of}
use Rattle.listing.specs.line.Lines.{text_line_at}
use Rattle.listing.proofs.line.Lines.{line_at, lines_append}
use Rattle.manifest.specs.Payload.{state_place}
use Rattle.listing.specs.entries.Entries.{entry_lines}

-- the lines of the first i entries, and of all, of what opening finds
unfoldable pub first_lines : ℕ → Option (Found Link) → List ℕ
first_lines i none = []
first_lines i (some r) = lines_of (take i r.before) (states r)

-- the first i entries are written, from `at` on to `end`; a line takes at most 97 bytes
pub record EntriesAt (f t₀ t : List ℕ) (at count i end : ℕ) : Type 0 where
  pub at_most : i ≤ count
  pub short : end ≤ at + 97 * i
  pub writes : Written t₀ t at (first_lines i (opened f)) end

none_yet : (o : Option (Found Link)) → first_lines 0 o ≡ []
unfolding first_lines lines_of
none_yet none = refl
none_yet (some r) = refl

pub entries_first : (f t : List ℕ) (at count : ℕ) → at ≤ length t → EntriesAt f t t at count 0 at
entries_first f t at count h =
    record {
      at_most = omega arith;
      short = omega arith;
      writes = subst (λ (xs : List ℕ). Written t t at xs at) (sym (none_yet (opened f))) (nothing t at h);
    }

module _ (f : List ℕ) (offset count : ℕ) (m : ManifestAt f offset count) where
  module _ (offsets : List ℕ) (i : ℕ) (h : i < count) (a : EntryAt f offsets m.found offset i) (p : ℕ) (p-is : p ≡ get_or offsets i 0) where
    -- the link begins at p
    numbered : Numbered f p i (link_no f i)
    numbered = subst (λ (x : ℕ). Numbered f x i (link_no f i)) (sym p-is) a.numbered

    abbrev ls : List Link
    ls = m.found.before

    abbrev ss : List ℕ
    ss = states m.found

    more : first_lines (i + 1) (opened f) ≡ first_lines i (opened f) ++ text_line_at f p (state_word (get_or f (state_place offset i) 0))
    unfolding first_lines
    more =
        let j : i < length ls = omega (arith, m.count_is) in
        let n : length (take i ls) ≡ i = length-take-le i ls (omega arith) in
        rw (
          m.opens,
          add-one i,
          take-suc ls i no_link j,
          lines_append (take i ls) (get_or ls i no_link) ss,
          n,
          a.state_is,
          a.link_is,
          line_at f p i (link_no f i) (state_word (get_or f (state_place offset i) 0)) numbered,
        )

    pub entries_next : (t₀ t t' : List ℕ) (at end end' : ℕ) → EntriesAt f t₀ t at count i end
        → Written t t' end (text_line_at f p (state_word (get_or f (state_place offset i) 0))) end' → end' ≤ end + 97
        → EntriesAt f t₀ t' at count (i + 1) end'
    entries_next t₀ t t' at end end' s w k =
        let q = s.short in
        record {
          at_most = omega arith;
          short = omega arith;
          writes = subst (λ (xs : List ℕ). Written t₀ t' at xs end') (sym more) (then s.writes w);
        }

  all_lines : first_lines count (opened f) ≡ entry_lines (opened f)
  unfolding first_lines entry_lines
  all_lines = rw (m.opens, ← m.count_is, take-length m.found.before)

  pub entries_last : (t₀ t : List ℕ) (at i end : ℕ) → EntriesAt f t₀ t at count i end → count ≤ i
      → Written t₀ t at (entry_lines (opened f)) end × (end ≤ at + 97 * count)
  entries_last t₀ t at i end s h =
      let e : i ≡ count = omega (arith, s.at_most) in
      let q = s.short in
      (subst (λ (xs : List ℕ). Written t₀ t at xs end) (ap (λ (k : ℕ). first_lines k (opened f)) e ∙ all_lines) s.writes, omega arith)
