-- The laws of specs/Indexed.antt.
-- Assumes nothing.
use Prim.Native.Nat.{ℕ, suc, ◌+◌, ◌*◌, ◌≤◌, ◌<◌}
use Rattle.std.proofs.Math.Path.{◌≡◌, refl, sym, ap}
use Rattle.std.proofs.Common.{ap₂, subst, ◌∙◌, lt_of_not-le, take-suc}
use Rattle.std.proofs.Math.Option.{Option, none, some}
use mathlib.Core.List.{List, [], ◌∷◌, ◌++◌}
use native.Mathlib.Omega.{arith}
use Rattle.std.proofs.Math.Decide.{dec_le}
use Rattle.std.proofs.Math.ListN.{length, get_or, length-map}
use Rattle.std.specs.Prelude.{take, drop, Result, Ok, Err}
use Rattle.std.proofs.Math.Seq.{get_or-take, get_or-drop}
use Rattle.octets.specs.le.Le.{Bytes}
use Rattle.answers.specs.limits.Limits.{max_file, max_entries}
use Rattle.segment.specs.chain.Laws.{sizes}
use Rattle.segment.specs.chain.Chain.{Found, open_of}
use Rattle.segment.proofs.chain.Last.{last_stands}
use Rattle.segment.specs.Header.{Link, size, reader, no_link, length_at}
use Rattle.segment.specs.Chained.{chain, offsets_of}
use Rattle.segment.proofs.Chained.{link_place}
use Rattle.segment.specs.index.Offsets.{most, link_no}
use Rattle.segment.proofs.index.Offsets.{stored_has, stored_few}
use Rattle.segment.specs.index.Numbered.{Numbered}
use Rattle.segment.proofs.index.Numbered.{numbered, numbered_at, number_of}
use Rattle.manifest.proofs.SizedLaws.{states_by_at}
use Rattle.manifest.specs.Payload.{entry_size, confirmed, payload_length, states_in, entries_end, state_place}
use Rattle.manifest.proofs.PayloadLaws.{confirmed_parts}
use Rattle.manifest.specs.Opening.{opened, states, found_case, opened_case}
use Rattle.manifest.proofs.OpeningLaws.{at_long, at_within}
use Rattle.manifest.proofs.At.{length_payload_at, record_ge}
use Rattle.manifest.proofs.Lying.{lying_inside, payload_lying, chain_lying}
use Rattle.manifest.specs.declared.Opened.{Opened}
use Rattle.manifest.specs.declared.Opened.TheVariants.{At, NoManifest}
use Rattle.opening.proofs.CandidateLaws.{front_offsets}
use Rattle.opening.specs.Indexed.{ManifestAt, Indexed, stands}
use Rattle.std.specs.Prelude.{true, eqb}
use borrow.Author.Tests.{eq-eqb, eqb-true}
use Rattle.octets.proofs.ZeroLaws.{and_split}

-- ---- what an answer says

module _ (f : List ℕ) where
  long-case : max_file < length f → opened_case f ≡ Err 1
  unfolding opened_case
  long-case h = at_long (Err 1) (λ o. Ok (found_case f o)) f h

  within-case : length f ≤ max_file → opened_case f ≡ Ok (found_case f (opened f))
  unfolding opened_case
  within-case h = at_within (Err 1) (λ o. Ok (found_case f o)) f h

  -- a refusal is that of a file above the limit
  pub opened_refused : (n : ℕ) → opened_case f ≡ Err n → (n ≡ 1) × (max_file < length f)
  opened_refused n e = go (dec_le (length f) max_file)
    where
      go : Dec (length f ≤ max_file) → (n ≡ 1) × (max_file < length f)
      go (yes h) =
          let q : ◌≡◌ {A = Result Opened ℕ} (Ok (found_case f (opened f))) (Err n) = sym (within-case h) ∙ e in
          absurd (let z : ◌≡◌ {A = ℕ} 0 1 = cc in omega arith)
      go (no h) =
          let l : ◌≡◌ {A = Result Opened ℕ} (Err 1) (Err n) = sym (long-case (lt_of_not-le h)) ∙ e in
          let q : 1 ≡ n = cc in
          (sym q, lt_of_not-le h)

  not-long : (o : Result Opened ℕ) → opened_case f ≡ o → (o ≡ Err 1 → ⊥) → length f ≤ max_file
  not-long o e n = go (dec_le (length f) max_file)
    where
      go : Dec (length f ≤ max_file) → length f ≤ max_file
      go (yes h) = h
      go (no h) = absurd (n (sym e ∙ long-case (lt_of_not-le h)))

  -- an answer is that of a file within the limit
  answered : (o : Opened) → opened_case f ≡ Ok o → (length f ≤ max_file) × (found_case f (opened f) ≡ o)
  answered o e =
      let h = not-long (Ok o) e (λ q. let z : ◌≡◌ {A = ℕ} 0 1 = cc in omega arith) in
      let q : ◌≡◌ {A = Result Opened ℕ} (Ok (found_case f (opened f))) (Ok o) = sym (within-case h) ∙ e in
      (h, cc)

  -- no manifest
  pub opened_none : (t : ℕ) → opened_case f ≡ Ok (NoManifest t) → (length f ≤ max_file) × (opened f ≡ none)
  unfolding found_case
  opened_none t e = let a = answered (NoManifest t) e in (a.0, go (opened f) a.1)
    where
      go : (o : Option (Found Link)) → found_case f o ≡ NoManifest t → o ≡ none
      go none q = refl
      go (some r) q = absurd (let z : ◌≡◌ {A = ℕ} 0 1 = cc in omega arith)

  pub opened_at : (offset end id count t : ℕ) → opened_case f ≡ Ok (At offset end id count t) → ManifestAt f offset count
  unfolding found_case opened open_of
  opened_at offset end id count t e = let a = answered (At offset end id count t) e in go a.0 (opened f) refl a.1
    where
      go : length f ≤ max_file → (o : Option (Found Link)) → opened f ≡ o → found_case f o ≡ At offset end id count t → ManifestAt f offset count
      go h none p q = absurd (let z : ◌≡◌ {A = ℕ} 0 1 = cc in omega arith)
      go h (some r) p q = record { within = h; found = r; opens = p; offset_is = cc; count_is = cc; stands = last_stands confirmed (chain f) r p }

  -- the end and the id that are answered with it
  pub opened_end : (offset end id count t : ℕ) (e : opened_case f ≡ Ok (At offset end id count t))
      → ((opened_at offset end id count t e).found.link.offset + size (opened_at offset end id count t e).found.link ≡ end)
      × ((opened_at offset end id count t e).found.link.id ≡ id)
  unfolding found_case
  opened_end offset end id count t e =
      let m = opened_at offset end id count t e in
      let q : found_case f (some m.found) ≡ At offset end id count t = ap (found_case f) (sym m.opens) ∙ (answered (At offset end id count t) e).1 in
      (cc, cc)

-- ---- the entry with an index

pub indexed : (f offsets : List ℕ) (n : ℕ) → n ≡ length (take most (chain f)) → take n offsets ≡ offsets_of (take most (chain f)) → Indexed f offsets
indexed f offsets n c e = record { count = refl; stored = ap (λ (k : ℕ). take k offsets) (sym c) ∙ e }

-- where the parts of the entry with index i stand
pub record EntryAt (f offsets : List ℕ) (r : Found Link) (offset i : ℕ) : Type 0 where
  pub stored : i < length offsets
  pub at_most : i < max_entries
  pub link_is : get_or r.before i no_link ≡ link_no f i
  pub numbered : Numbered f (get_or offsets i 0) i (link_no f i)
  pub state_is : get_or (states r) i 0 ≡ get_or f (state_place offset i) 0
  pub state_room : state_place offset i < length f

module _ (f offsets : List ℕ) (offset count : ℕ) (t : Bytes f) (s : Indexed f offsets) (has_room : most ≤ length offsets) (m : ManifestAt f offset count) where
  abbrev b : List Link
  b = m.found.before

  abbrev l : Link
  l = m.found.link

  -- the directory's entries stand in the payload
  entries-inside : entries_end count ≤ length l.payload
  unfolding payload_length
  entries-inside =
      let ss : List ℕ = states_in (length m.found.before) (drop 8 m.found.link.payload) in
      let y = chain_lying f b (l ∷ m.stands.rest) m.stands.split in
      let p : length l.payload ≡ payload_length (length (offsets_of b)) =
      ap length ((confirmed_parts b l m.stands.holds).payload_is ∙ sym (payload_lying f b ss l.offset l.id t y))
      ∙ length_payload_at f (offsets_of b) ss l.offset l.id (lying_inside f b y) in
      let q : length (offsets_of b) ≡ length b = length-map b (λ l. l.offset) in
      let r = record_ge (length (offsets_of b)) in
      omega (arith, m.count_is)

  at_most : count ≤ max_entries
  at_most = omega (arith, (confirmed_parts b l m.stands.holds).at_most, m.count_is)

  numbers : (length b < length (chain f)) × ((b ≡ take (length b) (chain f)) × (l ≡ link_no f (length b)))
  numbers = number_of f b m.stands.rest l m.stands.split

  -- the manifest itself, by its number
  pub manifest_numbered : Numbered f offset (length b) l
  manifest_numbered =
      let p = link_place f b m.stands.rest l m.stands.split in
      subst (λ (x : Link). Numbered f offset (length b) x) (sym numbers.1.1)
      (numbered f offset (length b) numbers.0 (sym (ap (λ (ls : List Link). sizes reader ls) numbers.1.0) ∙ sym p ∙ m.offset_is))

  -- its payload is the file's bytes behind its header, and has room for the entries
  pub manifest_part : (offset + (64 + length_at f offset) ≤ length f)
      × ((take (length_at f offset) (drop (offset + 64) f) ≡ m.found.link.payload) × (entries_end count ≤ length_at f offset))
  manifest_part =
      let n = manifest_numbered in
      let k = n.length_is in
      let e = entries-inside in
      (omega (arith, n.room, k), (ap (λ (j : ℕ). take j (drop (offset + 64) f)) (sym k) ∙ sym n.payload_is, omega (arith, e, k)))

  -- the first offsets are those of the directory's links; and of these and the manifest
  manifest-stored : count < length (take most (chain f))
  manifest-stored = let q = at_most in stored_has f offsets _ s count (omega (arith, m.count_is, numbers.0)) (omega arith)

  pub before_offsets : offsets_of m.found.before ≡ take count offsets
  before_offsets =
      let h = manifest-stored in
      ap offsets_of (numbers.1.0 ∙ ap (λ (k : ℕ). take k (chain f)) m.count_is) ∙ front_offsets f offsets _ count s (omega arith)

  pub kept_offsets : offsets_of (m.found.before ++ m.found.link ∷ []) ≡ take (count + 1) offsets
  kept_offsets =
      let h = manifest-stored in
      let n : length m.found.before + 1 ≡ suc (length m.found.before) = omega arith in
      let all : take (length m.found.before + 1) (chain f) ≡ m.found.before ++ m.found.link ∷ [] =
      ap (λ (k : ℕ). take k (chain f)) n
      ∙ take-suc (chain f) (length m.found.before) no_link numbers.0
      ∙ ap₂ (λ (ls : List Link) (x : Link). ls ++ x ∷ []) (sym numbers.1.0) (sym numbers.1.1) in
      ap offsets_of (sym all ∙ ap (λ (k : ℕ). take (k + 1) (chain f)) m.count_is) ∙ front_offsets f offsets _ (count + 1) s (omega arith)

  pub manifest_room : (offset + 64 ≤ length f) × (count ≤ max_entries)
  manifest_room = let r = manifest_numbered.room in let q = at_most in (omega arith, q)

  module _ (i : ℕ) (h : i < count) where
    entry-stored : i < length (take most (chain f))
    entry-stored = let q = at_most in stored_has f offsets _ s i (omega (arith, m.count_is, numbers.0)) (omega arith)

    state-at : get_or (states m.found) i 0 ≡ get_or f (state_place offset i) 0
    unfolding states
    state-at =
        let a = entries-inside in
        states_by_at entry_size (length b) (drop 8 l.payload) i (omega (arith, m.count_is))
        ∙ get_or-drop 8 l.payload (entry_size * i + 41) 0
        ∙ ap (λ (x : List ℕ). get_or x (8 + (entry_size * i + 41)) 0) manifest_numbered.payload_is
        ∙ get_or-take (length l.payload) (drop (offset + 64) f) (8 + (entry_size * i + 41)) 0 (omega arith)
        ∙ get_or-drop (offset + 64) f (8 + (entry_size * i + 41)) 0
        ∙ ap (λ (k : ℕ). get_or f k 0) (omega arith)

    pub entry_at : EntryAt f offsets m.found offset i
    entry_at =
        let a = entries-inside in
        let r = manifest_numbered.room in
        let k = entry-stored in
        let n = (stored_few f offsets _ s).1 in
        let q = at_most in
        record {
          stored = omega arith;
          at_most = omega arith;
          link_is =
              ap (λ (ls : List Link). get_or ls i no_link) numbers.1.0 ∙ get_or-take (length b) (chain f) i no_link (omega (arith, m.count_is));
          numbered = numbered_at f offsets _ s i entry-stored;
          state_is = state-at;
          state_room = omega arith;
        }

-- ---- what opening finds, as a test

pub manifest_stands : (f : List ℕ) (offset count : ℕ) → ManifestAt f offset count → stands (opened f) offset count ≡ true
unfolding stands
manifest_stands f offset count m =
    ap (λ (o : Option (Found Link)). stands o offset count) m.opens
    ∙ rw (eq-eqb m.found.link.offset offset m.offset_is, eq-eqb (length m.found.before) count m.count_is)

pub stands_manifest : (f : List ℕ) (offset count : ℕ) → length f ≤ max_file → stands (opened f) offset count ≡ true → ManifestAt f offset count
unfolding stands opened open_of
stands_manifest f offset count within e = go (opened f) refl e
  where
    go : (o : Option (Found Link)) → opened f ≡ o → stands o offset count ≡ true → ManifestAt f offset count
    go none p q = absurd (let z : ◌≡◌ {A = ℕ} 0 1 = cc in omega arith)
    go (some r) p q =
        let a = and_split (eqb r.link.offset offset) (eqb (length r.before) count) q in
        record {
          within = within;
          found = r;
          opens = p;
          offset_is = eqb-true r.link.offset offset a.0;
          count_is = eqb-true (length r.before) count a.1;
          stands = last_stands confirmed (chain f) r p;
        }

-- the entry with an index of a directory
pub directory_entry : (f offsets : List ℕ) (offset count : ℕ) → Bytes f → Indexed f offsets → most ≤ length offsets
    → (within : length f ≤ max_file) (e : stands (opened f) offset count ≡ true) (i : ℕ) → i < count → EntryAt f offsets (stands_manifest f offset count within e).found offset i
directory_entry f offsets offset count t s room within e i h = entry_at f offsets offset count t s room (stands_manifest f offset count within e) i h
