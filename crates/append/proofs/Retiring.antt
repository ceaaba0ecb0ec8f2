-- The directory's states with some ids retired, by the lists that the code makes of the directory: the entries' ids, types and states.
-- Assumes nothing.
use Rattle.std.specs.Prelude.{ℕ, ◌+◌, ◌-◌, ◌≤◌, ◌≡◌, take}
use Rattle.std.proofs.Common.{sym, subst, ◌∙◌, arith}
use Rattle.std.proofs.Math.Path.{ap, ap₂}
use mathlib.Core.List.{List, ◌∷◌, ◌++◌, map}
use Rattle.std.proofs.Math.ListN.{length, drop, replicate}
use Rattle.std.proofs.lemmas.List.{length-map}
use Rattle.std.proofs.Math.Seq.{drop_at}
use Rattle.segment.specs.chain.Chain.{All}
use Rattle.octets.specs.Over.{over}
use Rattle.octets.proofs.ZeroLaws.{zeros_left}
use Rattle.segment.specs.Header.{Link}
use Rattle.segment.specs.Chained.{offsets_of}
use Rattle.segment.proofs.Chained.{Rising, chain_rising, rising_front}
use Rattle.manifest.proofs.SizedLaws.{length_states_by}
use Rattle.manifest.specs.Payload.{entry_size, states_in}
use Rattle.manifest.specs.Opening.{opened, states}
use Rattle.manifest.specs.At.{Inside}
use Rattle.manifest.proofs.Lying.{Lying, chain_lying, lying_inside}
use Rattle.opening.specs.Indexed.{ManifestAt, Indexed}
use Rattle.opening.proofs.Indexed.{manifest_part}
use Rattle.octets.specs.le.Le.{Bytes}
use Rattle.segment.specs.Header.{length_at}
use Rattle.segment.specs.index.Offsets.{most}
use Rattle.appending.specs.Retire.{retire_held, retired}
use Rattle.appending.specs.Append.{old_links, old_states}
use Rattle.octets.proofs.Parts.{laid_front}
use Rattle.append.specs.retire.Marks.{retire_held_by, retired_by, Rises}
use Rattle.append.proofs.retire.Marks.{held_same, retired_same, rises_links}
use Rattle.append.specs.Entries.{entry_ids_at, kinds_at}
use Rattle.append.proofs.Entries.{ids_lying, kinds_lying}

module _ (f : List ℕ) (manifest count : ℕ) (m : ManifestAt f manifest count) where
  abbrev b : List Link
  b = m.found.before

  old-links : old_links (opened f) ≡ b
  unfolding old_links
  old-links = ap old_links m.opens

  old-states : old_states (opened f) ≡ states m.found
  unfolding old_states
  old-states = ap old_states m.opens

  before-lying : All (Lying f) b
  before-lying = chain_lying f b (m.found.link ∷ m.stands.rest) m.stands.split

  module _ (os : List ℕ) (os-are : offsets_of b ≡ os) where
    pub entries_inside : Inside f os
    entries_inside = subst (Inside f) os-are (lying_inside f b before-lying)

    ids_are : entry_ids_at f os ≡ map (λ l. l.id) b
    ids_are = ap (entry_ids_at f) (sym os-are) ∙ ids_lying f b before-lying

    kinds_are : kinds_at f os ≡ map (λ l. l.kind) b
    kinds_are = ap (kinds_at f) (sym os-are) ∙ kinds_lying f b before-lying

    -- the lists as the code has them, with the entries at their front
    module _ (ids₀ ids ks₀ ks ss₀ ss part : List ℕ) (i : ids ≡ over ids₀ 0 (entry_ids_at f os)) (k : ks ≡ over ks₀ 0 (kinds_at f os))
        (s : ss ≡ over ss₀ 0 (states_in count (drop 8 part))) (p : part ≡ m.found.link.payload) where
      ids-front : take count ids ≡ map (λ l. l.id) b
      ids-front = laid_front ids ids₀ (entry_ids_at f os) count i (ap length ids_are ∙ length-map b (λ l. l.id) ∙ m.count_is) ∙ ids_are

      kinds-front : take count ks ≡ map (λ l. l.kind) b
      kinds-front = laid_front ks ks₀ (kinds_at f os) count k (ap length kinds_are ∙ length-map b (λ l. l.kind) ∙ m.count_is) ∙ kinds_are

      said : states_in count (drop 8 part) ≡ states m.found
      unfolding states
      said = ap (λ (n : ℕ). states_in n (drop 8 part)) (sym m.count_is) ∙ ap (λ (x : List ℕ). states_in (length b) (drop 8 x)) p

      states-long : length (states m.found) ≡ count
      unfolding states
      states-long = length_states_by entry_size (length b) (drop 8 m.found.link.payload) ∙ m.count_is

      states-front : take count ss ≡ states m.found
      states-front = laid_front ss ss₀ (states_in count (drop 8 part)) count s (ap length said ∙ states-long) ∙ said

      -- what the marking asks for
      pub lists_even : ((length (take count ks) ≡ length (take count ids)) × (length (take count ss) ≡ length (take count ids))) × Rises 0 (take count ids)
      lists_even =
          let n : length (take count ids) ≡ count = ap length ids-front ∙ length-map b (λ l. l.id) ∙ m.count_is in (
            (ap length kinds-front ∙ length-map b (λ l. l.kind) ∙ m.count_is ∙ sym n, ap length states-front ∙ states-long ∙ sym n),
            subst (Rises 0) (sym ids-front) (rises_links b 0 (rising_front b (m.found.link ∷ m.stands.rest) 0 (subst (Rising 0) m.stands.split (chain_rising f)))),
          )

      -- what it answers
      pub marks_held : (want : List ℕ) → retire_held_by (take count ids) (take count ks) (take count ss) want ≡ retire_held (old_links (opened f)) (old_states (opened f)) want
      marks_held want =
          ap (λ (x : List ℕ). retire_held_by x (take count ks) (take count ss) want) ids-front
          ∙ ap (λ (x : List ℕ). retire_held_by (map (λ l. l.id) b) x (take count ss) want) kinds-front
          ∙ ap (λ (x : List ℕ). retire_held_by (map (λ l. l.id) b) (map (λ l. l.kind) b) x want) states-front
          ∙ held_same b (states m.found) want
          ∙ sym (ap (λ (x : List Link). retire_held x (old_states (opened f)) want) old-links ∙ ap (λ (x : List ℕ). retire_held b x want) old-states)

      marked : (want : List ℕ) → retired_by (take count ids) (take count ss) want ≡ retired (old_links (opened f)) (old_states (opened f)) want
      marked want =
          ap (λ (x : List ℕ). retired_by x (take count ss) want) ids-front
          ∙ ap (λ (x : List ℕ). retired_by (map (λ l. l.id) b) x want) states-front
          ∙ retired_same b (states m.found) want
          ∙ sym (ap (λ (x : List Link). retired x (old_states (opened f)) want) old-links ∙ ap (λ (x : List ℕ). retired b x want) old-states)

      -- what the states are then, where those behind the entries were zeros
      pub marks_laid : (want y : List ℕ) → ss₀ ≡ replicate 1024 0 → count ≤ 1024 → y ≡ retired_by (take count ids) (take count ss) want
          → y ++ drop count ss ≡ retired (old_links (opened f)) (old_states (opened f)) want ++ replicate (1024 - count) 0
      unfolding over
      marks_laid want y z h e =
          let n : length (states_in count (drop 8 part)) ≡ count = ap length said ∙ states-long in
          let d : 0 + length (states_in count (drop 8 part)) ≡ count = omega (arith, n) in
          let tail : drop count ss ≡ replicate (1024 - count) 0 =
          ap (drop count) s ∙ drop_at (states_in count (drop 8 part)) (drop (0 + length (states_in count (drop 8 part))) ss₀) count n
          ∙ ap (λ (j : ℕ). drop j ss₀) d ∙ ap (drop count) z ∙ zeros_left count 1024 in
          ap₂ ◌++◌ (e ∙ marked want) tail

-- the manifest's payload, as the code takes it out of the file: len is what the code has read
pub part_is : (f offsets : List ℕ) (offset count : ℕ) (t : Bytes f) (s : Indexed f offsets) (has_room : most ≤ length offsets) (m : ManifestAt f offset count) (len : ℕ)
    → len ≡ length_at f offset → take (offset + 64 + len - (offset + 64)) (drop (offset + 64) f) ≡ m.found.link.payload
part_is f offsets offset count t s has_room m len l =
    let e : offset + 64 + len - (offset + 64) ≡ len = omega arith in
    ap (λ (n : ℕ). take n (drop (offset + 64) f)) (e ∙ l) ∙ (manifest_part f offsets offset count t s has_room m).1.0
