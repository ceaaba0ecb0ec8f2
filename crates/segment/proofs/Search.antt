-- The laws of specs/Search.antt.
-- Assumes nothing.
use Rattle.std.specs.Prelude.{◌≡◌, refl, Bool, true, false, List, [], ◌∷◌, ◌++◌, ℕ, ◌+◌, ◌*◌, ◌/◌, ◌%◌, ◌≤◌, ◌<◌, length, take, drop, Some, None}
use Rattle.std.specs.Prelude.{Option as Maybe}
use Rattle.std.proofs.Common.{sym, ◌∙◌, append_assoc, arith, take-append-drop}
use Rattle.std.proofs.Math.Path.{ap}
use Rattle.std.proofs.Math.Option.{none, some}
use Rattle.segment.specs.chain.Laws.{sizes}
use Rattle.segment.specs.chain.Chain.{last_confirmed, scan, open_of}
use Rattle.segment.proofs.chain.Places.{same_place, later_place, within}
use Rattle.segment.proofs.chain.Walk.{walk_fits, walk_each}
use Rattle.segment.proofs.chain.Search.{below, below_all, below_zero, boundary_down, boundary_found}
use Rattle.segment.specs.declared.Step.{Step}
use Rattle.segment.specs.Header.{Link, start, reader, size}
use Rattle.segment.proofs.Laws.{segment_format, size_least, size_aligned, chain_aligned}
use Rattle.segment.specs.Step.{step_at}
use Rattle.segment.specs.Chained.{chain}
use Rattle.segment.proofs.Chained.{ChainAt, Stepped, step_link, chain_link, chain_stop}
use Rattle.segment.specs.Search.{Placed}

-- ---- where a search from the end begins

pub sizes_aligned : (ls : List Link) → sizes reader ls % 64 ≡ 0
unfolding sizes
sizes_aligned [] = refl
sizes_aligned (l ∷ ls) = let a = size_aligned l in let b = sizes_aligned ls in omega arith

-- every link begins below the last multiple of 64 in the file
pub all_below : (f : List ℕ) → below reader (length f / 64 * 64) (chain f) ≡ chain f
all_below f =
    let a = sizes_aligned (chain f) in
    let b = walk_fits reader segment_format start f in
    below_all reader (length f / 64 * 64) (chain f) (chain_aligned start f) (omega arith)

-- a link begins at a multiple of 64
pub place_aligned : (f : List ℕ) (p : ℕ) (b z : List Link) (l : Link) → Placed f p b l z → p % 64 ≡ 0
place_aligned f p b z l h = let a = sizes_aligned b in let q : sizes reader b ≡ p = h.place in omega arith

-- ---- what a loop of steps finds

module _ (f : List ℕ) (n at : ℕ) (prev : Maybe ℕ) (c : ChainAt f n at prev) where
  -- the chain stops at or before a place: no link begins there
  pub none_behind : step_at f at prev ≡ None → (p : ℕ) → at ≤ p → (b z : List Link) (l : Link) → Placed f p b l z → ⊥
  none_behind e p h b z l a =
      let w = within reader (chain f) b z l a.split in
      let k = size_least l in
      let q : sizes reader b ≡ p = a.place in
      let r : at ≡ sizes reader (chain f) = c.walked.place ∙ ap (sizes reader) (chain_stop f n at prev c e) in
      omega arith

  module _ (s : Step) (e : step_at f at prev ≡ Some s) where
    abbrev step : Stepped f at prev s
    step = step_link f at prev s e

    -- the step's link in the chain
    pub stepped_at : Placed f at (take n (chain f)) step.link (drop (n + 1) (chain f))
    stepped_at =
        record {
          split =
              sym (take-append-drop (n + 1) (chain f))
              ∙ ap (λ (x : List Link). x ++ drop (n + 1) (chain f)) (chain_link f n at prev c s e)
              ∙ append_assoc (take n (chain f)) (step.link ∷ []) (drop (n + 1) (chain f));
          place = sym c.walked.place;
        }

    -- no link begins inside it
    pub none_inside : (p : ℕ) → at < p → p < s.end → (b z : List Link) (l : Link) → Placed f p b l z → ⊥
    none_inside p h k b z l a =
        let here = stepped_at in
        let q : sizes reader b ≡ p = a.place in
        let r : sizes reader (take n (chain f)) ≡ at = here.place in
        let y : s.end ≡ at + size step.link = step.end_is in
        let w = later_place reader (chain f) (take n (chain f)) b (drop (n + 1) (chain f)) z step.link l here.split a.split (omega arith) in
        omega arith

    -- the link that begins where the loop stands is the step's
    pub only_link : (b z : List Link) (l : Link) → Placed f at b l z → (take n (chain f) ≡ b) × (step.link ≡ l)
    only_link b z l a =
        same_place reader (chain f) (take n (chain f)) b (drop (n + 1) (chain f)) z step.link l
        (walk_each reader segment_format (λ l. 0 < size l) (λ st s l h. let q = size_least l in omega arith) start f)
        stepped_at.split a.split (stepped_at.place ∙ sym a.place)

-- ---- the search

-- the boundaries from p on are tried, and what is looked for is among the links that begin below p
pub record SearchAt (confirmed : List Link → Link → Bool) (f : List ℕ) (p : ℕ) : Type 0 where
  pub aligned : p % 64 ≡ 0
  pub inside : p ≤ length f
  pub left : open_of reader confirmed start f ≡ last_confirmed confirmed (below reader p (chain f))

module _ (confirmed : List Link → Link → Bool) (f : List ℕ) where
  pub search_first : SearchAt confirmed f (length f / 64 * 64)
  unfolding open_of
  search_first = record { aligned = omega arith; inside = omega arith; left = ap (last_confirmed confirmed) (sym (all_below f)) }

  -- no link that begins at p is confirmed
  pub search_down : (p : ℕ) → SearchAt confirmed f (p + 64) → ((b z : List Link) (l : Link) → Placed f p b l z → confirmed b l ≡ false) → SearchAt confirmed f p
  search_down p s h =
      let a : (p + 64) % 64 ≡ 0 = s.aligned in
      let i : p + 64 ≤ length f = s.inside in
      record {
        aligned = omega arith;
        inside = omega arith;
        left =
            s.left
            ∙ boundary_down reader confirmed (chain f) (chain_aligned start f) p (omega arith)
            (λ b z l split place. h b z l (record { split = split; place = place }));
      }

  -- one that begins at p is
  pub search_found : (p : ℕ) → SearchAt confirmed f (p + 64) → (b z : List Link) (l : Link) → Placed f p b l z → confirmed b l ≡ true
      → open_of reader confirmed start f ≡ some (record { before = b; link = l })
  search_found p s b z l h c = s.left ∙ boundary_found reader confirmed (chain f) (chain_aligned start f) p b z l h.split h.place c

  -- every boundary is tried
  pub search_none : SearchAt confirmed f 0 → open_of reader confirmed start f ≡ none
  unfolding last_confirmed scan
  search_none s = s.left ∙ ap (last_confirmed confirmed) (below_zero reader (chain f))
