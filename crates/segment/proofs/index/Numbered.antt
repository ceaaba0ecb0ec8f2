-- The laws of specs/index/Numbered.antt.
-- Assumes nothing.
use Rattle.std.specs.Prelude.{◌≡◌, refl, drop, get_or, Some, None}
use Rattle.std.specs.Prelude.{Option as Maybe}
use Rattle.std.proofs.Math.Path.{sym, ap}
use Rattle.std.proofs.Common.{◌∙◌, add-one, length-append, drop-drop, take_at}
use Rattle.std.proofs.Math.Option.{some}
use mathlib.Core.List.{List, [], ◌∷◌, ◌++◌}
use Prim.Native.Nat.{ℕ, suc, ◌+◌, ◌-◌, ◌≤◌, ◌<◌}
use native.Mathlib.Omega.{arith}
use Rattle.std.proofs.Math.ListN.{length, take, length-take, length-drop}
use Rattle.std.proofs.Math.Seq.{get_or-drop, split_at, take-suc, length-take-le}
use Rattle.std.proofs.lemmas.List.{get_or_at}
use Rattle.octets.specs.le.Le.{le_at, le_of}
use Rattle.segment.specs.chain.Laws.{afters, sizes}
use Rattle.segment.proofs.chain.Laws.{afters_append}
use Rattle.segment.proofs.chain.Walk.{walk_at}
use Rattle.segment.specs.Header.{Link, State, start, reader, link_at, size, after, no_link}
use Rattle.segment.specs.Laws.{link_front}
use Rattle.segment.proofs.Laws.{segment_format, lies, afters_at}
use Rattle.segment.specs.Step.{state_at, step_of, step_at}
use Rattle.segment.proofs.StepLaws.{whole_link}
use Rattle.segment.specs.Chained.{chain}
use Rattle.segment.specs.index.Offsets.{link_no, Stored}
use Rattle.segment.proofs.index.Offsets.{stored_few, stored_at}
use Rattle.segment.specs.index.Numbered.{Numbered}

-- a number in a part of the file
number_in : (k p i : ℕ) (f : List ℕ) → le_at k (drop p f) i ≡ le_at k f (p + i)
number_in k p i f = ap (λ (s : List ℕ). le_of (take k s)) (drop-drop i p f)

module _ (f : List ℕ) (p i : ℕ) (h : i < length (chain f)) (place : sizes reader (take i (chain f)) ≡ p) where
  abbrev l : Link
  l = link_no f i

  split : chain f ≡ take i (chain f) ++ l ∷ drop (i + 1) (chain f)
  split = split_at (chain f) i no_link h ∙ ap (λ (m : ℕ). take i (chain f) ++ l ∷ drop m (chain f)) (sym (add-one i))

  reads : link_at (afters reader start (take i (chain f))) (drop p f) ≡ some l
  reads = rw place at (walk_at reader segment_format start (take i (chain f)) (drop (i + 1) (chain f)) l f split)

  state : (afters reader start (take i (chain f))).at ≡ p
  state = afters_at start (take i (chain f)) ∙ omega arith

  -- every link of the chain is numbered
  pub numbered : Numbered f p i l
  unfolding link_front
  numbered =
      let y = lies (afters reader start (take i (chain f))) (drop p f) l reads in
      let is : l ≡ link_front p (drop p f) = y.link_is ∙ ap (λ (q : ℕ). link_front q (drop p f)) state in
      let fits : size l ≤ length f - p = rw length-drop at y.fits in
      let room : 64 + length l.payload ≤ size l = y.room in
      record {
        placed = record { split = split; place = place };
        before = length-take-le i (chain f) (omega arith);
        reads = reads;
        link_is = is;
        offset_is = ap (λ (l : Link). l.offset) is;
        id_is = ap (λ (l : Link). l.id) is ∙ number_in 8 p 0x08 f;
        kind_is = ap (λ (l : Link). l.kind) is ∙ get_or-drop p f 0x05 0;
        flags_is = ap (λ (l : Link). l.flags) is ∙ number_in 2 p 0x06 f;
        hash_is = ap (λ (l : Link). l.hash) is ∙ ap (take 16) (drop-drop 0x28 p f);
        length_is = y.length_is ∙ number_in 8 p 0x10 f;
        payload_is =
            ap (λ (l : Link). l.payload) is
            ∙ ap (λ (n : ℕ). take n (drop 64 (drop p f))) (sym y.length_is)
            ∙ ap (take (length l.payload)) (drop-drop 64 p f);
        whole_is = whole_link f (afters reader start (take i (chain f))) p l reads;
        room = omega arith;
        ends = omega arith;
      }

-- of the stored ones, by what is stored
pub numbered_at : (f offsets : List ℕ) (n : ℕ) → Stored f offsets n → (i : ℕ) → i < n → Numbered f (get_or offsets i 0) i (link_no f i)
numbered_at f offsets n s i h =
    let at_most = stored_few f offsets n s in
    numbered f (get_or offsets i 0) i (omega arith) (sym (stored_at f offsets n s i h))

-- a link with those before it is the one with their number
pub number_of : (f : List ℕ) (b z : List Link) (l : Link) → chain f ≡ b ++ l ∷ z
    → (length b < length (chain f)) × ((b ≡ take (length b) (chain f)) × (l ≡ link_no f (length b)))
number_of f b z l e =
    let n : length (chain f) ≡ length b + suc (length z) = ap length e ∙ length-append b (l ∷ z) in
    (omega arith, (sym (ap (take (length b)) e ∙ take_at b (l ∷ z) (length b) refl), sym (ap (λ (ls : List Link). get_or ls (length b) no_link) e ∙ get_or_at b l z no_link (length b) refl)))

-- ---- the step at a numbered link

module _ (f : List ℕ) (p i : ℕ) (l : Link) (m : Numbered f p i l) where
  stepped : (prev : Maybe ℕ) → afters reader start (take i (chain f)) ≡ state_at p prev
      → step_at f p prev ≡ Some (record { end = p + size l; id = l.id; length = length l.payload; kind = l.kind; flags = l.flags })
  unfolding step_at step_of
  stepped prev e =
      let r : link_at (state_at p prev) (drop p f) ≡ some l = rw e at m.reads in
      ap step_of r ∙ rw m.offset_is

  -- the first link is read with none before it
  pub numbered_first : i ≡ 0 → step_at f p None ≡ Some (record { end = p + size l; id = l.id; length = length l.payload; kind = l.kind; flags = l.flags })
  unfolding afters sizes
  numbered_first e =
      let z : p ≡ 0 = sym m.placed.place ∙ ap (λ (n : ℕ). sizes reader (take n (chain f))) e in
      stepped None (ap (λ (n : ℕ). afters reader start (take n (chain f))) e ∙ ap (λ (n : ℕ). state_at n None) (sym z))

  -- every other with the id of the one before
  pub numbered_later : 0 < i
      → step_at f p (Some (link_no f (i - 1)).id) ≡ Some (record { end = p + size l; id = l.id; length = length l.payload; kind = l.kind; flags = l.flags })
  unfolding afters
  numbered_later h =
      let b = take (i - 1) (chain f) in
      let x = link_no f (i - 1) in
      let n : i ≤ length (chain f) = (let k = m.before in let t = length-take i (chain f) in omega arith) in
      let s : i ≡ suc (i - 1) = omega arith in
      let e : take i (chain f) ≡ b ++ x ∷ [] = ap (λ (n : ℕ). take n (chain f)) s ∙ take-suc (chain f) (i - 1) no_link (omega arith) in
      let q : afters reader start (take i (chain f)) ≡ after (afters reader start b) x = ap (afters reader start) e ∙ afters_append reader start b (x ∷ []) in
      let z : sizes reader (take i (chain f)) ≡ p = m.placed.place in
      let a : (afters reader start b).at + size x ≡ p = sym (ap (λ (st : State). st.at) q) ∙ afters_at start (take i (chain f)) ∙ omega arith in
      stepped (Some x.id) (q ∙ ap (λ (n : ℕ). state_at n (Some x.id)) a)
