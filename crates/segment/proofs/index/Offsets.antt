-- The laws of specs/index/Offsets.antt.
-- Assumes nothing.
use Rattle.std.specs.Prelude.{◌≡◌, refl, List, [], ◌∷◌, ◌++◌, ℕ, zero, suc, ◌+◌, ◌%◌, ◌≤◌, ◌<◌, length, take, drop, get_or, set, Some, None}
use Rattle.std.specs.Prelude.{Option as Maybe}
use Rattle.std.proofs.Common.{sym, ap, ◌∙◌, arith, add-one, length-take, get_or-take, take_all, take-suc-set, length-take-le, length-set}
use Rattle.std.proofs.lemmas.List.{take-set, take-append-le}
use Rattle.std.proofs.Math.Seq.{split_at}
use Rattle.segment.specs.chain.Laws.{sizes}
use Rattle.segment.specs.declared.Step.{Step}
use Rattle.segment.specs.Header.{Link, reader, no_link}
use Rattle.segment.proofs.Laws.{size_least}
use Rattle.segment.specs.Step.{step_at}
use Rattle.segment.specs.Chained.{chain, offsets_of}
use Rattle.segment.proofs.Chained.{link_place, ChainAt, chain_first, chain_next, chain_link, chain_stop, chain_count, step_link}
use Rattle.segment.proofs.Search.{sizes_aligned}
use Rattle.segment.specs.index.Offsets.{most, Stored, link_no}

-- ---- lists of links

pub offsets_append : (ls ms : List Link) → offsets_of (ls ++ ms) ≡ offsets_of ls ++ offsets_of ms
offsets_append [] ms = refl
offsets_append (l ∷ ls) ms = ap (λ (r : List ℕ). l.offset ∷ r) (offsets_append ls ms)

offsets_at : (ls : List Link) (i : ℕ) → i < length ls → get_or (offsets_of ls) i 0 ≡ (get_or ls i no_link).offset
offsets_at [] i h = absurd (omega arith)
offsets_at (l ∷ ls) zero h = refl
offsets_at (l ∷ ls) (suc i) h = offsets_at ls i (omega arith)

-- a link begins 64 bytes or more behind each one before it
pub places_rise : (ls : List Link) (i j : ℕ) → i < j → j ≤ length ls → sizes reader (take i ls) + 64 ≤ sizes reader (take j ls)
unfolding sizes
places_rise [] i j h k = absurd (omega arith)
places_rise (l ∷ ls) i zero h k = absurd (omega arith)
places_rise (l ∷ ls) zero (suc j) h k = let q = size_least l in omega arith
places_rise (l ∷ ls) (suc i) (suc j) h k = let ih = places_rise ls i j (omega arith) (omega arith) in omega arith

-- ---- the numbers that are stored

module _ (f offsets : List ℕ) (n : ℕ) (s : Stored f offsets n) where
  pub stored_few : (n ≤ length (chain f)) × (n ≤ most)
  stored_few = let c : n ≡ length (take most (chain f)) = s.count in let m = length-take most (chain f) in (omega arith, omega arith)

  -- a link with a number below the bound is stored
  pub stored_has : (i : ℕ) → i < length (chain f) → i < most → i < n
  stored_has i h k = let c : n ≡ length (take most (chain f)) = s.count in let m = length-take most (chain f) in omega arith

  -- each is the place of its link: where those before it end
  pub stored_at : (i : ℕ) → i < n → get_or offsets i 0 ≡ sizes reader (take i (chain f))
  stored_at i h =
      let c : n ≡ length (take most (chain f)) = s.count in
      let at_most = stored_few in
      let k : i < length (chain f) = omega arith in
      sym (get_or-take n offsets i 0 h)
      ∙ ap (λ (xs : List ℕ). get_or xs i 0) s.stored
      ∙ offsets_at (take most (chain f)) i (omega arith)
      ∙ ap (λ (l : Link). l.offset) (get_or-take most (chain f) i no_link (omega arith))
      ∙ link_place f (take i (chain f)) (drop (suc i) (chain f)) (link_no f i) (split_at (chain f) i no_link k)

  pub stored_rise : (i j : ℕ) → i < j → j < n → get_or offsets i 0 + 64 ≤ get_or offsets j 0
  stored_rise i j h k =
      let at_most = stored_few in
      let a = stored_at i (omega arith) in
      let b = stored_at j k in
      let r = places_rise (chain f) i j h (omega arith) in
      omega arith

  pub stored_aligned : (i : ℕ) → i < n → get_or offsets i 0 % 64 ≡ 0
  stored_aligned i h = let a = stored_at i h in let b = sizes_aligned (take i (chain f)) in omega arith

-- ---- a loop that walks the chain from byte 0 and stores where each link begins

-- n links are passed, and their offsets are stored
pub record CollectAt (f : List ℕ) (n at : ℕ) (prev : Maybe ℕ) (offsets : List ℕ) : Type 0 where
  pub walked : ChainAt f n at prev
  pub at_most : n ≤ most
  pub stored : take n offsets ≡ offsets_of (take n (chain f))

pub collect_first : (f : List ℕ) (offsets : List ℕ) → CollectAt f 0 0 None offsets
collect_first f offsets = record { walked = chain_first f; at_most = omega arith; stored = refl }

module _ (f : List ℕ) (n at : ℕ) (prev : Maybe ℕ) (offsets : List ℕ) (c : CollectAt f n at prev offsets) where
  -- what the links passed say of those that can matter, where these are the same
  whole : take n (chain f) ≡ take most (chain f) → (n ≡ length (take most (chain f))) × (take n offsets ≡ offsets_of (take most (chain f)))
  whole e =
      (sym (length-take-le n (chain f) c.walked.walked.at_most) ∙ ap length e, c.stored ∙ ap offsets_of e)

  -- the chain stops
  pub collect_stop : step_at f at prev ≡ None → (n ≡ length (take most (chain f))) × (take n offsets ≡ offsets_of (take most (chain f)))
  collect_stop e =
      let at_most : n ≤ most = c.at_most in
      let k = chain_count f n at prev c.walked e in
      whole (chain_stop f n at prev c.walked e ∙ sym (take_all most (chain f) (omega arith)))

  -- as many links are passed as can matter
  pub collect_full : most ≤ n → (n ≡ length (take most (chain f))) × (take n offsets ≡ offsets_of (take most (chain f)))
  collect_full h =
      let at_most : n ≤ most = c.at_most in
      let e : n ≡ most = omega arith in
      whole (ap (λ (k : ℕ). take k (chain f)) e)

  -- the same of the whole list, and whatever stands behind it
  pub collect_all : (more : List ℕ) → most ≤ n → most ≤ length offsets
      → (most ≡ length (take most (chain f))) × (take most (offsets ++ more) ≡ offsets_of (take most (chain f)))
  collect_all more h k =
      let at_most : n ≤ most = c.at_most in
      let e : n ≡ most = omega arith in
      let w = collect_full h in
      (sym e ∙ w.0, take-append-le most offsets more k ∙ ap (λ (j : ℕ). take j offsets) (sym e) ∙ w.1)

  -- one link more
  pub collect_next : (s : Step) → step_at f at prev ≡ Some s → n < most → n < length offsets
      → CollectAt f (n + 1) s.end (Some s.id) (set offsets n at)
  collect_next s e h k =
      let l = step_link f at prev s e in
      record {
        walked = chain_next f n at prev c.walked s e;
        at_most = omega arith;
        stored =
            ap (λ (m : ℕ). take m (set offsets n at)) (add-one n)
            ∙ take-suc-set offsets n at k
            ∙ ap (λ (xs : List ℕ). xs ++ at ∷ []) c.stored
            ∙ ap (λ (x : ℕ). offsets_of (take n (chain f)) ++ x ∷ []) (sym l.offset_is)
            ∙ sym (offsets_append (take n (chain f)) (l.link ∷ []))
            ∙ ap offsets_of (sym (chain_link f n at prev c.walked s e));
      }

-- the number behind those that are stored does not matter, nor does what stands behind the list
pub not_stored : (xs ys : List ℕ) (n v : ℕ) → n < length xs → take n (set xs n v ++ ys) ≡ take n xs
not_stored xs ys n v h = take-append-le n (set xs n v) ys (omega (arith, length-set xs n v)) ∙ take-set xs n v
