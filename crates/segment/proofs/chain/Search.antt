-- Searching the last confirmed link from the end. By the links' numbers: going down, a link that is not confirmed leaves the search among those
-- before it. By boundaries: the places that are multiples of 64, where every link's size is a multiple of 64 too. Most boundaries have no link of
-- the chain; the search goes down by 64 and looks among the links that begin below the boundary.
-- Assumes nothing.
use Rattle.std.specs.Prelude.{◌≡◌, Bool, true, false, cond, ◌⊎◌, length, take, get_or, ltb}
use Rattle.std.proofs.Math.Path.{sym, ap, refl}
use Rattle.std.proofs.Common.{◌∙◌, add-zero, add-suc, take-suc, lt-ltb}
use Rattle.std.proofs.Math.Option.{none, some}
use mathlib.Core.List.{List, [], ◌∷◌, ◌++◌}
use Rattle.std.proofs.Math.Logic.{inl, inr, ⊎_elim}
use Prim.Native.Nat.{ℕ, zero, suc, ◌+◌, ◌-◌, ◌≤◌, ◌<◌, ◌%◌}
use Rattle.std.proofs.Math.Nat.{lt_of_not-le}
use native.Mathlib.Omega.{arith}
use Rattle.std.proofs.Math.Decide.{dec_le}
use Rattle.std.proofs.Math.Seq.{take-length}
use Rattle.segment.specs.chain.Chain.{All, last_confirmed, scan, Reader}
use Rattle.segment.proofs.chain.Last.{last_snoc, last_at_end}
use Rattle.segment.specs.chain.Laws.{sizes}

module _ {L : Type 0} (confirmed : List L → L → Bool) where
  -- one link less: it is the one, or the search goes on among those before it
  pub last_down : (ls : List L) (k : ℕ) (d : L) → k < length ls
      → last_confirmed confirmed (take (suc k) ls)
      ≡ cond (confirmed (take k ls) (get_or ls k d)) (some (record { before = take k ls; link = get_or ls k d })) (last_confirmed confirmed (take k ls))
  last_down ls k d h = rw (take-suc ls k d h) (last_snoc confirmed (take k ls) (get_or ls k d))

  -- no link from number k on is confirmed
  abbrev pub NoneFrom : ℕ → List L → L → Type 0
  NoneFrom k ls d = (i : ℕ) → k ≤ i → i < length ls → confirmed (take i ls) (get_or ls i d) ≡ false

  down : (ls : List L) (d : L) (k j : ℕ) → k + j ≤ length ls → NoneFrom k ls d → last_confirmed confirmed (take (k + j) ls) ≡ last_confirmed confirmed (take k ls)
  down ls d k zero h t = rw (add-zero k)
  down ls d k (suc j) h t =
      rw (add-suc k j, last_down ls (k + j) d (omega arith), t (k + j) (omega arith) (omega arith)) (down ls d k j (omega arith) t)

  pub none_from : (ls : List L) (k : ℕ) (d : L) → k ≤ length ls → NoneFrom k ls d → last_confirmed confirmed ls ≡ last_confirmed confirmed (take k ls)
  none_from ls k d h t =
      let e : k + (length ls - k) ≡ length ls = omega arith in
      ap (last_confirmed confirmed) (sym (take-length ls) ∙ ap (λ (n : ℕ). take n ls) (sym e)) ∙ down ls d k (length ls - k) (omega arith) t

  -- the confirmed link with the greatest number is the one
  pub last_greatest : (ls : List L) (k : ℕ) (d : L) → k < length ls → confirmed (take k ls) (get_or ls k d) ≡ true → NoneFrom (suc k) ls d
      → last_confirmed confirmed ls ≡ some (record { before = take k ls; link = get_or ls k d })
  last_greatest ls k d h e t = none_from ls (suc k) d (omega arith) t ∙ last_down ls k d h ∙ rw e

  -- where none is confirmed there is none
  pub none_at_all : (ls : List L) (d : L) → NoneFrom 0 ls d → last_confirmed confirmed ls ≡ none
  unfolding last_confirmed scan
  none_at_all ls d t = none_from ls 0 d (omega arith) t

-- ---- by boundaries

module _ {S L : Type 0} (R : Reader S L) where
  open R use {size}

  -- the links that begin below a place
  unfoldable pub below : ℕ → List L → List L
  below p [] = []
  below p (l ∷ ls) = cond (ltb 0 p) (l ∷ below (p - size l) ls) []

  -- every link takes up a multiple of 64 bytes, and some
  abbrev pub Aligned : List L → Type 0
  Aligned ls = All (λ l. (0 < size l) × (size l % 64 ≡ 0)) ls

  -- a link that begins at a boundary
  pub record Begins (p : ℕ) (ls : List L) : Type 0 where
    pub link : L
    pub rest : List L
    pub split : ls ≡ below p ls ++ link ∷ rest
    pub place : sizes R (below p ls) ≡ p
    pub more : below (p + 64) ls ≡ below p ls ++ link ∷ []

  pub below_zero : (ls : List L) → below 0 ls ≡ []
  unfolding below
  below_zero [] = refl
  below_zero (l ∷ ls) = refl

  below-some : (p : ℕ) (l : L) (ls : List L) → 0 < p → below p (l ∷ ls) ≡ l ∷ below (p - size l) ls
  unfolding below
  below-some p l ls h = rw (lt-ltb 0 p h)

  below_one : (p : ℕ) (l : L) (ls : List L) → 0 < p → p ≤ size l → below p (l ∷ ls) ≡ l ∷ []
  below_one p l ls h k =
      let e : p - size l ≡ 0 = omega arith in
      below-some p l ls h ∙ rw (e, below_zero ls)

  pub below_all : (p : ℕ) (ls : List L) → Aligned ls → sizes R ls ≤ p → below p ls ≡ ls
  unfolding below sizes All
  below_all p [] t h = refl
  below_all p (l ∷ ls) t h =
      let q : 0 < size l = t.0.0 in
      below-some p l ls (omega arith) ∙ ap (λ (r : List L). l ∷ r) (below_all (p - size l) ls t.1 (omega arith))

  -- at a boundary a link begins, or the links below the next boundary are those below this one
  pub boundary : (p : ℕ) (ls : List L) → Aligned ls → p % 64 ≡ 0 → (below (p + 64) ls ≡ below p ls) ⊎ Begins p ls
  unfolding below All sizes
  boundary p [] t m = inl refl
  boundary zero (l ∷ ls) t m =
      let q : 0 < size l = t.0.0 in
      let r : size l % 64 ≡ 0 = t.0.1 in
      inr (record { link = l; rest = ls; split = refl; place = refl; more = below_one (0 + 64) l ls (omega arith) (omega arith) })
  boundary (suc k) (l ∷ ls) t m = go (dec_le (size l) (suc k)) (boundary (suc k - size l) ls t.1)
    where
      go : Dec (size l ≤ suc k) → ((suc k - size l) % 64 ≡ 0 → (below (suc k - size l + 64) ls ≡ below (suc k - size l) ls) ⊎ Begins (suc k - size l) ls)
          → (below (suc k + 64) (l ∷ ls) ≡ below (suc k) (l ∷ ls)) ⊎ Begins (suc k) (l ∷ ls)
      go (yes h) ih =
          let r : size l % 64 ≡ 0 = t.0.1 in
          let e : suc k + 64 - size l ≡ suc k - size l + 64 = omega arith in
          let up : below (suc k + 64) (l ∷ ls) ≡ l ∷ below (suc k - size l + 64) ls = below-some (suc k + 64) l ls (omega arith) ∙ rw e in
          let here : below (suc k) (l ∷ ls) ≡ l ∷ below (suc k - size l) ls = below-some (suc k) l ls (omega arith) in
          ⊎_elim
          (λ q. inl (rw (up, here) (ap (λ (r : List L). l ∷ r) q)))
          (λ b. inr
          (record {
            link = b.link;
            rest = b.rest;
            split = rw here (ap (λ (r : List L). l ∷ r) b.split);
            place = rw here (let z : sizes R (below (suc k - size l) ls) ≡ suc k - size l = b.place in omega arith);
            more = rw (up, here) (ap (λ (r : List L). l ∷ r) b.more);
          }))
          (ih (omega arith))
      go (no h) ih =
          let r : size l % 64 ≡ 0 = t.0.1 in
          let q : suc k < size l = lt_of_not-le h in
          inl (below_one (suc k + 64) l ls (omega arith) (omega arith) ∙ sym (below_one (suc k) l ls (omega arith) (omega arith)))

  -- the links below the boundary behind a link: those before it, and it
  pub below_link : (b : List L) (l : L) (z : List L) → Aligned (b ++ l ∷ z) → below (sizes R b + 64) (b ++ l ∷ z) ≡ b ++ l ∷ []
  unfolding sizes All
  below_link [] l z t =
      let q : 0 < size l = t.0.0 in
      let r : size l % 64 ≡ 0 = t.0.1 in
      below_one (0 + 64) l z (omega arith) (omega arith)
  below_link (x ∷ b) l z t =
      let e : size x + sizes R b + 64 - size x ≡ sizes R b + 64 = omega arith in
      below-some (size x + sizes R b + 64) x (b ++ l ∷ z) (omega arith) ∙ rw e (ap (λ (r : List L). x ∷ r) (below_link b l z t.1))

  -- ---- one boundary down

  module _ (confirmed : List L → L → Bool) (ls : List L) (t : Aligned ls) (p : ℕ) where
    -- no link of the chain that begins here is confirmed: the search goes on below
    pub boundary_down : p % 64 ≡ 0 → ((b z : List L) (l : L) → ls ≡ b ++ l ∷ z → sizes R b ≡ p → confirmed b l ≡ false)
        → last_confirmed confirmed (below (p + 64) ls) ≡ last_confirmed confirmed (below p ls)
    boundary_down m n =
        ⊎_elim
        (λ q. ap (last_confirmed confirmed) q)
        (λ s. ap (last_confirmed confirmed) s.more ∙ last_snoc confirmed (below p ls) s.link ∙ rw (n (below p ls) s.rest s.link s.split s.place))
        (boundary p ls t m)

    -- a link of the chain that begins here is confirmed: it is the last one of those below the next boundary
    pub boundary_found : (b z : List L) (l : L) → ls ≡ b ++ l ∷ z → sizes R b ≡ p → confirmed b l ≡ true
        → last_confirmed confirmed (below (p + 64) ls) ≡ some (record { before = b; link = l })
    boundary_found b z l e h c =
        let q : below (p + 64) ls ≡ b ++ l ∷ [] = rw (← h, e) (below_link b l z (rw e at t)) in
        ap (last_confirmed confirmed) q ∙ last_at_end confirmed b l c
