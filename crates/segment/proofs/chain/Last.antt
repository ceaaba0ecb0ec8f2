-- The laws of specs/chain/Last.antt.
-- Assumes nothing.
use Rattle.std.specs.Prelude.{◌≡◌, Bool, cond, ◌⊎◌, ℕ, ◌<◌, length}
use Rattle.std.proofs.Math.Path.{refl, sym, ap}
use Rattle.std.proofs.Common.{◌∙◌, subst}
use Rattle.std.proofs.Math.Bool.{true, false}
use Rattle.std.proofs.Math.Option.{Option, none, some, some-injective, some-ne-none}
use Rattle.std.proofs.Math.Logic.{inl, inr, ⊎_elim}
use mathlib.Core.List.{List, [], ◌∷◌, ◌++◌, append_assoc, append-nil}
use Rattle.std.proofs.Math.ListN.{take}
use Rattle.segment.specs.chain.Chain.{All, Reader, walk, Found, scan, last_confirmed, up_to, open_of}
use Rattle.segment.specs.chain.Laws.{afters, sizes}
use Rattle.segment.proofs.chain.Laws as C
use Rattle.segment.specs.chain.Last.{LastIn}

module _ {L : Type 0} (confirmed : List L → L → Bool) where
  scan-append : (p xs ys : List L) (best : Option (Found L)) → scan confirmed p (xs ++ ys) best ≡ scan confirmed (p ++ xs) ys (scan confirmed p xs best)
  unfolding scan
  scan-append p [] ys best = rw append-nil
  scan-append p (x ∷ xs) ys best =
      scan-append (p ++ x ∷ []) xs ys (cond (confirmed p x) (some (record { before = p; link = x })) best) ∙ rw append_assoc

  -- links that nothing confirms are passed over
  scan-never : (p xs : List L) (best : Option (Found L)) → All (λ l. (q : List L) → confirmed q l ≡ false) xs → scan confirmed p xs best ≡ best
  unfolding scan All
  scan-never p [] best t = refl
  scan-never p (x ∷ xs) best t = rw (t.0 p) (scan-never (p ++ x ∷ []) xs best t.1)

  pub last_at_end : (ls : List L) (l : L) → confirmed ls l ≡ true → last_confirmed confirmed (ls ++ l ∷ []) ≡ some (record { before = ls; link = l })
  unfolding last_confirmed scan
  last_at_end ls l e = scan-append [] ls (l ∷ []) none ∙ rw e

  pub last_snoc : (ls : List L) (l : L)
      → last_confirmed confirmed (ls ++ l ∷ []) ≡ cond (confirmed ls l) (some (record { before = ls; link = l })) (last_confirmed confirmed ls)
  unfolding last_confirmed scan
  last_snoc ls l = scan-append [] ls (l ∷ []) none

  pub last_never : (ls xs : List L) → All (λ l. (q : List L) → confirmed q l ≡ false) xs → last_confirmed confirmed (ls ++ xs) ≡ last_confirmed confirmed ls
  unfolding last_confirmed
  last_never ls xs t = scan-append [] ls xs none ∙ scan-never ls xs (scan confirmed [] ls none) t

  stands : (p ls : List L) (best : Option (Found L)) (r : Found L) → scan confirmed p ls best ≡ some r → (best ≡ some r) ⊎ LastIn confirmed (p ++ ls) r
  unfolding scan
  stands p [] best r e = inl e
  stands p (l ∷ ls) best r e = go (confirmed p l) refl (stands (p ++ l ∷ []) ls _ r e)
    where
      go : (b : Bool) → confirmed p l ≡ b → (cond (confirmed p l) (some (record { before = p; link = l })) best ≡ some r) ⊎ LastIn confirmed (p ++ l ∷ [] ++ ls) r
          → (best ≡ some r) ⊎ LastIn confirmed (p ++ l ∷ ls) r
      go b h (inr s) = inr (rw append_assoc at s)
      go true h (inl q) = inr (subst (λ (x : Found L). LastIn confirmed (p ++ l ∷ ls) x) (some-injective _ _ (rw h at q)) (record { rest = ls; split = refl; holds = h }))
      go false h (inl q) = inl (rw h at q)

  pub last_stands : (ls : List L) (r : Found L) → last_confirmed confirmed ls ≡ some r → LastIn confirmed ls r
  unfolding last_confirmed
  last_stands ls r e = ⊎_elim (λ n. absurd (some-ne-none r (sym n))) (λ s. s) (stands [] ls none r e)

  -- a confirmed link stands at the found one, or before it
  pub record AtOrBehind (p : List L) (m : L) (o : Option (Found L)) : Type 0 where
    pub found : Found L
    pub is : o ≡ some found
    pub between : List L
    pub up_to_is : found.before ++ found.link ∷ [] ≡ p ++ m ∷ between

  scan-behind : (p : List L) (m : L) (q ls ys zs : List L) (r : Found L) → q ≡ p ++ m ∷ ys → r.before ++ r.link ∷ [] ≡ p ++ m ∷ zs
      → AtOrBehind p m (scan confirmed q ls (some r))
  unfolding scan
  scan-behind p m q [] ys zs r e f = record { found = r; is = refl; between = zs; up_to_is = f }
  scan-behind p m q (l ∷ ls) ys zs r e f = go (confirmed q l) (λ x xs. scan-behind p m (q ++ l ∷ []) ls (ys ++ l ∷ []) xs x on)
    where
      on : q ++ l ∷ [] ≡ p ++ m ∷ (ys ++ l ∷ [])
      on = ap (λ (x : List L). x ++ l ∷ []) e ∙ append_assoc p (m ∷ ys) (l ∷ [])

      go : (b : Bool) → ((x : Found L) (xs : List L) → x.before ++ x.link ∷ [] ≡ p ++ m ∷ xs → AtOrBehind p m (scan confirmed (q ++ l ∷ []) ls (some x)))
          → AtOrBehind p m (scan confirmed (q ++ l ∷ []) ls (cond b (some (record { before = q; link = l })) (some r)))
      go true ih = ih (record { before = q; link = l }) (ys ++ l ∷ []) on
      go false ih = ih r zs f

  -- where some link is confirmed, the last confirmed one is it or stands behind it
  pub last_behind : (p : List L) (m : L) (rest : List L) → confirmed p m ≡ true → AtOrBehind p m (last_confirmed confirmed (p ++ m ∷ rest))
  unfolding last_confirmed scan
  last_behind p m rest e = rw (scan-append [] p (m ∷ rest) none, e) (scan-behind p m (p ++ m ∷ []) rest [] [] (record { before = p; link = m }) refl refl)

  pub last_up_to : (ls : List L) → last_confirmed confirmed (up_to confirmed (last_confirmed confirmed ls)) ≡ last_confirmed confirmed ls
  unfolding up_to last_confirmed scan
  last_up_to ls = go (last_confirmed confirmed ls) refl
    where
      go : (o : Option (Found L)) → last_confirmed confirmed ls ≡ o → last_confirmed confirmed (up_to confirmed o) ≡ o
      go none e = refl
      go (some r) e = last_at_end r.before r.link (last_stands ls r e).holds

  pub up_to_prefix : (ls : List L) → (zs : List L) × (ls ≡ up_to confirmed (last_confirmed confirmed ls) ++ zs)
  unfolding up_to
  up_to_prefix ls = go (last_confirmed confirmed ls) refl
    where
      go : (o : Option (Found L)) → last_confirmed confirmed ls ≡ o → (zs : List L) × (ls ≡ up_to confirmed o ++ zs)
      go none e = (ls, refl)
      go (some r) e = let s : LastIn confirmed ls r = last_stands ls r e in (s.rest, s.split ∙ sym (append_assoc r.before (r.link ∷ []) s.rest))

-- ---- the store over a format: opening, and what an append's new bytes do to it
module _ {S L : Type 0} (R : Reader S L) (confirmed : List L → L → Bool) (st : S) where
  -- the bytes up to the end of the last confirmed link
  unfoldable pub kept_of : List ℕ → List ℕ
  unfolding open_of up_to sizes
  kept_of f = take (sizes R (up_to confirmed (open_of R confirmed st f))) f

  module _ (F : C.Format R) where
    pub kept_exact : (f : List ℕ) → C.Exact R st (up_to confirmed (open_of R confirmed st f)) (kept_of f)
    unfolding open_of kept_of
    kept_exact f =
        let p = up_to_prefix confirmed (walk R st f) in
        C.exact_take R F st (up_to confirmed (open_of R confirmed st f)) p.0 f p.1

    pub kept_length : (f : List ℕ) → length (kept_of f) ≡ sizes R (up_to confirmed (open_of R confirmed st f))
    kept_length f = C.exact_length R F (kept_exact f)

    -- the bytes up to the last confirmed link's end, with new links behind them
    pub walk_append : (f new : List ℕ) (ms : List L) → C.Exact R (afters R st (up_to confirmed (open_of R confirmed st f))) ms new
        → walk R st (kept_of f ++ new) ≡ up_to confirmed (open_of R confirmed st f) ++ ms
    walk_append f new ms x =
        C.walk_exact R F new (kept_exact f) ∙ ap (λ (r : List L). up_to confirmed (open_of R confirmed st f) ++ r) (C.walk_all R F x)

    -- new bytes that are links, the last of which is confirmed: that one is found
    pub open_append : (f new : List ℕ) (ls : List L) (m : L)
        → C.Exact R (afters R st (up_to confirmed (open_of R confirmed st f))) (ls ++ m ∷ []) new
        → confirmed (up_to confirmed (open_of R confirmed st f) ++ ls) m ≡ true
        → open_of R confirmed st (kept_of f ++ new) ≡ some (record { before = up_to confirmed (open_of R confirmed st f) ++ ls; link = m })
    unfolding open_of
    open_append f new ls m x c =
        ap (last_confirmed confirmed) (walk_append f new (ls ++ m ∷ []) x ∙ sym (append_assoc (up_to confirmed (open_of R confirmed st f)) ls (m ∷ [])))
        ∙ last_at_end confirmed (up_to confirmed (open_of R confirmed st f) ++ ls) m c

    -- the same, cut short: what was found before is found
    pub open_cut : (f new : List ℕ) (ls : List L) (m : L)
        → C.Exact R (afters R st (up_to confirmed (open_of R confirmed st f))) (ls ++ m ∷ []) new
        → All (λ l. (q : List L) → confirmed q l ≡ false) ls
        → (k : ℕ) → k < length new → open_of R confirmed st (kept_of f ++ take k new) ≡ open_of R confirmed st f
    unfolding open_of
    open_cut f new ls m x t k h =
        let o = up_to confirmed (open_of R confirmed st f) in
        ap (last_confirmed confirmed) (C.walk_exact R F (take k new) (kept_exact f))
        ∙ last_never confirmed o (walk R (afters R st o) (take k new))
        (C.walk_cut R F (λ l. (q : List L) → confirmed q l ≡ false) (afters R st o) ls m new x t k h)
        ∙ last_up_to confirmed (walk R st f)
