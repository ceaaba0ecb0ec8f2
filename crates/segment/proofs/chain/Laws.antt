-- Laws of the chain of links, for any format that meets `Format`: what follows of bytes laid one behind the other, and cut short.
-- Assumes nothing.
use Rattle.std.specs.Prelude.{◌≡◌, drop}
use Rattle.std.proofs.Math.Path.{refl, sym, ap}
use Rattle.std.proofs.Common.{◌∙◌, lt_of_not-le, take-append-drop, length-take-le, take-add}
use Rattle.std.proofs.Math.Option.{Option, none, some}
use mathlib.Core.List.{List, [], ◌∷◌, ◌++◌, append_assoc, append-nil, nil≢cons, head-eq_of_cons-eq, tail-eq_of_cons-eq}
use Prim.Native.Nat.{ℕ, zero, suc, ◌+◌, ◌-◌, ◌≤◌, ◌<◌}
use native.Mathlib.Omega.{arith}
use Rattle.std.proofs.Math.Decide.{dec_le}
use Rattle.std.proofs.Math.ListN.{length, take, length-drop}
use Rattle.std.proofs.Math.Seq.{drop-append-le, drop_at}
use Rattle.segment.specs.chain.Chain.{All, Reader, walk_f, walk}
use Rattle.segment.specs.chain.Laws.{afters, sizes}

pub all_append : {X : Type 0} (P : X → Type 0) (xs ys : List X) → All P xs → All P ys → All P (xs ++ ys)
unfolding All
all_append P [] ys t u = u
all_append P (x ∷ xs) ys t u = (t.0, all_append P xs ys t.1 u)

-- and another that follows from it
pub all_map : {X : Type 0} (P Q : X → Type 0) → ((x : X) → P x → Q x) → (xs : List X) → All P xs → All Q xs
unfolding All
all_map P Q f [] t = tt
all_map P Q f (x ∷ xs) t = (f x t.0, all_map P Q f xs t.1)

-- two properties at once
pub all_both : {X : Type 0} (P Q : X → Type 0) (xs : List X) → All P xs → All Q xs → All (λ x. P x × Q x) xs
unfolding All
all_both P Q [] t u = tt
all_both P Q (x ∷ xs) t u = ((t.0, u.0), all_both P Q xs t.1 u.1)

module _ {S L : Type 0} (R : Reader S L) where
  open R use {link_at, size, after}

  pub afters_append : (st : S) (ls ms : List L) → afters R st (ls ++ ms) ≡ afters R (afters R st ls) ms
  unfolding afters
  afters_append st [] ms = refl
  afters_append st (l ∷ ls) ms = afters_append (after st l) ls ms

  -- the bytes s are these links and nothing more
  pub data Exact : S → List L → List ℕ → Type 0 where
    done : {st : S} → Exact st [] []
    more : {st : S} {l : L} {ls : List L} {s : List ℕ} → link_at st s ≡ some l → Exact (after st l) ls (drop (size l) s) → Exact st (l ∷ ls) s

  pub record Format : Type 0 where
    pub empty : (st : S) → link_at st [] ≡ none
    pub size_pos : {st : S} {s : List ℕ} {l : L} → link_at st s ≡ some l → 0 < size l
    pub size_fits : {st : S} {s : List ℕ} {l : L} → link_at st s ≡ some l → size l ≤ length s
    -- what stands there depends on the link's own bytes alone
    pub local : {st : S} {s : List ℕ} {l : L} → link_at st s ≡ some l → (r : List ℕ) → link_at st (take (size l) s ++ r) ≡ some l
    -- a link that is cut short is none
    pub short : {st : S} {s : List ℕ} {l : L} → link_at st s ≡ some l → (k : ℕ) → k < size l → link_at st (take k s) ≡ none

  walkF-none : (k : ℕ) (st : S) (s : List ℕ) → link_at st s ≡ none → walk_f R k st s ≡ []
  unfolding walk_f
  walkF-none zero st s e = refl
  walkF-none (suc k) st s e = rw (e, walk_f)

  walkF-some : (k : ℕ) (st : S) (s : List ℕ) (l : L) → link_at st s ≡ some l → walk_f R (suc k) st s ≡ l ∷ walk_f R k (after st l) (drop (size l) s)
  unfolding walk_f
  walkF-some k st s l e = rw (e, walk_f)

  module _ (F : Format) where
    -- bytes behind a link change nothing of it
    pub extend : {st : S} {s : List ℕ} {l : L} → link_at st s ≡ some l → (r : List ℕ) → link_at st (s ++ r) ≡ some l
    extend {st} {s} {l} e r = rw (← (take-append-drop (size l) s), append_assoc) (F.local e (drop (size l) s ++ r))

    -- a count as long as the bytes is enough: a longer one finds no more
    pub enough : (j k : ℕ) (st : S) (s : List ℕ) → length s ≤ j → length s ≤ k → walk_f R j st s ≡ walk_f R k st s
    unfolding walk_f
    enough zero k st [] hj hk = sym (walkF-none k st [] (F.empty st))
    enough zero k st (x ∷ s) hj hk = absurd (omega arith)
    enough (suc j) zero st [] hj hk = walkF-none (suc j) st [] (F.empty st)
    enough (suc j) zero st (x ∷ s) hj hk = absurd (omega arith)
    enough (suc j) (suc k) st s hj hk = go (link_at st s) refl (λ l. enough j k (after st l) (drop (size l) s))
      where
        go : (o : Option L) → link_at st s ≡ o
            → ((l : L) → length (drop (size l) s) ≤ j → length (drop (size l) s) ≤ k → walk_f R j (after st l) (drop (size l) s) ≡ walk_f R k (after st l) (drop (size l) s))
            → walk_f R (suc j) st s ≡ walk_f R (suc k) st s
        go none e ih = walkF-none (suc j) st s e ∙ sym (walkF-none (suc k) st s e)
        go (some l) e ih =
            let p : 0 < size l = F.size_pos e in
            let q : size l ≤ length s = F.size_fits e in
            walkF-some j st s l e ∙ ap (λ (r : List L). l ∷ r) (ih l (simp length-drop (omega arith)) (simp length-drop (omega arith))) ∙ sym (walkF-some k st s l e)

    pub walk_none : (st : S) (s : List ℕ) → link_at st s ≡ none → walk R st s ≡ []
    unfolding walk
    walk_none st s e = walkF-none (length s) st s e

    pub walk_some : (st : S) (s : List ℕ) (l : L) → link_at st s ≡ some l → walk R st s ≡ l ∷ walk R (after st l) (drop (size l) s)
    unfolding walk
    walk_some st s l e =
        let p : 0 < size l = F.size_pos e in
        let q : size l ≤ length s = F.size_fits e in
        enough (length s) (suc (length s)) st s (omega arith) (omega arith)
        ∙ walkF-some (length s) st s l e
        ∙ ap (λ (r : List L). l ∷ r) (enough (length s) (length (drop (size l) s)) (after st l) (drop (size l) s) (simp length-drop (omega arith)) (omega arith))

    -- links that stand before other bytes are found first
    pub walk_exact : {st : S} {ls : List L} {a : List ℕ} (r : List ℕ) → Exact st ls a → walk R st (a ++ r) ≡ ls ++ walk R (afters R st ls) r
    unfolding afters
    walk_exact r done = refl
    walk_exact r (more {st = st} {l = l} {ls = ls} {s = s} e x) =
        let q : size l ≤ length s = F.size_fits e in
        walk_some st (s ++ r) l (extend e r) ∙ rw drop-append-le (ap (λ (t : List L). l ∷ t) (walk_exact r x))

    pub walk_all : {st : S} {ls : List L} {a : List ℕ} → Exact st ls a → walk R st a ≡ ls
    walk_all {st} {ls} {a} x =
        ap (walk R st) (sym (append-nil a)) ∙ walk_exact [] x
        ∙ ap (λ (r : List L). ls ++ r) (walk_none (afters R st ls) [] (F.empty (afters R st ls))) ∙ append-nil ls

    -- two runs of links, one after the other
    pub exact_append : {st : S} {ls ms : List L} {a b : List ℕ} → Exact st ls a → Exact (afters R st ls) ms b → Exact st (ls ++ ms) (a ++ b)
    unfolding afters
    exact_append done y = y
    exact_append {ms = ms} {b = b} (more {l = l} {ls = ls} {s = s} e x) y =
        let q : size l ≤ length s = F.size_fits e in
        more {ls = ls ++ ms} (extend e b) (rw drop-append-le (exact_append x y))

    pub exact_length : {st : S} {ls : List L} {a : List ℕ} → Exact st ls a → length a ≡ sizes R ls
    unfolding sizes
    exact_length done = refl
    exact_length (more {l = l} {ls = ls} {s = s} e x) =
        let q : size l ≤ length s = F.size_fits e in
        let ih : length s - size l ≡ sizes R ls = sym (length-drop (size l) s) ∙ exact_length x in
        omega arith

    -- the links up to a boundary are exactly the bytes up to it
    pub exact_take : (st : S) (ls zs : List L) (s : List ℕ) → walk R st s ≡ ls ++ zs → Exact st ls (take (sizes R ls) s)
    unfolding sizes
    exact_take st [] zs s e = done
    exact_take st (l ∷ ls) zs s e = go (link_at st s) refl (λ e'. exact_take (after st l) ls zs (drop (size l) s) e')
      where
        go : (o : Option L) → link_at st s ≡ o → (walk R (after st l) (drop (size l) s) ≡ ls ++ zs → Exact (after st l) ls (take (sizes R ls) (drop (size l) s)))
            → Exact st (l ∷ ls) (take (size l + sizes R ls) s)
        go none h ih = absurd (nil≢cons (sym (walk_none st s h) ∙ e))
        go (some m) h ih =
            let q : m ∷ walk R (after st m) (drop (size m) s) ≡ l ∷ (ls ++ zs) = sym (walk_some st s m h) ∙ e in
            let hl : link_at st s ≡ some l = rw (head-eq_of_cons-eq q) at h in
            let fits : size l ≤ length s = F.size_fits hl in
            rw (take-add (size l) (sizes R ls) s)
            (more {ls = ls} (F.local hl (take (sizes R ls) (drop (size l) s)))
            (rw (drop_at (take (size l) s) (take (sizes R ls) (drop (size l) s)) (size l) (length-take-le (size l) s fits))
            (ih (rw (head-eq_of_cons-eq q) at (tail-eq_of_cons-eq q)))))

    take_split : (n k : ℕ) (s : List ℕ) → n ≤ k → take k s ≡ take n s ++ take (k - n) (drop n s)
    take_split n k s h = let e : k ≡ n + (k - n) = omega arith in ap (λ (m : ℕ). take m s) e ∙ take-add n (k - n) s

    exact-nil : {st : S} {s : List ℕ} → Exact st [] s → s ≡ []
    exact-nil done = refl

    -- a run of links that is cut short has fewer of them: the last is none of those found
    pub walk_cut : (P : L → Type 0) (st : S) (ls : List L) (m : L) (b : List ℕ) → Exact st (ls ++ m ∷ []) b → All P ls
        → (k : ℕ) → k < length b → All P (walk R st (take k b))
    unfolding All
    walk_cut P st [] m b (more e x) t k h =
        let z : length b - size m ≡ 0 = sym (length-drop (size m) b) ∙ ap length (exact-nil x) in
        rw (walk_none st (take k b) (F.short e k (omega arith))) tt
    walk_cut P st (l ∷ ls) m b (more e x) t k h = go (dec_le (size l) k) (λ h'. walk_cut P (after st l) ls m (drop (size l) b) x t.1 (k - size l) h')
      where
        go : Dec (size l ≤ k) → (k - size l < length (drop (size l) b) → All P (walk R (after st l) (take (k - size l) (drop (size l) b)))) → All P (walk R st (take k b))
        go (yes q) ih =
            let fits : size l ≤ length b = F.size_fits e in
            let rest : List ℕ = take (k - size l) (drop (size l) b) in
            rw (take_split (size l) k b q, walk_some st (take (size l) b ++ rest) l (F.local e rest), drop_at (take (size l) b) rest (size l) (length-take-le (size l) b fits))
            (t.0, ih (simp length-drop (omega arith)))
        go (no q) ih = rw (walk_none st (take k b) (F.short e k (lt_of_not-le q))) tt
