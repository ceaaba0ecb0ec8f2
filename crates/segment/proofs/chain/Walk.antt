-- Walking a chain by a loop that counts the links it has passed: the first n links, where the next one stands, what it is read with.
-- Assumes nothing.
use Rattle.std.specs.Prelude.{◌≡◌, take, drop}
use Rattle.std.proofs.Math.Path.{refl, sym, ap}
use Rattle.std.proofs.Common.{◌∙◌, length-take, length-drop, take-append-drop, take_all, take-add, drop-drop}
use Rattle.std.proofs.Math.Option.{Option, none, some}
use mathlib.Core.List.{List, [], ◌∷◌, ◌++◌, append-nil, nil≢cons, head-eq_of_cons-eq, tail-eq_of_cons-eq}
use Prim.Native.Nat.{ℕ, suc, ◌+◌, ◌-◌, ◌≤◌}
use native.Mathlib.Omega.{arith}
use Rattle.std.proofs.Math.ListN.{length}
use Rattle.segment.specs.chain.Chain.{All, Reader, walk}
use Rattle.segment.specs.chain.Laws.{afters, sizes}
use Rattle.segment.proofs.chain.Laws.{Format, Exact, walk_none, walk_some, afters_append, exact_take, exact_length}

module _ {S L : Type 0} (R : Reader S L) where
  open R use {link_at, size, after}

  pub sizes_append : (ls ms : List L) → sizes R (ls ++ ms) ≡ sizes R ls + sizes R ms
  unfolding sizes
  sizes_append [] ms = omega arith
  sizes_append (l ∷ ls) ms = omega (arith, sizes_append ls ms)

  -- the state in which the link with number n is read
  unfoldable pub state_after : ℕ → S → List ℕ → S
  unfolding walk afters
  state_after n st f = afters R st (take n (walk R st f))

  -- a loop that has passed n links and stands behind them
  pub record Walked (st : S) (f : List ℕ) (n at : ℕ) : Type 0 where
    pub at_most : n ≤ length (walk R st f)
    pub place : at ≡ sizes R (take n (walk R st f))

  module _ (F : Format R) where
    -- a chain that begins with a link has it at its front
    pub walk_cons : {st : S} {l : L} {zs : List L} (s : List ℕ) → walk R st s ≡ l ∷ zs → (link_at st s ≡ some l) × (walk R (after st l) (drop (size l) s) ≡ zs)
    walk_cons {st} {l} {zs} s e = go (link_at st s) refl
      where
        go : (o : Option L) → link_at st s ≡ o → (link_at st s ≡ some l) × (walk R (after st l) (drop (size l) s) ≡ zs)
        go none h = absurd (nil≢cons (sym (walk_none R F st s h) ∙ e))
        go (some m) h =
            let q : m ∷ walk R (after st m) (drop (size m) s) ≡ l ∷ zs = sym (walk_some R F st s m h) ∙ e in
            (rw (head-eq_of_cons-eq q) at h, rw (head-eq_of_cons-eq q) at (tail-eq_of_cons-eq q))

    -- behind its first links a chain goes on from the place where they end
    pub walk_after : (st : S) (ls zs : List L) (f : List ℕ) → walk R st f ≡ ls ++ zs → walk R (afters R st ls) (drop (sizes R ls) f) ≡ zs
    unfolding afters sizes
    walk_after st [] zs f e = e
    walk_after st (l ∷ ls) zs f e =
        let p = walk_cons f e in
        rw (drop-drop (sizes R ls) (size l) f) at (walk_after (after st l) ls zs (drop (size l) f) p.1)

    -- the link that stands behind the first links, where there is one
    pub walk_at : (st : S) (b zs : List L) (l : L) (f : List ℕ) → walk R st f ≡ b ++ l ∷ zs → link_at (afters R st b) (drop (sizes R b) f) ≡ some l
    walk_at st b zs l f e = (walk_cons (drop (sizes R b) f) (walk_after st b (l ∷ zs) f e)).0

    -- the chain lies in the file
    pub walk_fits : (st : S) (f : List ℕ) → sizes R (walk R st f) ≤ length f
    walk_fits st f =
        let n : length (take (sizes R (walk R st f)) f) ≡ sizes R (walk R st f) =
        exact_length R F (exact_take R F st (walk R st f) [] f (sym (append-nil (walk R st f)))) in
        omega (arith, length-take (sizes R (walk R st f)) f)

    -- what every link has, those of a chain have
    pub walk_each : (P : L → Type 0) → ((st : S) (s : List ℕ) (l : L) → link_at st s ≡ some l → P l) → (st : S) (f : List ℕ) → All P (walk R st f)
    unfolding All
    walk_each P h st f = go (walk R st f) st f refl
      where
        go : (ls : List L) (st : S) (f : List ℕ) → walk R st f ≡ ls → All P ls
        go [] st f e = tt
        go (l ∷ ls) st f e = let p = walk_cons f e in (h st f l p.0, go ls (after st l) (drop (size l) f) p.1)

    -- ---- where the loop stands

    pub walked_first : (st : S) (f : List ℕ) → Walked st f 0 0
    unfolding sizes
    walked_first st f = record { at_most = omega arith; place = refl }

    module _ (st : S) (f : List ℕ) (n at : ℕ) (w : Walked st f n at) where
      abbrev chain : List L
      chain = walk R st f

      split : chain ≡ take n chain ++ drop n chain
      split = sym (take-append-drop n chain)

      -- the bytes passed are those links and nothing more
      pub walked_exact : Exact R st (take n chain) (take at f)
      walked_exact = rw w.place (exact_take R F st (take n chain) (drop n chain) f split)

      pub walked_rest : walk R (state_after n st f) (drop at f) ≡ drop n chain
      unfolding state_after
      walked_rest = rw w.place (walk_after st (take n chain) (drop n chain) f split)

      -- no link is left: the loop has passed them all
      pub walked_stop : link_at (state_after n st f) (drop at f) ≡ none → n ≡ length chain
      walked_stop e =
          let z : drop n chain ≡ [] = sym walked_rest ∙ walk_none R F (state_after n st f) (drop at f) e in
          let h : n ≤ length chain = w.at_most in
          let k : length chain - n ≡ 0 = sym (length-drop n chain) ∙ ap length z in
          omega arith

      pub walked_all : link_at (state_after n st f) (drop at f) ≡ none → take n chain ≡ chain
      walked_all e = take_all n chain (omega (arith, walked_stop e))

      -- one link more
      -- one link more
      module _ (l : L) (e : link_at (state_after n st f) (drop at f) ≡ some l) where
        next-drop : drop n chain ≡ l ∷ walk R (after (state_after n st f) l) (drop (size l) (drop at f))
        next-drop = sym walked_rest ∙ walk_some R F (state_after n st f) (drop at f) l e

        -- the links passed are those before it, and it
        pub walked_link : take (n + 1) chain ≡ take n chain ++ l ∷ []
        walked_link = take-add n 1 chain ∙ rw next-drop

        pub walked_state : state_after (n + 1) st f ≡ after (state_after n st f) l
        unfolding state_after afters
        walked_state = ap (afters R st) walked_link ∙ afters_append R st (take n chain) (l ∷ [])

        pub walked_next : Walked st f (n + 1) (at + size l)
        unfolding sizes
        walked_next =
            let p : length chain - n ≡ suc (length (walk R (after (state_after n st f) l) (drop (size l) (drop at f)))) = sym (length-drop n chain) ∙ ap length next-drop in
            record {
              at_most = omega arith;
              place = rw (walked_link, sizes_append (take n chain) (l ∷ []), ← w.place) (omega arith);
            }

      -- the place is in the file
      pub walked_room : at ≤ length f
      walked_room =
          let q : length (take at f) ≡ at = exact_length R F walked_exact ∙ sym w.place in
          omega (arith, length-take at f)
