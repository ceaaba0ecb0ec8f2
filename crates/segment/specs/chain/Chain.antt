-- The chain of links from the front of a list of bytes, and its last confirmed link, for any format of a link (document 01, 'The chain from byte
-- 0' and 'The manifest'). A format says what link stands at the front of some bytes, how many bytes it takes, and what the next link is read with
-- (the offset, the least id). Definitions only.
-- Assumes nothing.
use Rattle.std.specs.Prelude.{Bool, cond, ℕ, zero, suc, leb, length, take, drop}
use Rattle.std.proofs.Math.Option.{Option, none, some}
use mathlib.Core.List.{List, [], ◌∷◌, ◌++◌}

-- each element has the property
unfoldable pub All : {X : Type 0} → (X → Type 0) → List X → Type 0
All P [] = Unit {0}
All P (x ∷ xs) = P x × All P xs

-- how a link is read: what stands at the front of some bytes, how many of them it takes, and what the next one is read with
pub record Reader (S L : Type 0) : Type 0 where
  pub link_at : S → List ℕ → Option L
  pub size : L → ℕ
  pub after : S → L → S

-- a link with a head of fixed length that says how long the link is: the head is whole, the link is whole, and its bytes are those of a link
module _ {S L : Type 0} (head : ℕ) (size_at : List ℕ → ℕ) (read : S → List ℕ → Option L) where
  unfoldable pub framed : S → List ℕ → Option L
  framed st s = cond (leb head (length s)) (cond (leb (size_at (take head s)) (length s)) (read st (take (size_at (take head s)) s)) none) none

-- 'goes from each sound header to its end, and stops at the first place without one'; no chain has more links than bytes
module _ {S L : Type 0} (R : Reader S L) where
  open R use {link_at, size, after}

  unfoldable pub walk_f : ℕ → S → List ℕ → List L
  walk_f zero st s = []
  walk_f (suc k) st s = elim (link_at st s) [ none ↦ [] | some l ↦ l ∷ walk_f k (after st l) (drop (size l) s) ]

  unfoldable pub walk : S → List ℕ → List L
  unfolding walk_f
  walk st s = walk_f (length s) st s

-- a link, and the links before it
pub record Found (L : Type 0) : Type 0 where
  pub before : List L
  pub link : L

-- 'the last confirmed one': of the second list, where the first list stands before it
module _ {L : Type 0} (confirmed : List L → L → Bool) where
  unfoldable pub scan : List L → List L → Option (Found L) → Option (Found L)
  scan p [] best = best
  scan p (l ∷ ls) best = scan (p ++ l ∷ []) ls (cond (confirmed p l) (some (record { before = p; link = l })) best)

  unfoldable pub last_confirmed : List L → Option (Found L)
  unfolding scan
  last_confirmed ls = scan [] ls none

  -- the links up to the found one, it included
  unfoldable pub up_to : Option (Found L) → List L
  up_to none = []
  up_to (some r) = r.before ++ r.link ∷ []

-- what opening finds, read from a state on
module _ {S L : Type 0} (R : Reader S L) (confirmed : List L → L → Bool) (st : S) where
  unfoldable pub open_of : List ℕ → Option (Found L)
  unfolding walk last_confirmed
  open_of f = last_confirmed confirmed (walk R st f)
