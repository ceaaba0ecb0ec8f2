-- The laws of specs/Chained.antt.
-- Assumes nothing.
use Rattle.std.specs.Prelude.{◌≡◌, List, [], ◌∷◌, ◌++◌, ℕ, ◌+◌, ◌-◌, ◌≤◌, take, drop, Some, None}
use Rattle.std.specs.Prelude.{Option as Maybe}
use Rattle.std.proofs.Math.Path.{refl, ap}
use Rattle.std.proofs.Common.{sym, ◌∙◌, arith}
use Rattle.std.proofs.Math.Option.{Option, none, some}
use Rattle.std.proofs.Math.ListN.{length, length-drop}
use Rattle.segment.specs.chain.Chain.{walk}
use Rattle.segment.specs.chain.Laws.{afters, sizes}
use Rattle.segment.proofs.chain.Walk.{Walked, state_after, walk_cons, walk_at, walked_first, walked_next, walked_state, walked_link, walked_stop, walked_all, walked_room}
use Rattle.segment.specs.declared.Step.{Step}
use Rattle.segment.specs.Header.{Link, State, start, reader, link_at, size, after}
use Rattle.segment.specs.Laws.{link_front}
use Rattle.segment.proofs.Laws.{segment_format, afters_at, LinkRead, lies}
use Rattle.segment.specs.Step.{state_at, step_of, step_at}
use Rattle.segment.specs.Chained.{chain}

-- ---- a step

-- the link that a step found
pub record Stepped (f : List ℕ) (at : ℕ) (prev : Maybe ℕ) (s : Step) : Type 0 where
  pub link : Link
  pub reads : link_at (state_at at prev) (drop at f) ≡ some link
  pub offset_is : link.offset ≡ at
  pub end_is : s.end ≡ at + size link
  pub id_is : s.id ≡ link.id
  pub length_is : s.length ≡ length link.payload
  pub kind_is : s.kind ≡ link.kind
  pub flags_is : s.flags ≡ link.flags
  pub room : 64 + s.length ≤ size link
  pub fits : s.end ≤ length f

step_is : (s t : Step) → ◌≡◌ {A = Maybe Step} (Some s) (Some t) → s ≡ t
step_is s t e = cc

stop_step : (s : Step) → ◌≡◌ {A = Maybe Step} (Some s) None → ⊥
stop_step s e = let z : ◌≡◌ {A = ℕ} 0 1 = cc in omega arith

module _ (f : List ℕ) (at : ℕ) (prev : Maybe ℕ) where
  pub step_link : (s : Step) → step_at f at prev ≡ Some s → Stepped f at prev s
  unfolding step_at step_of link_front
  step_link s e = go (link_at (state_at at prev) (drop at f)) refl e
    where
      go : (o : Option Link) → link_at (state_at at prev) (drop at f) ≡ o → step_of o ≡ Some s → Stepped f at prev s
      go none h q = absurd (stop_step s (sym q))
      go (some l) h q =
          let y : LinkRead (state_at at prev) (drop at f) l = lies (state_at at prev) (drop at f) l h in
          let p : s ≡ record { end = l.offset + size l; id = l.id; length = length l.payload; kind = l.kind; flags = l.flags } = step_is s _ (sym q) in
          let o : l.offset ≡ at = ap (λ (l : Link). l.offset) y.link_is in
          let z : s.end ≡ l.offset + size l = ap (λ (t : Step). t.end) p in
          let n : s.length ≡ length l.payload = ap (λ (t : Step). t.length) p in
          let r : 64 + length l.payload ≤ size l = y.room in
          let t : size l ≤ length f - at = rw length-drop at y.fits in
          record {
            link = l;
            reads = h;
            offset_is = o;
            end_is = omega arith;
            id_is = ap (λ (t : Step). t.id) p;
            length_is = n;
            kind_is = ap (λ (t : Step). t.kind) p;
            flags_is = ap (λ (t : Step). t.flags) p;
            room = omega arith;
            fits = omega arith;
          }

  pub step_none : step_at f at prev ≡ None → link_at (state_at at prev) (drop at f) ≡ none
  unfolding step_at step_of
  step_none e = go (link_at (state_at at prev) (drop at f)) e
    where
      go : (o : Option Link) → step_of o ≡ None → o ≡ none
      go none q = refl
      go (some l) q = absurd (stop_step _ q)

-- ---- a loop of steps

-- n links are passed, and the next place is read with what the loop carries
pub record ChainAt (f : List ℕ) (n at : ℕ) (prev : Maybe ℕ) : Type 0 where
  pub walked : Walked reader start f n at
  pub state : state_after reader n start f ≡ state_at at prev

next_state : (at : ℕ) (prev : Maybe ℕ) (l : Link) (end id : ℕ) → end ≡ at + size l → id ≡ l.id
    → after (state_at at prev) l ≡ state_at end (Some id)
next_state at prev l end id p q = rw (p, q)

pub chain_first : (f : List ℕ) → ChainAt f 0 0 None
unfolding state_after afters
chain_first f = record { walked = walked_first reader segment_format start f; state = refl }

module _ (f : List ℕ) (n at : ℕ) (prev : Maybe ℕ) (c : ChainAt f n at prev) where
  pub chain_room : at ≤ length f
  chain_room = walked_room reader segment_format start f n at c.walked

  -- the chain stops: the links passed are all of them
  pub chain_stop : step_at f at prev ≡ None → take n (chain f) ≡ chain f
  chain_stop e = walked_all reader segment_format start f n at c.walked (rw c.state (step_none f at prev e))

  pub chain_count : step_at f at prev ≡ None → n ≡ length (chain f)
  chain_count e = walked_stop reader segment_format start f n at c.walked (rw c.state (step_none f at prev e))

  module _ (s : Step) (e : step_at f at prev ≡ Some s) where
    abbrev step : Stepped f at prev s
    step = step_link f at prev s e

    reads_on : link_at (state_after reader n start f) (drop at f) ≡ some step.link
    reads_on = rw c.state step.reads

    -- the links passed are those before, and this one
    pub chain_link : take (n + 1) (chain f) ≡ take n (chain f) ++ step.link ∷ []
    chain_link = walked_link reader segment_format start f n at c.walked step.link reads_on

    pub chain_next : ChainAt f (n + 1) s.end (Some s.id)
    chain_next =
        record {
          walked = rw step.end_is (walked_next reader segment_format start f n at c.walked step.link reads_on);
          state =
              walked_state reader segment_format start f n at c.walked step.link reads_on
              ∙ ap (λ (st : State). after st step.link) c.state
              ∙ next_state at prev step.link s.end s.id step.end_is step.id_is;
        }

-- ---- the links of a chain

-- a link stands where those before it end
pub link_place : (f : List ℕ) (b z : List Link) (l : Link) → chain f ≡ b ++ l ∷ z → l.offset ≡ sizes reader b
unfolding link_front
link_place f b z l e =
    let y = lies (afters reader start b) (drop (sizes reader b) f) l (walk_at reader segment_format start b z l f e) in
    ap (λ (l : Link). l.offset) y.link_is ∙ afters_at start b ∙ omega arith

-- ids rise through the chain
unfoldable pub Rising : ℕ → List Link → Type 0
Rising least [] = Unit {0}
Rising least (l ∷ ls) = (least ≤ l.id) × Rising (l.id + 1) ls

rising_from : (ls : List Link) (st : State) (f : List ℕ) → walk reader st f ≡ ls → Rising st.least ls
unfolding Rising
rising_from [] st f e = tt
rising_from (l ∷ ls) st f e =
    let p = walk_cons reader segment_format f e in
    ((lies st f l p.0).id_above, rising_from ls (after st l) (drop (size l) f) p.1)

pub chain_rising : (f : List ℕ) → Rising 0 (chain f)
chain_rising f = rising_from (chain f) start f refl

pub rising_front : (xs ys : List Link) (least : ℕ) → Rising least (xs ++ ys) → Rising least xs
unfolding Rising
rising_front [] ys least r = tt
rising_front (x ∷ xs) ys least r = (r.0, rising_front xs ys (x.id + 1) r.1)
