-- The test by the file alone is the definition, for a link of the chain and the places of those before it.
-- Assumes nothing.
use Prim.Native.Nat.{ℕ}
use Rattle.std.specs.Prelude.{◌≡◌, refl, Bool, ◌&&◌, drop}
use Rattle.std.proofs.Math.Path.{sym, ap}
use Rattle.std.proofs.Common.{subst, ◌∙◌, drop-drop, get_or-drop}
use Rattle.std.proofs.Math.Option.{some}
use mathlib.Core.List.{List, [], ◌∷◌}
use Rattle.std.proofs.Math.ListN.{length, take, length-map}
use Rattle.octets.specs.le.Le.{Bytes}
use Rattle.segment.specs.chain.Chain.{All}
use Rattle.segment.specs.chain.Laws.{afters}
use Rattle.segment.proofs.chain.Walk.{walk_at}
use Rattle.segment.specs.Header.{Link, start, reader, link_at, whole, kind_at}
use Rattle.segment.specs.Laws.{link_front}
use Rattle.segment.proofs.Laws.{segment_format, LinkRead, lies}
use Rattle.segment.specs.Step.{whole_at}
use Rattle.segment.proofs.StepLaws.{whole_link}
use Rattle.segment.specs.Chained.{offsets_of}
use Rattle.segment.proofs.Chained.{link_place}
use Rattle.segment.specs.Search.{Placed}
use Rattle.manifest.specs.Payload.{state_held, states_held, states_in, manifest_payload, confirmed}
use Rattle.manifest.specs.At.{Inside, payload_at}
use Rattle.manifest.proofs.Lying.{Lying, lying_inside, payload_lying, chain_lying}
use Rattle.confirm.specs.states.At.{state_of, states_held_at, payload_in, states_read_at, verdict, confirmed_at}

-- the type that stands in a link's header
lying_kind : (f : List ℕ) (l : Link) → Lying f l → kind_at f l.offset ≡ l.kind
unfolding link_front
lying_kind f l h =
    let y : LinkRead h.state (drop l.offset f) l = lies h.state (drop l.offset f) l h.reads in
    sym (ap (λ (l : Link). l.kind) y.link_is ∙ get_or-drop l.offset f 0x05 0)

pub states_lying : (f : List ℕ) (ls : List Link) (ss : List ℕ) → All (Lying f) ls → states_held_at f (offsets_of ls) ss ≡ states_held ls ss
unfolding states_held_at states_held state_held state_of All
states_lying f [] ss h = refl
states_lying f (l ∷ ls) [] h = refl
states_lying f (l ∷ ls) (s ∷ ss) h =
    ap (λ (k : ℕ). state_of k s && states_held_at f (offsets_of ls) ss) (lying_kind f l h.0) ∙ ap (λ (t : Bool). state_held l s && t) (states_lying f ls ss h.1)

module _ (f : List ℕ) (at : ℕ) (b : List Link) (l : Link) (z : List Link) (p : Placed f at b l z) where
  -- the links before it stand in the file
  pub before_lying : All (Lying f) b
  before_lying = chain_lying f b (l ∷ z) p.split

  pub before_inside : Inside f (offsets_of b)
  before_inside = lying_inside f b before_lying

  reads : link_at (afters reader start b) (drop at f) ≡ some l
  reads = subst (λ (n : ℕ). link_at (afters reader start b) (drop n f) ≡ some l) p.place (walk_at reader segment_format start b z l f p.split)

  payload_is : payload_in f at (length l.payload) ≡ l.payload
  unfolding link_front
  payload_is =
      let y : LinkRead (afters reader start b) (drop at f) l = lies (afters reader start b) (drop at f) l reads in
      sym (ap (λ (l : Link). l.payload) y.link_is ∙ ap (λ (n : ℕ). take n (drop 64 (drop at f))) (sym y.length_is) ∙ ap (take (length l.payload)) (drop-drop 64 at f))

  pub confirmed_at_is : (os : List ℕ) → Bytes f → offsets_of b ≡ os → confirmed_at f os at (length l.payload) l.kind l.id ≡ confirmed b l
  unfolding confirmed_at confirmed
  confirmed_at_is os t e =
      let n : length os ≡ length b = ap length (sym e) ∙ length-map b (λ l. l.offset) in
      let len : ℕ = length l.payload in
      let ss : List ℕ = states_in (length b) (drop 8 l.payload) in
      let s : states_read_at f os at (length l.payload) ≡ states_in (length b) (drop 8 l.payload) =
      ap (λ (c : ℕ). states_in c (drop 8 (payload_in f at (length l.payload)))) n ∙ ap (λ (x : List ℕ). states_in (length b) (drop 8 x)) payload_is in
      let held : states_held_at f os (states_read_at f os at (length l.payload)) ≡ states_held b (states_in (length b) (drop 8 l.payload)) =
      ap (states_held_at f os) s ∙ ap (λ (x : List ℕ). states_held_at f x (states_in (length b) (drop 8 l.payload))) (sym e)
      ∙ states_lying f b (states_in (length b) (drop 8 l.payload)) before_lying in
      let wanted : payload_at f os (states_read_at f os at (length l.payload)) at l.id
      ≡ manifest_payload b (states_in (length b) (drop 8 l.payload)) l.offset l.id =
      ap (λ (x : List ℕ). payload_at f os x at l.id) s
      ∙ ap (λ (x : List ℕ). payload_at f x (states_in (length b) (drop 8 l.payload)) at l.id) (sym e)
      ∙ payload_lying f b (states_in (length b) (drop 8 l.payload)) at l.id t before_lying
      ∙ ap (λ (o : ℕ). manifest_payload b (states_in (length b) (drop 8 l.payload)) o l.id) (sym (link_place f b z l p.split ∙ p.place)) in
      ap (λ (c : ℕ). verdict l.kind c (whole_at f at (length l.payload)) (states_held_at f os (states_read_at f os at (length l.payload)))
      (payload_in f at (length l.payload)) (payload_at f os (states_read_at f os at (length l.payload)) at l.id)) n
      ∙ ap (λ (w : Bool). verdict l.kind (length b) w (states_held_at f os (states_read_at f os at (length l.payload)))
      (payload_in f at (length l.payload)) (payload_at f os (states_read_at f os at (length l.payload)) at l.id))
      (sym (whole_link f (afters reader start b) at l reads))
      ∙ ap (λ (h : Bool). verdict l.kind (length b) (whole l) h (payload_in f at (length l.payload)) (payload_at f os (states_read_at f os at (length l.payload)) at l.id)) held
      ∙ ap (λ (x : List ℕ). verdict l.kind (length b) (whole l) (states_held b (states_in (length b) (drop 8 l.payload))) x
      (payload_at f os (states_read_at f os at (length l.payload)) at l.id)) payload_is
      ∙ ap (verdict l.kind (length b) (whole l) (states_held b (states_in (length b) (drop 8 l.payload))) l.payload) wanted
