-- Segments copied one behind the other: how long they are and where they stand, and where the loop stands that copies them.
-- Assumes nothing.
use Rattle.std.specs.Prelude.{ℕ, zero, suc, ◌+◌, ◌≤◌, ◌<◌, ◌≡◌, refl, List, [], ◌∷◌, ◌++◌, drop, get_or}
use Rattle.std.proofs.Common.{sym, ◌∙◌, append_assoc, append-nil, arith, add-zero, zero-add, add-one, length-append, length-drop, take-append-drop, drop_of_length-le, take-suc, length-take-le}
use Rattle.std.proofs.Math.Path.{ap}
use Rattle.std.proofs.Math.ListN.{length, take, set, length-set}
use Rattle.std.proofs.Math.Seq.{take-length}
use Rattle.octets.specs.Over.{over}
use Rattle.octets.proofs.OverLaws.{over_none, over_then, over_front, over_behind, length_over}
use Rattle.octets.proofs.Parts.{same_at}
use Rattle.manifest.specs.At.{Inside}
use Rattle.compact.specs.copies.Copies.{size_in, Standing, copy_at, copies_at, places_at}

-- ---- lengths and places

pub copy_length : (f : List ℕ) (o : ℕ) → o + size_in f o ≤ length f → length (copy_at f o) ≡ size_in f o
unfolding copy_at
copy_length f o h = length-take-le (size_in f o) (drop o f) (omega (arith, length-drop o f))

copies_append : (f xs ys : List ℕ) → copies_at f (xs ++ ys) ≡ copies_at f xs ++ copies_at f ys
unfolding copies_at
copies_append f [] ys = refl
copies_append f (x ∷ xs) ys = ap (λ (l : List ℕ). copy_at f x ++ l) (copies_append f xs ys) ∙ sym (append_assoc (copy_at f x) (copies_at f xs) (copies_at f ys))

copies_more : (f os : List ℕ) (o : ℕ) → copies_at f (os ++ o ∷ []) ≡ copies_at f os ++ copy_at f o
unfolding copies_at
copies_more f os o = copies_append f os (o ∷ []) ∙ ap (λ (l : List ℕ). copies_at f os ++ l) (append-nil (copy_at f o))

places_more : (f : List ℕ) (at : ℕ) (os : List ℕ) (o : ℕ) → places_at f at (os ++ o ∷ []) ≡ places_at f at os ++ ((at + length (copies_at f os)) ∷ [])
unfolding places_at copies_at
places_more f at [] o = ap (λ (n : ℕ). n ∷ []) (sym (add-zero at))
places_more f at (x ∷ xs) o =
    let e : at + length (copy_at f x) + length (copies_at f xs) ≡ at + length (copy_at f x ++ copies_at f xs) = omega (arith, length-append (copy_at f x) (copies_at f xs)) in
    ap (λ (l : List ℕ). at ∷ l)
    (places_more f (at + length (copy_at f x)) xs o ∙ ap (λ (n : ℕ). places_at f (at + length (copy_at f x)) xs ++ n ∷ []) e)

pub places_length : (f : List ℕ) (at : ℕ) (os : List ℕ) → length (places_at f at os) ≡ length os
unfolding places_at
places_length f at [] = refl
places_length f at (o ∷ os) = ap suc (places_length f (at + length (copy_at f o)) os)

pub standing_tail : (f : List ℕ) (o : ℕ) (os : List ℕ) → Standing f (o ∷ os) → Standing f os
standing_tail f o os h i k = h (suc i) (omega arith)

-- each has its header among the copies
inside_from : (f : List ℕ) (at : ℕ) (os : List ℕ) → Standing f os → (i : ℕ) → i < length (places_at f at os)
    → get_or (places_at f at os) i 0 + 64 ≤ at + length (copies_at f os)
unfolding places_at copies_at
inside_from f at [] h i k = absurd (omega arith)
inside_from f at (o ∷ os) h zero k =
    omega (arith, copy_length f o (h 0 (omega arith)), length-append (copy_at f o) (copies_at f os))
inside_from f at (o ∷ os) h (suc i) k =
    omega (arith, inside_from f (at + length (copy_at f o)) os (standing_tail f o os h) i (omega arith), length-append (copy_at f o) (copies_at f os))

pub places_inside : (f os : List ℕ) → Standing f os → Inside (copies_at f os) (places_at f 0 os)
places_inside f os h i k = omega (arith, inside_from f 0 os h i k)

-- ---- where the loop stands that copies: i segments are copied, and their places stored

pub record CopyAt (f buf₀ buf os₀ os : List ℕ) (at i : ℕ) : Type 0 where
  pub at_most : i ≤ length os₀
  pub at_is : length (copies_at f (take i os₀)) ≡ at
  pub same_length : length buf ≡ length buf₀
  pub laid : buf ≡ over buf₀ 0 (copies_at f (take i os₀))
  pub many : length os ≡ length os₀
  pub stored : os ≡ over os₀ 0 (places_at f 0 (take i os₀))

pub copy_first : (f buf os : List ℕ) → CopyAt f buf buf os os 0 0
unfolding copies_at places_at
copy_first f buf os = record { at_most = omega arith; at_is = refl; same_length = refl; laid = sym (over_none buf 0); many = refl; stored = sym (over_none os 0) }

module _ (f buf₀ buf os₀ os : List ℕ) (at i : ℕ) (st : CopyAt f buf₀ buf os₀ os at i) (h : i < length os₀) (whole : Standing f os₀)
    (room : length (copies_at f os₀) ≤ length buf₀) where
  abbrev o : ℕ
  o = get_or os₀ i 0

  placed : length (places_at f 0 (take i os₀)) ≡ i
  placed = places_length f 0 (take i os₀) ∙ length-take-le i os₀ (omega arith)

  -- the offset that is read is still the old one
  pub copy_here : get_or os i 0 ≡ get_or os₀ i 0
  copy_here =
      let n : 0 + length (places_at f 0 (take i os₀)) ≡ i = omega (arith, placed) in
      same_at os os₀ i
      (ap (λ (k : ℕ). drop k os) (sym n)
      ∙ ap (drop (0 + length (places_at f 0 (take i os₀)))) st.stored
      ∙ over_behind os₀ 0 (places_at f 0 (take i os₀)) (omega arith)
      ∙ ap (λ (k : ℕ). drop k os₀) n)

  pub copy_inside : get_or os i 0 + size_in f (get_or os i 0) ≤ length f
  copy_inside = rw copy_here (whole i h)

  more : take (i + 1) os₀ ≡ take i os₀ ++ o ∷ []
  more = ap (λ (n : ℕ). take n os₀) (add-one i) ∙ take-suc os₀ i 0 h

  copies : copies_at f (take (i + 1) os₀) ≡ copies_at f (take i os₀) ++ copy_at f o
  copies = ap (copies_at f) more ∙ copies_more f (take i os₀) o

  long : length (copies_at f (take (i + 1) os₀)) ≡ at + size_in f o
  long = ap length copies ∙ length-append (copies_at f (take i os₀)) (copy_at f o) ∙ omega (arith, st.at_is, copy_length f o (whole i h))

  pub copy_room : at + size_in f (get_or os i 0) ≤ length buf
  copy_room =
      let e : length (copies_at f os₀) ≡ length (copies_at f (take (i + 1) os₀)) + length (copies_at f (drop (i + 1) os₀)) =
      ap (λ (l : List ℕ). length (copies_at f l)) (sym (take-append-drop (i + 1) os₀)) ∙ ap length (copies_append f (take (i + 1) os₀) (drop (i + 1) os₀))
      ∙ length-append (copies_at f (take (i + 1) os₀)) (copies_at f (drop (i + 1) os₀)) in
      rw copy_here (omega (arith, long, st.same_length))

  pub copy_next : (size : ℕ) (buf' : List ℕ) → size ≡ size_in f (get_or os i 0) → buf' ≡ over buf at (take size (drop (get_or os i 0) f))
      → CopyAt f buf₀ buf' os₀ (set os i at) (at + size) (i + 1)
  unfolding copy_at
  copy_next size buf' e p =
      let s : size ≡ size_in f o = e ∙ ap (size_in f) copy_here in
      let r : at + size_in f o ≤ length buf = rw copy_here at copy_room in
      let c : take size (drop (get_or os i 0) f) ≡ copy_at f o = rw (copy_here, s) in
      let laid : buf' ≡ over buf₀ 0 (copies_at f (take (i + 1) os₀)) =
      p ∙ ap (over buf at) c ∙ ap (λ (n : ℕ). over buf n (copy_at f o)) (sym (zero-add at))
      ∙ over_then buf₀ buf 0 (copies_at f (take i os₀)) (copy_at f o) at st.laid st.at_is (omega (arith, st.same_length)) ∙ ap (over buf₀ 0) (sym copies) in
      let stored : set os i at ≡ over os₀ 0 (places_at f 0 (take (i + 1) os₀)) =
      over_front os₀ os (places_at f 0 (take i os₀)) i at st.stored placed (omega arith)
      ∙ ap (λ (n : ℕ). over os₀ 0 (places_at f 0 (take i os₀) ++ n ∷ [])) (sym (zero-add at) ∙ ap (λ (n : ℕ). 0 + n) (sym st.at_is))
      ∙ ap (over os₀ 0) (sym (ap (places_at f 0) more ∙ places_more f 0 (take i os₀) o)) in
      record {
        at_most = omega arith;
        at_is = long ∙ omega arith;
        same_length = ap length p ∙ length_over buf at (take size (drop (get_or os i 0) f)) (omega (arith, ap length c, copy_length f o (whole i h))) ∙ st.same_length;
        laid = laid;
        many = length-set os i at ∙ st.many;
        stored = stored;
      }

pub copy_last : (f buf₀ buf os₀ os : List ℕ) (at i : ℕ) → CopyAt f buf₀ buf os₀ os at i → length os₀ ≤ i
    → (buf ≡ over buf₀ 0 (copies_at f os₀)) × (os ≡ places_at f 0 os₀)
unfolding over
copy_last f buf₀ buf os₀ os at i st h =
    let e : i ≡ length os₀ = omega (arith, st.at_most) in
    let t : take i os₀ ≡ os₀ = ap (λ (n : ℕ). take n os₀) e ∙ take-length os₀ in
    let d : drop (0 + length (places_at f 0 os₀)) os₀ ≡ [] = drop_of_length-le os₀ {i = 0 + length (places_at f 0 os₀)} (omega (arith, places_length f 0 os₀)) in (
      st.laid ∙ ap (λ (l : List ℕ). over buf₀ 0 (copies_at f l)) t,
      st.stored ∙ ap (λ (l : List ℕ). over os₀ 0 (places_at f 0 l)) t ∙ ap (λ (l : List ℕ). places_at f 0 os₀ ++ l) d ∙ append-nil (places_at f 0 os₀),
    )
