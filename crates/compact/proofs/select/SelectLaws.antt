-- Where the loop stands that selects the segments to be copied, and its ways out.
-- Assumes nothing.
use Rattle.std.specs.Prelude.{ℕ, ◌+◌, ◌≤◌, ◌<◌, ◌≡◌, refl, true, false, drop, set}
use Rattle.std.proofs.Math.Path.{sym, ap, ap₂}
use Rattle.std.proofs.Common.{subst, ◌∙◌, arith, add-one, drop-drop}
use Rattle.std.proofs.Math.Option.{some, some-injective}
use mathlib.Core.List.{List, [], ◌∷◌, ◌++◌}
use Rattle.std.proofs.Math.ListN.{length, take, get_or, length-append, length-set}
use Rattle.std.proofs.lemmas.List.{take-append-le}
use Rattle.std.proofs.Math.Seq.{take-suc-set, drop-set-lt}
use Rattle.octets.proofs.Parts.{same_at}
use Rattle.octets.specs.Round.{round64}
use Rattle.segment.specs.chain.Chain.{Found}
use Rattle.segment.specs.chain.Laws.{sizes}
use Rattle.segment.proofs.chain.Walk.{sizes_append}
use Rattle.segment.specs.Header.{Link, reader, size, whole, kind_at, length_at}
use Rattle.segment.specs.Step.{whole_at}
use Rattle.segment.specs.Chained.{chain, offsets_of}
use Rattle.segment.proofs.index.Offsets.{offsets_append}
use Rattle.manifest.specs.Payload.{manifest_kind, state_place}
use Rattle.manifest.specs.Opening.{opened}
use Rattle.opening.specs.Indexed.{ManifestAt, Indexed}
use Rattle.opening.proofs.Indexed.{EntryAt, entry_at}
use Rattle.octets.specs.le.Le.{Bytes}
use Rattle.segment.specs.index.Offsets.{most}
use Rattle.reading.specs.Live.{live_of}
use Rattle.compacting.specs.Compact.{without_manifests, copied, damaged}
use Rattle.std.specs.Prelude.{Ok, Err}
use Rattle.compact.specs.select.Selected.{copied_of, selected_of}
use Rattle.compact.proofs.select.Passed.{copied_of_found, l, damaged_append, damaged_stays, passed, passed_all, behind, passed_split, passed_retired, passed_manifest, passed_here, places}

-- ---- where the loop stands

-- i entries are passed, n of them selected, which take `end` bytes; the offsets from i on are the old ones
pub record SelectAt (r : Found Link) (os₀ os : List ℕ) (i n end : ℕ) : Type 0 where
  pub at_most : i ≤ length r.before
  pub few : n ≤ i
  pub many : length os ≡ length os₀
  pub rest : drop i os ≡ drop i os₀
  pub count_is : length (passed r i) ≡ n
  pub all_whole : damaged (passed r i) ≡ 0
  pub stored : take n os ≡ offsets_of (passed r i)
  pub end_is : sizes reader (passed r i) ≡ end
  pub low : end ≤ sizes reader (take i r.before)

-- of whatever opening finds
abbrev pub Selecting : List ℕ → List ℕ → List ℕ → ℕ → ℕ → ℕ → Type 0
Selecting f os₀ os i n end = (r : Found Link) → opened f ≡ some r → SelectAt r os₀ os i n end

pub select_first : (f os : List ℕ) → Selecting f os os 0 0 0
unfolding live_of without_manifests damaged sizes
select_first f os r q =
    record { at_most = omega arith; few = omega arith; many = refl; rest = refl; count_is = refl; all_whole = refl; stored = refl; end_is = refl; low = omega arith }

module _ (f : List ℕ) (offset count : ℕ) (m : ManifestAt f offset count) where
  abbrev r : Found Link
  r = m.found

  found-only : (P : Found Link → Type 0) → P m.found → (x : Found Link) → opened f ≡ some x → P x
  found-only P p x q = subst P (some-injective _ _ (sym m.opens ∙ q)) p

  copied_is : copied_of (opened f) ≡ copied m.found
  copied_is = copied_of_found f r m.opens

  module _ (os₀ os : List ℕ) (i n end : ℕ) (w : Selecting f os₀ os i n end) where
    abbrev st : SelectAt m.found os₀ os i n end
    st = w m.found m.opens

    -- every entry is passed
    pub select_last : count ≤ i → (Ok (record { count = n; end = end }) ≡ selected_of (copied_of (opened f)))
        × (damaged (copied_of (opened f)) ≡ 0 → take (length (copied_of (opened f))) os ≡ offsets_of (copied_of (opened f)))
    unfolding selected_of
    select_last h =
        let e : passed m.found i ≡ copied_of (opened f) = passed_all m.found i (omega (arith, m.count_is)) ∙ sym copied_is in
        let c : n ≡ length (copied_of (opened f)) = sym st.count_is ∙ ap length e in
        let d : damaged (copied_of (opened f)) ≡ 0 = ap damaged (sym e) ∙ st.all_whole in
        let s : end ≡ sizes reader (copied_of (opened f)) = sym st.end_is ∙ ap (sizes reader) e in (
          rw (c, s, d),
          λ z. ap (λ (k : ℕ). take k os) (sym c) ∙ st.stored ∙ ap offsets_of e,
        )

    module _ (h : i < count) where
      inside : i < length r.before
      inside = omega (arith, m.count_is)

      here : get_or os i 0 ≡ get_or os₀ i 0
      here = same_at os os₀ i st.rest

      -- the entry is the same by the list that was changed
      pub select_entry : EntryAt f os₀ r offset i → EntryAt f os r offset i
      select_entry a =
          record {
            stored = omega (arith, a.stored, st.many);
            at_most = a.at_most;
            link_is = a.link_is;
            numbered = rw here a.numbered;
            state_is = a.state_is;
            state_room = a.state_room;
          }

      module _ (a : EntryAt f os r offset i) where
        rest_more : drop (i + 1) os ≡ drop (i + 1) os₀
        rest_more = sym (drop-drop 1 i os) ∙ ap (drop 1) st.rest ∙ drop-drop 1 i os₀

        -- the links passed lie before it
        pub select_low : end ≤ get_or os i 0
        select_low =
            let t : take i (chain f) ≡ take i r.before =
            ap (take i) m.stands.split ∙ take-append-le i r.before (r.link ∷ m.stands.rest) (omega (arith, inside)) in
            omega (arith, st.low, ap (sizes reader) t, a.numbered.placed.place)

        skip : passed r (i + 1) ≡ passed r i → Selecting f os₀ os (i + 1) n end
        skip e =
            found-only (λ x. SelectAt x os₀ os (i + 1) n end)
            (record {
              at_most = omega (arith, inside);
              few = omega (arith, st.few);
              many = st.many;
              rest = rest_more;
              count_is = ap length e ∙ st.count_is;
              all_whole = ap damaged e ∙ st.all_whole;
              stored = st.stored ∙ ap offsets_of (sym e);
              end_is = ap (sizes reader) e ∙ st.end_is;
              low = omega (arith, st.low, places r i inside);
            })

        pub select_retired : (get_or f (state_place offset i) 0 ≡ 0 → ⊥) → Selecting f os₀ os (i + 1) n end
        select_retired z = skip (passed_retired r i inside (λ q. z (sym a.state_is ∙ q)))

        module _ (z : get_or f (state_place offset i) 0 ≡ 0) where
          kind_is : (l r i inside).kind ≡ kind_at f (get_or os i 0)
          kind_is = ap (λ (x : Link). x.kind) a.link_is ∙ a.numbered.kind_is

          pub select_manifest : kind_at f (get_or os i 0) ≡ manifest_kind → Selecting f os₀ os (i + 1) n end
          select_manifest k = skip (passed_manifest r i inside (a.state_is ∙ z) (kind_is ∙ k))

          -- the length that the code has read
          module _ (k : kind_at f (get_or os i 0) ≡ manifest_kind → ⊥) (len : ℕ) (len_is : len ≡ length_at f (get_or os i 0)) where
            picked : passed r (i + 1) ≡ passed r i ++ l r i inside ∷ []
            picked = passed_here r i inside (a.state_is ∙ z) (λ q. k (sym kind_is ∙ q))

            whole_is : whole (l r i inside) ≡ whole_at f (get_or os i 0) len
            whole_is = ap whole a.link_is ∙ a.numbered.whole_is ∙ ap (whole_at f (get_or os i 0)) (a.numbered.length_is ∙ sym len_is)

            pub select_damaged : whole_at f (get_or os i 0) len ≡ false → (Err 4 ≡ selected_of (copied_of (opened f)))
                × (damaged (copied_of (opened f)) ≡ 0 → take (length (copied_of (opened f))) os ≡ offsets_of (copied_of (opened f)))
            unfolding selected_of damaged
            select_damaged t =
                let four : damaged (passed r (i + 1)) ≡ 4 = ap damaged picked ∙ damaged_append (passed r i) (l r i inside ∷ []) st.all_whole ∙ rw (whole_is ∙ t) in
                let d : damaged (copied_of (opened f)) ≡ 4 = ap damaged (copied_is ∙ passed_split r (i + 1)) ∙ damaged_stays (passed r (i + 1)) (behind r (i + 1)) four in
                (rw d, λ q. absurd (omega arith))

            pub select_next : whole_at f (get_or os i 0) len ≡ true → (size' : ℕ) → size' ≡ 64 + round64 len
                → Selecting f os₀ (set os n (get_or os i 0)) (i + 1) (n + 1) (end + size')
            unfolding damaged sizes size
            select_next t size' e =
                let o : (l r i inside).offset ≡ get_or os i 0 = ap (λ (x : Link). x.offset) a.link_is ∙ a.numbered.offset_is in
                let g : length (l r i inside).payload ≡ len = ap (λ (x : Link). length x.payload) a.link_is ∙ a.numbered.length_is ∙ sym len_is in
                let s : size (l r i inside) ≡ size' = ap (λ (k : ℕ). 64 + round64 k) g ∙ sym e in
                found-only (λ x. SelectAt x os₀ (set os n (get_or os i 0)) (i + 1) (n + 1) (end + size'))
                (record {
                  at_most = omega (arith, inside);
                  few = omega (arith, st.few);
                  many = length-set os n (get_or os i 0) ∙ st.many;
                  rest = drop-set-lt (i + 1) os n (get_or os i 0) (omega (arith, st.few)) ∙ rest_more;
                  count_is = ap length picked ∙ length-append (passed r i) (l r i inside ∷ []) ∙ ap (λ (k : ℕ). k + 1) st.count_is;
                  all_whole = ap damaged picked ∙ damaged_append (passed r i) (l r i inside ∷ []) st.all_whole ∙ rw (whole_is ∙ t);
                  stored =
                      ap (λ (k : ℕ). take k (set os n (get_or os i 0))) (add-one n)
                      ∙ take-suc-set os n (get_or os i 0) (omega (arith, st.few, a.stored))
                      ∙ ap₂ (λ (xs : List ℕ) (p : ℕ). xs ++ p ∷ []) st.stored (sym o)
                      ∙ sym (ap offsets_of picked ∙ offsets_append (passed r i) (l r i inside ∷ []));
                  end_is = ap (sizes reader) picked ∙ sizes_append reader (passed r i) (l r i inside ∷ []) ∙ omega (arith, st.end_is, s);
                  low = omega (arith, st.low, places r i inside, s);
                })

-- the entry that is looked at, whose offset stands in the list yet
pub selecting_entry : (f : List ℕ) (offset count : ℕ) (m : ManifestAt f offset count) (os₀ os : List ℕ) → Bytes f → Indexed f os₀ → most ≤ length os₀
    → (i n end : ℕ) → Selecting f os₀ os i n end → i < count → EntryAt f os m.found offset i
selecting_entry f offset count m os₀ os t s room i n end w h =
    select_entry f offset count m os₀ os i n end w h (entry_at f os₀ offset count t s room m i h)
