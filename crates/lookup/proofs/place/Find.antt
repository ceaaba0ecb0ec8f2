-- Where the search for a segment's id stands, and what it has found.
-- Assumes nothing.
use Rattle.std.specs.Prelude.{ℕ, suc, ◌+◌, ◌≤◌, ◌<◌, ◌≡◌, refl, true, false, List, drop, Result, Ok, Err}
use Rattle.std.proofs.Math.Path.{sym, ap}
use Rattle.std.proofs.Common.{subst, ◌∙◌, arith, add-one}
use Rattle.std.proofs.Math.Option.{some, some-injective}
use Rattle.std.proofs.Math.ListN.{length, get_or}
use Rattle.opening.specs.FileManifest.{manifest_of}
use Rattle.opening.proofs.FileManifestLaws.{refused_alike}
use Rattle.segment.specs.chain.Chain.{Found}
use Rattle.segment.specs.Header.{Link, type_reserved, whole, no_link, id_at, kind_at, length_at}
use Rattle.segment.specs.Step.{whole_at}
use Rattle.segment.specs.index.Offsets.{link_no}
use Rattle.segment.specs.index.Numbered.{Numbered}
use Rattle.manifest.specs.Opening.{opened, states, opened_case}
use Rattle.manifest.proofs.OpeningLaws.{at_within}
use Rattle.opening.specs.Indexed.{ManifestAt}
use Rattle.opening.proofs.Indexed.{EntryAt}
use Rattle.reading.specs.Live.{live_of, live, with_id}
use Rattle.reading.proofs.LiveLaws.{with_retired, with_other, with_here, with_none}
use Rattle.reading.specs.Answers.{NotHanded, part_found, part_in}
use Rattle.reading.specs.declared.PayloadPlace.{PayloadPlace}
use Rattle.reading.specs.Part.{place_of}
use Rattle.reading.proofs.PartLaws.{part_missing, part_reserved, part_torn, part_handed}
use Rattle.manifest.specs.Payload.{state_place}

-- a place by its two numbers
abbrev ok : ℕ → ℕ → Result PayloadPlace ℕ
ok start len = Ok (record { start = start; length = len })

-- the first i entries are passed
pub record FindAt (f : List ℕ) (id count i : ℕ) : Type 0 where
  pub at_most : i ≤ count
  pub same : (r : Found Link) → opened f ≡ some r → with_id id (live_of (drop i r.before) (drop i (states r))) ≡ with_id id (live r)

pub find_first : (f : List ℕ) (id count : ℕ) → FindAt f id count 0
unfolding live
find_first f id count = record { at_most = omega arith; same = λ r e. refl }

module _ (f : List ℕ) (id offset count : ℕ) (m : ManifestAt f offset count) where
  abbrev r : Found Link
  r = m.found

  part-is : part_in f id ≡ part_found id (some r)
  unfolding part_in
  part-is = at_within (NotHanded 1) (part_found id) f m.within ∙ ap (part_found id) m.opens

  pub find_last : (i : ℕ) → FindAt f id count i → count ≤ i → Err 3 ≡ place_of (part_in f id)
  unfolding place_of
  find_last i st h =
      ap place_of
      (sym (part-is ∙ part_missing id r (sym (st.same r m.opens) ∙ with_none id r.before (states r) i (omega (arith, m.count_is)))))

  module _ (i : ℕ) (offsets : List ℕ) (st : FindAt f id count i) (h : i < count) (a : EntryAt f offsets r offset i) (p : ℕ) (p-is : p ≡ get_or offsets i 0) where
    -- the link begins at p
    numbered : Numbered f p i (link_no f i)
    numbered = subst (λ (x : ℕ). Numbered f x i (link_no f i)) (sym p-is) a.numbered

    inside : i < length r.before
    inside = omega (arith, m.count_is)

    on : with_id id (live_of (drop i r.before) (drop i (states r))) ≡ with_id id (live_of (drop (suc i) r.before) (drop (suc i) (states r))) → FindAt f id count (i + 1)
    on e =
        record {
          at_most = omega arith;
          same = λ r' q.
              subst (λ (x : Found Link). with_id id (live_of (drop (i + 1) x.before) (drop (i + 1) (states x))) ≡ with_id id (live x)) (some-injective _ _ (sym m.opens ∙ q))
              (ap (λ (n : ℕ). with_id id (live_of (drop n r.before) (drop n (states r)))) (add-one i) ∙ sym e ∙ st.same r m.opens);
        }

    id_is : (get_or r.before i no_link).id ≡ id_at f (p)
    id_is = ap (λ (l : Link). l.id) a.link_is ∙ numbered.id_is

    pub find_other : (x : ℕ) → x ≡ id_at f (p) → (x ≡ id → ⊥) → FindAt f id count (i + 1)
    find_other x e n = on (with_other r.before (states r) i inside id (λ q. n (e ∙ sym id_is ∙ q)))

    pub find_retired : (get_or f (state_place offset i) 0 ≡ 0 → ⊥) → FindAt f id count (i + 1)
    find_retired n = on (with_retired r.before (states r) i inside id (λ z. n (sym a.state_is ∙ z)))

    module _ (x : ℕ) (e : x ≡ id_at f (p)) (q : x ≡ id) (z : get_or f (state_place offset i) 0 ≡ 0) where
      here : with_id id (live r) ≡ some (link_no f i)
      here =
          sym (st.same r m.opens) ∙ with_here r.before (states r) i inside id (a.state_is ∙ z) (id_is ∙ sym e ∙ q) ∙ ap some a.link_is

      kind_is : type_reserved (link_no f i).kind ≡ type_reserved (kind_at f (p))
      kind_is = ap type_reserved numbered.kind_is

      pub find_reserved : type_reserved (kind_at f (p)) ≡ true → Err 15 ≡ place_of (part_in f id)
      unfolding place_of
      find_reserved k = ap place_of (sym (part-is ∙ part_reserved id r (link_no f i) here (kind_is ∙ k)))

      -- n is the length that the code has read
      module _ (k : type_reserved (kind_at f (p)) ≡ false) (n : ℕ) (n-is : n ≡ length_at f (p)) where
        whole_is : whole (link_no f i) ≡ whole_at f (p) n
        whole_is = numbered.whole_is ∙ ap (whole_at f (p)) (numbered.length_is ∙ sym n-is)

        pub find_torn : whole_at f (p) n ≡ false → Err 4 ≡ place_of (part_in f id)
        unfolding place_of
        find_torn t = ap place_of (sym (part-is ∙ part_torn id r (link_no f i) here (kind_is ∙ k) (whole_is ∙ t)))

        pub find_whole : whole_at f (p) n ≡ true → Ok (record { start = p + 64; length = n }) ≡ place_of (part_in f id)
        unfolding place_of
        find_whole t =
            let handed = part-is ∙ part_handed id r (link_no f i) here (kind_is ∙ k) (whole_is ∙ t) in
            let o : (link_no f i).offset ≡ p = numbered.offset_is in
            let z : length (link_no f i).payload ≡ n = numbered.length_is ∙ sym n-is in
            sym (ap place_of handed ∙ ap (λ (y : ℕ). ok (y + 64) (length (link_no f i).payload)) o ∙ ap (ok (p + 64)) z)

-- ---- what opening refuses

pub place_refused : (f : List ℕ) (id n : ℕ) → manifest_of (opened_case f) ≡ Err n → Err n ≡ place_of (part_in f id)
unfolding part_in part_found place_of
place_refused f id n e = ap place_of (refused_alike NotHanded (part_found id) f n refl e)
