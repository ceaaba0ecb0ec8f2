-- The laws of specs/in_segment/Located.antt.
-- Assumes nothing.
use Rattle.std.specs.Prelude.{ℕ, suc, ◌+◌, ◌-◌, ◌≤◌, ◌<◌, Bool, true, false, eqb, length, take, drop, get_or, Result, Ok, Err, Some, None, is_some}
use Rattle.std.specs.Prelude.{Option as Maybe}
use Rattle.std.proofs.Math.Path.{◌≡◌, refl, sym, ap, subst}
use Rattle.std.proofs.Common.{◌∙◌, arith}
use Rattle.std.proofs.Math.Bool.{cond}
use Rattle.std.proofs.Math.Option.{Option, none, some, some-injective}
use mathlib.Core.List.{List}
use Rattle.crc32c.specs.Crc.{crc_of}
use Rattle.opening.specs.FileManifest.{manifest_of}
use Rattle.opening.proofs.FileManifestLaws.{refused_alike}
use Rattle.segment.specs.chain.Chain.{Found}
use Rattle.segment.specs.Header.{Link, whole, kind_at, length_at}
use Rattle.segment.specs.Step.{whole_at}
use Rattle.segment.proofs.StepLaws.{payload_part}
use Rattle.segment.specs.index.Offsets.{link_no}
use Rattle.segment.specs.index.Numbered.{Numbered}
use Rattle.manifest.specs.Opening.{opened, states, opened_case}
use Rattle.manifest.proofs.OpeningLaws.{at_within}
use Rattle.opening.specs.Indexed.{ManifestAt}
use Rattle.opening.proofs.Indexed.{EntryAt}
use Rattle.vecseg.specs.Payload.{vec_kind, check_of}
use Rattle.vecseg.specs.Find.{Place, find_in}
use Rattle.vec_read.specs.walk.Walk.{searched_at, searched_of}
use Rattle.vec_read.specs.declared.walk.Searched.{Searched}
use Rattle.vec_read.specs.declared.walk.Place.{Place as PlaceRead}
use Rattle.reading.specs.Live.{live_of, vectors_of, search_order}
use Rattle.reading.proofs.LiveLaws.{order_of, order_all, order_retired, order_other, order_here}
use Rattle.reading.specs.Answers.{Hit, Held, Missing, Bad, hit_of, hit_in_segment, or_else, search_in, hit_found, hit_in}
use Rattle.lookup.specs.declared.in_segment.Located.{Located}
use Rattle.manifest.specs.Payload.{state_place}
use Rattle.lookup.specs.in_segment.Located.{located_of, placed_in, segment_hit_at}

-- ---- an option by what it is not

pub was_some : {A : Type 0} (o : Maybe A) → is_some o ≡ true → ◌≡◌ {A = Result (Maybe A) ℕ} (Ok o) (Ok None) → ⊥
was_some None h e = let z : ◌≡◌ {A = ℕ} 0 1 = cc in omega arith
was_some (Some x) h e = let z : ◌≡◌ {A = ℕ} 0 1 = cc in omega arith

pub was_none : {A : Type 0} (o : Maybe A) → is_some o ≡ false → ◌≡◌ {A = Result (Maybe A) ℕ} (Ok o) (Ok None)
was_none None h = refl
was_none (Some x) h = absurd (let z : ◌≡◌ {A = ℕ} 0 1 = cc in omega arith)

pub not_some : {A : Type 0} (o : Maybe A) → ((x : A) → o ≡ Some x → ⊥) → o ≡ None
not_some None n = refl
not_some (Some x) n = absurd (n x refl)

-- ---- one segment

-- what the search of a payload answers, told of the file: the place in it, and the checksum that comes with it
unfoldable placed_at : ℕ → ℕ → Maybe PlaceRead → Maybe Located
placed_at body len None = None
placed_at body len (Some q) = Some (record { body = body; length = len; place = q })

unfoldable told_of : ℕ → ℕ → Result Searched ℕ → Result (Maybe Located) ℕ
told_of body len (Ok a) = Ok (placed_at body len a.place)
told_of body len (Err b) = Err b

unfoldable sum_or : ℕ → Result Searched ℕ → ℕ
sum_or other (Ok a) = a.sum
sum_or other (Err b) = other

told_case : (body len sum c : ℕ) (t : Bool) (o : Option Place) → told_of body len (cond t (Ok (searched_at sum o)) (Err c)) ≡ cond t (placed_in body len o) (Err c)
unfolding told_of placed_at searched_at placed_in
told_case body len sum c false o = refl
told_case body len sum c true none = refl
told_case body len sum c true (some w) = refl

sum_case : (sum c : ℕ) (t : Bool) (o : Option Place) → sum_or sum (cond t (Ok (searched_at sum o)) (Err c)) ≡ sum
unfolding sum_or searched_at
sum_case sum c false o = refl
sum_case sum c true none = refl
sum_case sum c true (some w) = refl

-- the ways out, where n is the length that the code has read
module _ (f : List ℕ) (p len id n : ℕ) (n-is : n ≡ len) where
  pub segment_torn : whole_at f p n ≡ false → Err 4 ≡ segment_hit_at f p len id
  unfolding segment_hit_at
  segment_torn h = rw (← n-is, h)

  -- the payload, as the code takes it out of the file, is searched before it is known to be whole
  abbrev s : List ℕ
  s = take (p + 64 + n - (p + 64)) (drop (p + 64) f)

  -- the checksum is that of the payload, whether the id is found in it or not
  pub sum_found : (a : Searched) → searched_of s id ≡ Ok a → a.sum ≡ crc_of (take n (drop (p + 64) f))
  unfolding searched_of sum_or
  sum_found a e =
      ap (sum_or (crc_of s)) (sym e) ∙ sum_case (crc_of s) (check_of s) (eqb (check_of s) 0) (find_in s id) ∙ ap crc_of (payload_part f p n)

  -- where the link is whole the answer is the search's
  module _ (h : whole_at f p n ≡ true) where
    told : (r : Result Searched ℕ) → searched_of s id ≡ r → told_of (p + 64) n r ≡ segment_hit_at f p len id
    unfolding searched_of segment_hit_at
    told r e =
        rw (← n-is, h)
        (ap (told_of (p + 64) n) (sym e) ∙ told_case (p + 64) n (crc_of s) (check_of s) (eqb (check_of s) 0) (find_in s id)
        ∙ ap (λ (x : List ℕ). cond (eqb (check_of x) 0) (placed_in (p + 64) n (find_in x id)) (Err (check_of x))) (payload_part f p n))

    pub segment_bad : (b : ℕ) → searched_of s id ≡ Err b → Err b ≡ segment_hit_at f p len id
    unfolding told_of
    segment_bad b e = told (Err b) e

    pub segment_missing : (a : Searched) → searched_of s id ≡ Ok a → a.place ≡ None → Ok None ≡ segment_hit_at f p len id
    unfolding told_of placed_at
    segment_missing a e q = ap (λ (x : Maybe PlaceRead). Ok (placed_at (p + 64) n x)) (sym q) ∙ told (Ok a) e

    pub segment_found : (a : Searched) (q : PlaceRead) → searched_of s id ≡ Ok a → a.place ≡ Some q
        → Ok (Some (record { body = p + 64; length = n; place = q })) ≡ segment_hit_at f p len id
    unfolding told_of placed_at
    segment_found a q e k = ap (λ (x : Maybe PlaceRead). Ok (placed_at (p + 64) n x)) (sym k) ∙ told (Ok a) e

-- of a link of the file
same_hit : (l : Link) (w t : Bool) (c : ℕ) (o : Option Place)
    → cond w (cond t (placed_in (l.offset + 64) (length l.payload) o) (Err c)) (Err 4) ≡ located_of (cond w (cond t (hit_of l o) (Bad c)) (Bad 4))
unfolding placed_in located_of hit_of
same_hit l false t c o = refl
same_hit l true false c o = refl
same_hit l true true c none = refl
same_hit l true true c (some p) = refl

segment_link : (f : List ℕ) (p i id : ℕ) (l : Link) → Numbered f p i l → segment_hit_at f p (length_at f p) id ≡ located_of (hit_in_segment id l)
unfolding segment_hit_at hit_in_segment
segment_link f p i id l m =
    ap (λ (n : ℕ). segment_hit_at f p n id) (sym m.length_is)
    ∙ ap (λ (x : List ℕ). cond (whole_at f p (length l.payload)) (cond (eqb (check_of x) 0) (placed_in (p + 64) (length l.payload) (find_in x id)) (Err (check_of x))) (Err 4))
    (sym m.payload_is)
    ∙ ap (λ (w : Bool). cond w (cond (eqb (check_of l.payload) 0) (placed_in (p + 64) (length l.payload) (find_in l.payload id)) (Err (check_of l.payload))) (Err 4))
    (sym m.whole_is)
    ∙ ap (λ (q : ℕ). cond (whole l) (cond (eqb (check_of l.payload) 0) (placed_in (q + 64) (length l.payload) (find_in l.payload id)) (Err (check_of l.payload))) (Err 4))
    (sym m.offset_is)
    ∙ same_hit l (whole l) (eqb (check_of l.payload) 0) (check_of l.payload) (find_in l.payload id)

-- ---- where the search stands: entries from i on are passed

pub record SegmentsPassed (f : List ℕ) (id count i : ℕ) : Type 0 where
  pub at_most : i ≤ count
  pub same : (r : Found Link) → opened f ≡ some r → search_in id (order_of (take i r.before) (states r)) ≡ search_in id (search_order r)

module _ (f : List ℕ) (id offset count : ℕ) (m : ManifestAt f offset count) where
  abbrev r : Found Link
  r = m.found

  -- the search is that of the directory
  hit-is : hit_in f id ≡ search_in id (search_order r)
  unfolding hit_in hit_found
  hit-is = at_within (Bad 1) (hit_found id) f m.within ∙ ap (hit_found id) m.opens

  same-found : (r' : Found Link) → opened f ≡ some r' → r ≡ r'
  same-found r' e = some-injective _ _ (sym m.opens ∙ e)

  pub search_first : SegmentsPassed f id count count
  search_first =
      record {
        at_most = omega arith;
        same = λ r' e.
            let c : count ≡ length r'.before = sym m.count_is ∙ ap (λ (x : Found Link). length x.before) (same-found r' e) in
            ap (λ (n : ℕ). search_in id (order_of (take n r'.before) (states r'))) c ∙ ap (search_in id) (order_all r');
      }

  pub search_last : (i : ℕ) → SegmentsPassed f id count i → i ≡ 0 → Ok None ≡ located_of (hit_in f id)
  unfolding order_of vectors_of live_of search_in located_of
  search_last i st z =
      let e : search_in id (order_of (take i r.before) (states r)) ≡ Missing = ap (λ (n : ℕ). search_in id (order_of (take n r.before) (states r))) z in
      ap located_of (sym e ∙ st.same r m.opens ∙ sym hit-is)

  module _ (i j : ℕ) (offsets : List ℕ) (st : SegmentsPassed f id count i) (next : i ≡ suc j) (a : EntryAt f offsets r offset j) (p : ℕ) (p-is : p ≡ get_or offsets j 0) where
    -- the link begins at p
    numbered : Numbered f p j (link_no f j)
    numbered = subst (λ (x : ℕ). Numbered f x j (link_no f j)) (sym p-is) a.numbered

    inside : j < length r.before
    inside = let at_most = st.at_most in omega (arith, m.count_is)

    on : order_of (take (suc j) r.before) (states r) ≡ order_of (take j r.before) (states r) → SegmentsPassed f id count j
    on e =
        record {
          at_most = let at_most = st.at_most in omega arith;
          same = λ r' q.
              subst (λ (x : Found Link). search_in id (order_of (take j x.before) (states x)) ≡ search_in id (search_order x)) (same-found r' q)
              (ap (search_in id) (sym e) ∙ ap (λ (n : ℕ). search_in id (order_of (take n r.before) (states r))) (sym next) ∙ st.same r m.opens);
        }

    pub search_retired : (get_or f (state_place offset j) 0 ≡ 0 → ⊥) → SegmentsPassed f id count j
    search_retired n = on (order_retired r.before (states r) j inside (λ z. n (sym a.state_is ∙ z)))

    pub search_other : (kind_at f (p) ≡ vec_kind → ⊥) → SegmentsPassed f id count j
    search_other n =
        on (order_other r.before (states r) j inside (λ z. n (sym numbered.kind_is ∙ ap (λ (l : Link). l.kind) (sym a.link_is) ∙ z)))

    module _ (live : get_or f (state_place offset j) 0 ≡ 0) (vec : kind_at f (p) ≡ vec_kind) where
      here : search_in id (order_of (take (suc j) r.before) (states r)) ≡ or_else (hit_in_segment id (link_no f j)) (search_in id (order_of (take j r.before) (states r)))
      unfolding search_in
      here =
          ap (search_in id) (order_here r.before (states r) j inside (a.state_is ∙ live) (ap (λ (l : Link). l.kind) a.link_is ∙ numbered.kind_is ∙ vec))
          ∙ ap (λ (l : Link). or_else (hit_in_segment id l) (search_in id (order_of (take j r.before) (states r)))) a.link_is

      whole-search : or_else (hit_in_segment id (link_no f j)) (search_in id (order_of (take j r.before) (states r))) ≡ search_in id (search_order r)
      whole-search = sym here ∙ ap (λ (n : ℕ). search_in id (order_of (take n r.before) (states r))) (sym next) ∙ st.same r m.opens

      looked : segment_hit_at f (p) (length_at f (p)) id ≡ located_of (hit_in_segment id (link_no f j))
      looked = segment_link f (p) j id (link_no f j) numbered

      pub search_on : segment_hit_at f (p) (length_at f (p)) id ≡ Ok None → SegmentsPassed f id count j
      unfolding or_else located_of
      search_on e = go (hit_in_segment id (link_no f j)) refl (sym looked ∙ e)
        where
          go : (h : Hit) → hit_in_segment id (link_no f j) ≡ h → located_of h ≡ Ok None → SegmentsPassed f id count j
          go (Held l w) q z = absurd (let y : ◌≡◌ {A = ℕ} 0 1 = cc in omega arith)
          go (Bad n) q z = absurd (let y : ◌≡◌ {A = ℕ} 0 1 = cc in omega arith)
          go Missing q z =
              record {
                at_most = let at_most = st.at_most in omega arith;
                same = λ r' e.
                    subst (λ (x : Found Link). search_in id (order_of (take j x.before) (states x)) ≡ search_in id (search_order x)) (same-found r' e)
                    (sym (ap (λ (h : Hit). or_else h (search_in id (order_of (take j r.before) (states r)))) q) ∙ whole-search);
              }

      pub search_stop : (o : Result (Maybe Located) ℕ) → segment_hit_at f (p) (length_at f (p)) id ≡ o → (o ≡ Ok None → ⊥) → o ≡ located_of (hit_in f id)
      unfolding or_else located_of
      search_stop o e n = sym e ∙ looked ∙ ap located_of (go (hit_in_segment id (link_no f j)) refl ∙ whole-search ∙ sym hit-is)
        where
          go : (h : Hit) → hit_in_segment id (link_no f j) ≡ h → h ≡ or_else h (search_in id (order_of (take j r.before) (states r)))
          go (Held l w) q = refl
          go (Bad k) q = refl
          go Missing q = absurd (n (sym e ∙ looked ∙ ap located_of q))

-- ---- what opening refuses

pub located_refused : (f : List ℕ) (id n : ℕ) → manifest_of (opened_case f) ≡ Err n → Err n ≡ located_of (hit_in f id)
unfolding hit_in hit_found located_of
located_refused f id n e = ap located_of (refused_alike Bad (hit_found id) f n refl e)
