-- Files whose copied segments are alike but for their places answer alike: vectors, components, and the payloads of these segments.
-- Assumes nothing.
use Rattle.std.specs.Prelude.{ℕ, ◌+◌, ◌≤◌, ◌<◌, ◌≡◌, Bool, true, false, cond, eqb, length}
use Rattle.std.proofs.Math.Path.{refl, sym, ap}
use Rattle.std.proofs.Common.{◌∙◌, arith, eqb-true, eq-eqb, ne_eqb}
use Rattle.std.proofs.Math.Option.{Option, none, some, some-injective}
use mathlib.Core.List.{List, [], ◌∷◌, ◌++◌, map-append, reverse, reverse-cons}
use Rattle.answers.specs.limits.Limits.{max_file}
use Rattle.segment.specs.chain.Chain.{All, Found}
use Rattle.segment.proofs.chain.Laws.{all_map}
use Rattle.segment.specs.Header.{Link, size, type_reserved, whole}
use Rattle.segment.proofs.Chained.{Rising}
use Rattle.manifest.specs.Payload.{manifest_kind}
use Rattle.manifest.specs.Opening.{opened}
use Rattle.manifest.proofs.OpeningLaws.{at_within}
use Rattle.vecseg.specs.Payload.{vec_kind, check_of}
use Rattle.vecseg.specs.Find.{Place, find_in}
use Rattle.reading.specs.Live.{live, vectors_of, search_order, with_id}
use Rattle.reading.proofs.Placed.{all_with}
use Rattle.reading.specs.Answers.{Handed, NotHanded, part_of, part_found, part_in}
use Rattle.reading.specs.Answers.{Hit, Held, Missing, Bad, hit_of, hit_in_segment, or_else, search_in, hit_found, hit_in, vector_hit, buffer_hit, vector_case, vector_after, value_hit, value_in}
use Rattle.compacting.specs.Compact.{is_manifest, without_manifests, copied, moved_to, moved_from}
use Rattle.compacting.proofs.Copied.{live_rising}
use Rattle.compacting.specs.Promise.{unplaced, without_place, SameAnswers}

pub unplaced_moved : (at : ℕ) (ls : List Link) → unplaced (moved_from at ls) ≡ unplaced ls
unfolding moved_from moved_to
unplaced_moved at [] = refl
unplaced_moved at (l ∷ ls) = ap (λ (xs : List Link). moved_to 0 l ∷ xs) (unplaced_moved (at + size l) ls)

-- ---- the search for a vector

-- of the copied segments those that hold vectors are all that do
vectors_without : (ls : List Link) → vectors_of (without_manifests ls) ≡ vectors_of ls
unfolding vectors_of without_manifests is_manifest
vectors_without [] = refl
vectors_without (l ∷ ls) = pick (is_manifest l) refl (vectors_without ls)
  where
    pick : (b : Bool) → is_manifest l ≡ b → vectors_of (without_manifests ls) ≡ vectors_of ls
        → vectors_of (cond b (without_manifests ls) (l ∷ without_manifests ls)) ≡ cond (eqb l.kind vec_kind) (l ∷ vectors_of ls) (vectors_of ls)
    pick true e ih =
        let k = eqb-true l.kind _ e in
        ih ∙ rw (ne_eqb l.kind vec_kind (λ q. omega arith))
    pick false e ih = rw ih

vectors_unplaced : (ls : List Link) → vectors_of (unplaced ls) ≡ unplaced (vectors_of ls)
unfolding vectors_of moved_to
vectors_unplaced [] = refl
vectors_unplaced (l ∷ ls) = rw (vectors_unplaced ls) (pick (eqb l.kind vec_kind))
  where
    pick : (b : Bool) → cond b (moved_to 0 l ∷ unplaced (vectors_of ls)) (unplaced (vectors_of ls)) ≡ unplaced (cond b (l ∷ vectors_of ls) (vectors_of ls))
    pick true = refl
    pick false = refl

reverse_unplaced : (ls : List Link) → unplaced (reverse ls) ≡ reverse (unplaced ls)
reverse_unplaced [] = refl
reverse_unplaced (l ∷ ls) =
    ap unplaced (reverse-cons l ls)
    ∙ map-append (moved_to 0) (reverse ls) (l ∷ [])
    ∙ ap (λ (xs : List Link). xs ++ moved_to 0 l ∷ []) (reverse_unplaced ls)
    ∙ sym (reverse-cons (moved_to 0 l) (unplaced ls))

order_unplaced : (r : Found Link) → unplaced (search_order r) ≡ reverse (vectors_of (unplaced (copied r)))
unfolding search_order copied
order_unplaced r =
    reverse_unplaced (vectors_of (live r))
    ∙ ap reverse (ap unplaced (sym (vectors_without (live r))) ∙ sym (vectors_unplaced (without_manifests (live r))))

-- a hit without its segment's place
unfoldable unplaced_hit : Hit → Hit
unplaced_hit (Held l p) = Held (moved_to 0 l) p
unplaced_hit Missing = Missing
unplaced_hit (Bad n) = Bad n

hit_unplaced : (id : ℕ) (l : Link) → hit_in_segment id (moved_to 0 l) ≡ unplaced_hit (hit_in_segment id l)
unfolding hit_in_segment hit_of whole moved_to unplaced_hit
hit_unplaced id l = pick (whole l) (eqb (check_of l.payload) 0) (find_in l.payload id)
  where
    pick : (t u : Bool) (o : Option Place)
        → cond t (cond u (hit_of (moved_to 0 l) o) (Bad (check_of l.payload))) (Bad 4) ≡ unplaced_hit (cond t (cond u (hit_of l o) (Bad (check_of l.payload))) (Bad 4))
    pick true true none = refl
    pick true true (some p) = refl
    pick true false o = refl
    pick false u o = refl

search_unplaced : (id : ℕ) (ls : List Link) → search_in id (unplaced ls) ≡ unplaced_hit (search_in id ls)
unfolding search_in or_else unplaced_hit
search_unplaced id [] = refl
search_unplaced id (l ∷ ls) = rw (hit_unplaced id l, search_unplaced id ls) (pick (hit_in_segment id l))
  where
    pick : (h : Hit) → or_else (unplaced_hit h) (unplaced_hit (search_in id ls)) ≡ unplaced_hit (or_else h (search_in id ls))
    pick (Held m p) = refl
    pick Missing = refl
    pick (Bad n) = refl

-- what is answered goes not by the place
vector_unplaced : (buf : List ℕ) (h : Hit) → vector_hit buf (unplaced_hit h) ≡ vector_hit buf h
unfolding vector_hit unplaced_hit moved_to
vector_unplaced buf (Held l p) = refl
vector_unplaced buf Missing = refl
vector_unplaced buf (Bad n) = refl

buffer_unplaced : (buf : List ℕ) (h : Hit) → buffer_hit buf (unplaced_hit h) ≡ buffer_hit buf h
unfolding buffer_hit unplaced_hit moved_to
buffer_unplaced buf (Held l p) = refl
buffer_unplaced buf Missing = refl
buffer_unplaced buf (Bad n) = refl

value_unplaced : (i : ℕ) (h : Hit) → value_hit i (unplaced_hit h) ≡ value_hit i h
unfolding value_hit unplaced_hit moved_to
value_unplaced i (Held l p) = refl
value_unplaced i Missing = refl
value_unplaced i (Bad n) = refl

-- ---- a payload

-- a copied segment is the live one with its id, since ids rise
least_id : (ls : List Link) (least : ℕ) → Rising least ls → All (λ l. least ≤ l.id) ls
unfolding Rising All
least_id [] least r = tt
least_id (l ∷ ls) least r =
    let low = r.0 in
    (low, all_map (λ m. l.id + 1 ≤ m.id) (λ m. least ≤ m.id) (λ m h. omega arith) ls (least_id ls (l.id + 1) r.1))

with_id_same : (id : ℕ) (ls : List Link) (l : Link) → with_id id ls ≡ some l → l.id ≡ id
unfolding with_id
with_id_same id [] l e = absurd (let z : ◌≡◌ {A = ℕ} 0 1 = cc in omega arith)
with_id_same id (x ∷ xs) l e = pick (eqb x.id id) refl e (with_id_same id xs l)
  where
    pick : (b : Bool) → eqb x.id id ≡ b → cond b (some x) (with_id id xs) ≡ some l → (with_id id xs ≡ some l → l.id ≡ id) → l.id ≡ id
    pick true q h ih = sym (ap (λ (m : Link). m.id) (some-injective _ _ h)) ∙ eqb-true x.id id q
    pick false q h ih = ih h

with_copied : (id : ℕ) (ls : List Link) (l : Link) (least : ℕ) → Rising least ls → with_id id (without_manifests ls) ≡ some l → with_id id ls ≡ some l
unfolding with_id without_manifests Rising
with_copied id [] l least r e = e
with_copied id (x ∷ xs) l least r e = pick (is_manifest x) e (with_copied id xs l (x.id + 1) r.1)
  where
    pick : (b : Bool) → with_id id (cond b (without_manifests xs) (x ∷ without_manifests xs)) ≡ some l → (with_id id (without_manifests xs) ≡ some l → with_id id xs ≡ some l)
        → cond (eqb x.id id) (some x) (with_id id xs) ≡ some l
    pick true h ih =
        let w = ih h in
        let i = with_id_same id xs l w in
        let low : x.id + 1 ≤ l.id = all_with (λ m. x.id + 1 ≤ m.id) id xs l (least_id xs (x.id + 1) r.1) w in
        rw (ne_eqb x.id id (λ q. omega arith)) w
    pick false h ih = here (eqb x.id id) h
      where
        here : (t : Bool) → cond t (some x) (with_id id (without_manifests xs)) ≡ some l → cond t (some x) (with_id id xs) ≡ some l
        here true q = q
        here false q = ih q

-- the id of a live manifest is that of no copied segment, and so is one that no live segment has
with_less : (id : ℕ) (ls : List Link) → with_id id ls ≡ none → with_id id (without_manifests ls) ≡ none
unfolding with_id without_manifests
with_less id [] e = e
with_less id (x ∷ xs) e = pick (eqb x.id id) refl e (with_less id xs)
  where
    pick : (b : Bool) → eqb x.id id ≡ b → cond b (some x) (with_id id xs) ≡ none → (with_id id xs ≡ none → with_id id (without_manifests xs) ≡ none)
        → with_id id (cond (is_manifest x) (without_manifests xs) (x ∷ without_manifests xs)) ≡ none
    pick true q h ih = absurd (let z : ◌≡◌ {A = ℕ} 0 1 = cc in omega arith)
    pick false q h ih = less (is_manifest x)
      where
        less : (t : Bool) → with_id id (cond t (without_manifests xs) (x ∷ without_manifests xs)) ≡ none
        less true = ih h
        less false = rw q (ih h)

-- an id below those of a rising list is none of them
with_below : (id : ℕ) (ls : List Link) (least : ℕ) → Rising least ls → id < least → with_id id ls ≡ none
unfolding with_id Rising
with_below id [] least r h = refl
with_below id (x ∷ xs) least r h =
    let low = r.0 in
    rw (ne_eqb x.id id (λ q. omega arith)) (with_below id xs (x.id + 1) r.1 (omega arith))

with_manifest : (id : ℕ) (ls : List Link) (l : Link) (least : ℕ) → Rising least ls → with_id id ls ≡ some l → is_manifest l ≡ true → with_id id (without_manifests ls) ≡ none
unfolding with_id without_manifests Rising
with_manifest id [] l least r e k = refl
with_manifest id (x ∷ xs) l least r e k = pick (eqb x.id id) refl e (with_manifest id xs l (x.id + 1) r.1)
  where
    pick : (b : Bool) → eqb x.id id ≡ b → cond b (some x) (with_id id xs) ≡ some l → (with_id id xs ≡ some l → is_manifest l ≡ true → with_id id (without_manifests xs) ≡ none)
        → with_id id (cond (is_manifest x) (without_manifests xs) (x ∷ without_manifests xs)) ≡ none
    pick true q h ih =
        let same : x ≡ l = some-injective _ _ h in
        let i = eqb-true x.id id q in
        rw (ap is_manifest same ∙ k) (with_less id xs (with_below id xs (x.id + 1) r.1 (omega arith)))
    pick false q h ih = rest (is_manifest x)
      where
        rest : (t : Bool) → with_id id (cond t (without_manifests xs) (x ∷ without_manifests xs)) ≡ none
        rest true = ih h k
        rest false = rw q (ih h k)

module _ (f : List ℕ) (r : Found Link) (e : opened f ≡ some r) (id : ℕ) where
  pub manifest_gone : (l : Link) → with_id id (live r) ≡ some l → l.kind ≡ manifest_kind → with_id id (copied r) ≡ none
  unfolding copied is_manifest
  manifest_gone l h k = with_manifest id (live r) l 0 (live_rising f r e) h (eq-eqb l.kind manifest_kind k)

  pub missing_gone : with_id id (live r) ≡ none → with_id id (copied r) ≡ none
  unfolding copied
  missing_gone h = with_less id (live r) h

-- an option's link without its place
unfoldable unplaced_link : Option Link → Option Link
unplaced_link none = none
unplaced_link (some l) = some (moved_to 0 l)

with_unplaced : (id : ℕ) (ls : List Link) → with_id id (unplaced ls) ≡ unplaced_link (with_id id ls)
unfolding with_id unplaced_link moved_to
with_unplaced id [] = refl
with_unplaced id (l ∷ ls) = rw (with_unplaced id ls) (pick (eqb l.id id))
  where
    pick : (b : Bool) → cond b (some (moved_to 0 l)) (unplaced_link (with_id id ls)) ≡ unplaced_link (cond b (some l) (with_id id ls))
    pick true = refl
    pick false = refl

part_unplaced : (o : Option Link) → without_place (part_of (unplaced_link o)) ≡ without_place (part_of o)
unfolding part_of unplaced_link without_place whole moved_to
part_unplaced none = refl
part_unplaced (some l) = pick (type_reserved l.kind) (whole l)
  where
    pick : (k b : Bool) → without_place (cond k (NotHanded 15) (cond b (Handed 64 l.payload) (NotHanded 4)))
        ≡ without_place (cond k (NotHanded 15) (cond b (Handed (l.offset + 64) l.payload) (NotHanded 4)))
    pick true b = refl
    pick false true = refl
    pick false false = refl

-- ---- the answers of a file that opens

hit_is : (x : List ℕ) (q : Found Link) → length x ≤ max_file → opened x ≡ some q → (id : ℕ) → hit_in x id ≡ search_in id (search_order q)
unfolding hit_in hit_found
hit_is x q h o id = at_within (Bad 1) (hit_found id) x h ∙ ap (hit_found id) o

part_is : (x : List ℕ) (q : Found Link) → length x ≤ max_file → opened x ≡ some q → (id : ℕ) (l : Link) → with_id id (copied q) ≡ some l → part_in x id ≡ part_of (some l)
unfolding part_in part_found copied
part_is x q h o id l k =
    at_within (NotHanded 1) (part_found id) x h ∙ ap (part_found id) o ∙ ap part_of (with_copied id (live q) l 0 (live_rising x q o) k)

-- ---- two files

module _ (f g : List ℕ) (r s : Found Link) (in_limit : length f ≤ max_file) (in-limit' : length g ≤ max_file) (e : opened f ≡ some r) (d : opened g ≡ some s)
    (same : unplaced (copied r) ≡ unplaced (copied s)) where
  hits : (id : ℕ) → unplaced_hit (hit_in g id) ≡ unplaced_hit (hit_in f id)
  hits id =
      ap unplaced_hit (hit_is g s in-limit' d id)
      ∙ sym (search_unplaced id (search_order s))
      ∙ ap (search_in id) (order_unplaced s ∙ ap (λ (xs : List Link). reverse (vectors_of xs)) (sym same) ∙ sym (order_unplaced r))
      ∙ search_unplaced id (search_order r)
      ∙ ap unplaced_hit (sym (hit_is f r in_limit e id))

  parts : (id : ℕ) (l : Link) → with_id id (copied r) ≡ some l → without_place (part_in g id) ≡ without_place (part_in f id)
  unfolding unplaced_link
  parts id l k = go (with_id id (copied s)) refl alike
    where
      alike : unplaced_link (with_id id (copied s)) ≡ some (moved_to 0 l)
      alike = sym (with_unplaced id (copied s)) ∙ ap (with_id id) (sym same) ∙ with_unplaced id (copied r) ∙ ap unplaced_link k

      go : (o : Option Link) → with_id id (copied s) ≡ o → unplaced_link o ≡ some (moved_to 0 l) → without_place (part_in g id) ≡ without_place (part_in f id)
      go none p q = absurd (let z : ◌≡◌ {A = ℕ} 0 1 = cc in omega arith)
      go (some m) p q =
          ap without_place (part_is g s in-limit' d id m p)
          ∙ sym (part_unplaced (some m))
          ∙ ap (λ (o : Option Link). without_place (part_of o)) q
          ∙ part_unplaced (some l)
          ∙ ap without_place (sym (part_is f r in_limit e id l k))

  pub same_answers : SameAnswers f g (copied r)
  unfolding vector_case vector_after value_in
  same_answers =
      record {
        vector = λ id buf. sym (vector_unplaced buf (hit_in g id)) ∙ ap (vector_hit buf) (hits id) ∙ vector_unplaced buf (hit_in f id);
        buffer = λ id buf. sym (buffer_unplaced buf (hit_in g id)) ∙ ap (buffer_hit buf) (hits id) ∙ buffer_unplaced buf (hit_in f id);
        component = λ id i. sym (value_unplaced i (hit_in g id)) ∙ ap (value_hit i) (hits id) ∙ value_unplaced i (hit_in f id);
        payload = parts;
      }

-- an id that none of some links has is that of none of them at other places
pub with_moved : (id at : ℕ) (ls : List Link) → with_id id ls ≡ none → with_id id (moved_from at ls) ≡ none
unfolding unplaced_link
with_moved id at ls e = go (with_id id (moved_from at ls)) (sym (with_unplaced id (moved_from at ls)) ∙ ap (with_id id) (unplaced_moved at ls) ∙ with_unplaced id ls ∙ ap unplaced_link e)
  where
    go : (o : Option Link) → unplaced_link o ≡ none → o ≡ none
    go none q = refl
    go (some l) q = absurd (let z : ◌≡◌ {A = ℕ} 0 1 = cc in omega arith)
