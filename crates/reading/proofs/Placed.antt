-- Where an answer lies in the file: a live segment's payload is the file's bytes behind its header.
-- Assumes nothing.
use Rattle.std.specs.Prelude.{ℕ, ◌+◌, ◌≤◌, refl, Bool, eqb, length, take, drop, get_or}
use Rattle.std.proofs.Math.Path.{◌≡◌, subst}
use Rattle.std.proofs.Common.{sym, ap, ◌∙◌, arith, lt_of_not-le, length-drop, drop-drop}
use Rattle.std.proofs.Math.Bool.{true, false, cond}
use Rattle.std.proofs.Math.Option.{Option, none, some, some-injective}
use mathlib.Core.List.{List, [], ◌∷◌, ◌++◌, reverse, reverse-cons}
use Rattle.std.proofs.Math.Decide.{dec_le}
use Rattle.answers.specs.limits.Limits.{max_file}
use Rattle.segment.proofs.chain.Laws.{all_append, all_map}
use Rattle.segment.specs.chain.Chain.{All, Found, open_of}
use Rattle.segment.specs.chain.Last.{LastIn}
use Rattle.segment.proofs.chain.Last.{last_stands}
use Rattle.segment.specs.Header.{Link, type_reserved, whole}
use Rattle.segment.specs.Laws.{link_front}
use Rattle.segment.proofs.Laws.{LinkRead, lies}
use Rattle.segment.specs.Chained.{chain}
use Rattle.manifest.specs.Payload.{confirmed}
use Rattle.manifest.specs.Opening.{opened, states, at_opened}
use Rattle.manifest.proofs.OpeningLaws.{at_long, at_within}
use Rattle.manifest.proofs.Lying.{Lying, chain_lying}
use Rattle.vecseg.specs.Payload.{vec_kind}
use Rattle.vecseg.specs.Find.{Place, find_in}
use Rattle.reading.specs.Live.{live_of, live, vectors_of, search_order, with_id}
use Rattle.reading.specs.Answers.{Handed, NotHanded, part_of, part_found, part_in, Held, Bad, hit_found, hit_in}
use Rattle.reading.specs.Read.{Answered, Good}
use Rattle.reading.proofs.Laws.{answered}
use Rattle.reading.specs.Part.{InFile}

lying_in : (f : List ℕ) (l : Link) → Lying f l → InFile f l
unfolding link_front
lying_in f l y =
    let z : LinkRead y.state (drop l.offset f) l = lies y.state (drop l.offset f) l y.reads in
    let fits = z.fits in
    let room = z.room in
    let n = length-drop l.offset f in
    record {
      room = omega (arith, z.length_is);
      bytes =
          ap (λ (l : Link). l.payload) z.link_is ∙ ap (λ (n : ℕ). take n (drop 64 (drop l.offset f))) (sym z.length_is)
          ∙ ap (take (length l.payload)) (drop-drop 64 l.offset f);
    }

-- ---- what holds of all links holds of those that are picked

module _ (P : Link → Type 0) where
  all-cond : (b : Bool) (l : Link) (ls : List Link) → P l → All P ls → All P (cond b (l ∷ ls) ls)
  unfolding All
  all-cond true l ls p t = (p, t)
  all-cond false l ls p t = t

  pub all_live : (ls : List Link) (ss : List ℕ) → All P ls → All P (live_of ls ss)
  unfolding live_of All
  all_live [] ss t = tt
  all_live (l ∷ ls) ss t = all-cond (eqb (get_or ss 0 0) 0) l (live_of ls (drop 1 ss)) t.0 (all_live ls (drop 1 ss) t.1)

  all-vectors : (ls : List Link) → All P ls → All P (vectors_of ls)
  unfolding vectors_of All
  all-vectors [] t = tt
  all-vectors (l ∷ ls) t = all-cond (eqb l.kind vec_kind) l (vectors_of ls) t.0 (all-vectors ls t.1)

  all-reverse : (ls : List Link) → All P ls → All P (reverse ls)
  unfolding All
  all-reverse [] t = tt
  all-reverse (l ∷ ls) t = rw (reverse-cons l ls) (all_append P (reverse ls) (l ∷ []) (all-reverse ls t.1) (t.0, tt))

  pub all_at : (ls : List Link) (l : Link) (ms : List Link) → All P (ls ++ l ∷ ms) → P l
  unfolding All
  all_at [] l ms t = t.0
  all_at (x ∷ ls) l ms t = all_at ls l ms t.1

  pub all_with : (id : ℕ) (ls : List Link) (l : Link) → All P ls → with_id id ls ≡ some l → P l
  unfolding with_id All
  all_with id [] l t e = absurd (let z : ◌≡◌ {A = ℕ} 0 1 = cc in omega arith)
  all_with id (x ∷ xs) l t e = pick (eqb x.id id) e (all_with id xs l t.1)
    where
      pick : (b : Bool) → cond b (some x) (with_id id xs) ≡ some l → (with_id id xs ≡ some l → P l) → P l
      pick true q ih = subst P (some-injective _ _ q) t.0
      pick false q ih = ih q

-- ---- the links that opening finds

pub before_in : (f : List ℕ) (r : Found Link) → opened f ≡ some r → All (InFile f) r.before
unfolding opened open_of
before_in f r e =
    let s : LastIn confirmed (chain f) r = last_stands confirmed (chain f) r e in
    all_map (Lying f) (InFile f) (lying_in f) r.before (chain_lying f r.before (r.link ∷ s.rest) s.split)

pub live_in : (f : List ℕ) (r : Found Link) → opened f ≡ some r → All (InFile f) (live r)
unfolding live
live_in f r e = all_live (InFile f) r.before (states r) (before_in f r e)

pub order_in : (f : List ℕ) (r : Found Link) → opened f ≡ some r → All (InFile f) (search_order r)
unfolding search_order
order_in f r e = all-reverse (InFile f) (vectors_of (live r)) (all-vectors (InFile f) (live r) (live_in f r e))

-- ---- the answers

-- an answer that is not that of a file above the limit: the file is within it, and the answer is made of what opening finds
pub at_inside : {A : Type 0} (one a : A) (g : Option (Found Link) → A) (f : List ℕ) → (one ≡ a → ⊥) → at_opened one g f ≡ a
    → (length f ≤ max_file) × (g (opened f) ≡ a)
at_inside one a g f n e = go (dec_le (length f) max_file)
  where
    go : Dec (length f ≤ max_file) → (length f ≤ max_file) × (g (opened f) ≡ a)
    go (yes h) = (h, sym (at_within one g f h) ∙ e)
    go (no h) = absurd (n (sym (at_long one g f (lt_of_not-le h)) ∙ e))

pub at_found : {A : Type 0} (one a : A) (g : Option (Found Link) → A) (f : List ℕ) → (one ≡ a → ⊥) → at_opened one g f ≡ a → g (opened f) ≡ a
at_found one a g f n e = (at_inside one a g f n e).1

-- a part that is handed back is the file's at that place
pub part_in_handed : (f : List ℕ) (id start : ℕ) (bytes : List ℕ) → part_in f id ≡ Handed start bytes
    → (start + length bytes ≤ length f) × (bytes ≡ take (length bytes) (drop start f))
unfolding part_in part_found part_of
part_in_handed f id start bytes e =
    go (opened f) refl (at_found (NotHanded 1) (Handed start bytes) (part_found id) f (λ q. let z : ◌≡◌ {A = ℕ} 0 1 = cc in omega arith) e)
  where
    made : (l : Link) (k t : Bool) → InFile f l → cond k (NotHanded 15) (cond t (Handed (l.offset + 64) l.payload) (NotHanded 4)) ≡ Handed start bytes
        → (start + length bytes ≤ length f) × (bytes ≡ take (length bytes) (drop start f))
    made l true t y q = absurd (let z : ◌≡◌ {A = ℕ} 0 1 = cc in omega arith)
    made l false false y q = absurd (let z : ◌≡◌ {A = ℕ} 0 1 = cc in omega arith)
    made l false true y q =
        let a : l.offset + 64 ≡ start = cc in
        let b : l.payload ≡ bytes = cc in
        (rw (a, b) at y.room, rw (a, b) at y.bytes)

    picked : (r : Found Link) → opened f ≡ some r → (w : Option Link) → with_id id (live r) ≡ w → part_of w ≡ Handed start bytes
        → (start + length bytes ≤ length f) × (bytes ≡ take (length bytes) (drop start f))
    picked r p none h q = absurd (let z : ◌≡◌ {A = ℕ} 0 1 = cc in omega arith)
    picked r p (some l) h q = made l (type_reserved l.kind) (whole l) (all_with (InFile f) id (live r) l (live_in f r p) h) q

    go : (o : Option (Found Link)) → opened f ≡ o → part_found id o ≡ Handed start bytes
        → (start + length bytes ≤ length f) × (bytes ≡ take (length bytes) (drop start f))
    go none p q = absurd (let z : ◌≡◌ {A = ℕ} 0 1 = cc in omega arith)
    go (some r) p q = picked r p (with_id id (live r)) refl q

-- what is answered lies in the file, in a good segment
pub record HeldIn (f : List ℕ) (id : ℕ) (l : Link) (p : Place) : Type 0 where
  pub lies : InFile f l
  pub good : Good l
  pub place : find_in l.payload id ≡ some p

pub hit_in_held : (f : List ℕ) (id : ℕ) (l : Link) (p : Place) → hit_in f id ≡ Held l p → HeldIn f id l p
unfolding hit_in hit_found
hit_in_held f id l p e = go (opened f) refl (at_found (Bad 1) (Held l p) (hit_found id) f (λ q. let z : ◌≡◌ {A = ℕ} 0 1 = cc in omega arith) e)
  where
    go : (o : Option (Found Link)) → opened f ≡ o → hit_found id o ≡ Held l p → HeldIn f id l p
    go none h q = absurd (let z : ◌≡◌ {A = ℕ} 0 1 = cc in omega arith)
    go (some r) h q =
        let a : Answered id (search_order r) l p = answered id (search_order r) l p q in
        record {
          lies = all_at (InFile f) a.newer l a.older (subst (All (InFile f)) a.split (order_in f r h));
          good = a.good;
          place = a.place;
        }
