-- The laws of specs/Entries.antt.
-- Assumes nothing.
use Rattle.std.specs.Prelude.{ℕ, ◌+◌, ◌≤◌, ◌<◌, ◌≡◌, refl, List, [], ◌∷◌, ◌++◌, map, length, take, drop, get_or, set}
use Rattle.std.proofs.Common.{sym, ap, ap₂, ◌∙◌, arith, add-one, length-set, take-suc, length-take-le, get_or-drop, drop-drop}
use Rattle.std.proofs.lemmas.List.{map-append, length-map}
use Rattle.std.proofs.Math.Seq.{take-length}
use Rattle.segment.specs.chain.Chain.{All}
use Rattle.octets.specs.Over.{over}
use Rattle.octets.proofs.OverLaws.{over_none, over_front}
use Rattle.octets.specs.le.Le.{le_of}
use Rattle.segment.specs.Header.{Link, id_at, kind_at}
use Rattle.segment.specs.Laws.{link_front}
use Rattle.segment.proofs.Laws.{LinkRead, lies}
use Rattle.segment.specs.Chained.{offsets_of}
use Rattle.manifest.proofs.Lying.{Lying}
use Rattle.append.specs.Entries.{entry_ids_at, kinds_at}

-- ---- of links that lie in the file

pub ids_lying : (f : List ℕ) (ls : List Link) → All (Lying f) ls → entry_ids_at f (offsets_of ls) ≡ map (λ l. l.id) ls
unfolding entry_ids_at All link_front
ids_lying f [] t = refl
ids_lying f (l ∷ ls) t =
    let y = t.0 in
    let z : LinkRead y.state (drop l.offset f) l = lies y.state (drop l.offset f) l y.reads in
    ap₂ ◌∷◌ (sym (ap (λ (x : Link). x.id) z.link_is ∙ ap (λ (s : List ℕ). le_of (take 8 s)) (drop-drop 0x08 l.offset f))) (ids_lying f ls t.1)

pub kinds_lying : (f : List ℕ) (ls : List Link) → All (Lying f) ls → kinds_at f (offsets_of ls) ≡ map (λ l. l.kind) ls
unfolding kinds_at All link_front
kinds_lying f [] t = refl
kinds_lying f (l ∷ ls) t =
    let y = t.0 in
    let z : LinkRead y.state (drop l.offset f) l = lies y.state (drop l.offset f) l y.reads in
    ap₂ ◌∷◌ (sym (ap (λ (x : Link). x.kind) z.link_is ∙ get_or-drop l.offset f 0x05 0)) (kinds_lying f ls t.1)

-- ---- where the loop stands that reads them: i are read

map_more : (g : ℕ → ℕ) (os : List ℕ) (i : ℕ) → i < length os → map g (take (i + 1) os) ≡ map g (take i os) ++ (g (get_or os i 0) ∷ [])
map_more g os i h = ap (λ (n : ℕ). map g (take n os)) (add-one i) ∙ ap (map g) (take-suc os i 0 h) ∙ map-append g (take i os) (get_or os i 0 ∷ [])

pub record ReadAt (f os ids₀ ids ks₀ ks : List ℕ) (i : ℕ) : Type 0 where
  pub at_most : i ≤ length os
  pub ids_long : length ids ≡ length ids₀
  pub ids_are : ids ≡ over ids₀ 0 (entry_ids_at f (take i os))
  pub kinds_long : length ks ≡ length ks₀
  pub kinds_are : ks ≡ over ks₀ 0 (kinds_at f (take i os))

pub read_first : (f os ids ks : List ℕ) → ReadAt f os ids ids ks ks 0
unfolding entry_ids_at kinds_at
read_first f os ids ks = record { at_most = omega arith; ids_long = refl; ids_are = sym (over_none ids 0); kinds_long = refl; kinds_are = sym (over_none ks 0) }

pub read_next : (f os ids₀ ids ks₀ ks : List ℕ) (i : ℕ) → ReadAt f os ids₀ ids ks₀ ks i → i < length os → length os ≤ length ids₀ → length os ≤ length ks₀
    → (x : ℕ) → x ≡ id_at f (get_or os i 0) → ReadAt f os ids₀ (set ids i x) ks₀ (set ks i (kind_at f (get_or os i 0))) (i + 1)
unfolding entry_ids_at kinds_at
read_next f os ids₀ ids ks₀ ks i st h a b x e =
    let n : length (take i os) ≡ i = length-take-le i os (omega arith) in
    let idsg : ℕ → ℕ = λ o. id_at f o in
    let ksg : ℕ → ℕ = λ o. kind_at f o in
    record {
      at_most = omega arith;
      ids_long = length-set ids i x ∙ st.ids_long;
      ids_are =
          over_front ids₀ ids (map (λ o. id_at f o) (take i os)) i x st.ids_are (length-map (take i os) (λ o. id_at f o) ∙ n) (omega arith)
          ∙ ap (λ (y : ℕ). over ids₀ 0 (map (λ o. id_at f o) (take i os) ++ (y ∷ []))) e
          ∙ ap (over ids₀ 0) (sym (map_more (λ o. id_at f o) os i h));
      kinds_long = length-set ks i (kind_at f (get_or os i 0)) ∙ st.kinds_long;
      kinds_are =
          over_front ks₀ ks (map (λ o. kind_at f o) (take i os)) i (kind_at f (get_or os i 0)) st.kinds_are (length-map (take i os) (λ o. kind_at f o) ∙ n) (omega arith)
          ∙ ap (over ks₀ 0) (sym (map_more (λ o. kind_at f o) os i h));
    }

pub read_last : (f os ids₀ ids ks₀ ks : List ℕ) (i : ℕ) → ReadAt f os ids₀ ids ks₀ ks i → length os ≤ i
    → (ids ≡ over ids₀ 0 (entry_ids_at f os)) × (ks ≡ over ks₀ 0 (kinds_at f os))
read_last f os ids₀ ids ks₀ ks i st h =
    let at_most = st.at_most in
    let e : i ≡ length os = omega arith in
    let t : take i os ≡ os = ap (λ (n : ℕ). take n os) e ∙ take-length os in
    (st.ids_are ∙ ap (λ (x : List ℕ). over ids₀ 0 (entry_ids_at f x)) t, st.kinds_are ∙ ap (λ (x : List ℕ). over ks₀ 0 (kinds_at f x)) t)
