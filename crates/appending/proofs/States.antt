-- The states that an append writes are those that a manifest may have: what is retired is no manifest, since ids rise through the chain and a
-- retired id names one entry only.
-- Assumes nothing.
use Rattle.std.specs.Prelude.{ℕ, suc, ◌+◌, ◌≤◌, ◌<◌, ◌≡◌, refl, Bool, true, false, cond, not, ◌&&◌, ◌||◌, List, [], ◌∷◌, ◌++◌, eqb, length, drop, get_or}
use Rattle.std.proofs.Common.{sym, ap, subst, ◌∙◌, append_assoc, arith, eq-eqb, ne_eqb, eqb-true}
use Rattle.std.proofs.lemmas.Bool.{false≢true}
use Rattle.segment.specs.chain.Chain.{All}
use Rattle.octets.proofs.ZeroLaws.{and_split}
use Rattle.segment.specs.Header.{Link}
use Rattle.segment.proofs.Chained.{Rising}
use Rattle.manifest.specs.Payload.{manifest_kind, state_held, states_held}
use Rattle.batch.specs.Form.{member}
use Rattle.appending.specs.Retire.{retirable, retire_held, retired}

-- ---- an id of the list names a link that is no manifest

-- an id below those of a rising list is none of them
rising_none : (ls : List Link) (ss : List ℕ) (least id : ℕ) → Rising least ls → id < least → retirable ls ss id ≡ false
unfolding Rising retirable
rising_none [] ss least id r h = refl
rising_none (l ∷ ls) ss least id r h =
    let low = r.0 in
    let n : eqb l.id id ≡ false = ne_eqb l.id id (λ e. omega arith) in
    rw n (rising_none ls (drop 1 ss) (l.id + 1) id r.1 (omega arith))

rising_at : (xs : List Link) (l : Link) (ys : List Link) (least : ℕ) → Rising least (xs ++ l ∷ ys) → least ≤ l.id
unfolding Rising
rising_at [] l ys least r = r.0
rising_at (x ∷ xs) l ys least r =
    let low = r.0 in
    let h = rising_at xs l ys (x.id + 1) r.1 in
    omega arith

-- the link with a retirable id is no manifest
no_manifest : (xs : List Link) (l : Link) (ys : List Link) (ss : List ℕ) (least : ℕ) → Rising least (xs ++ l ∷ ys) → retirable (xs ++ l ∷ ys) ss l.id ≡ true
    → eqb l.kind manifest_kind ≡ false
unfolding Rising retirable
no_manifest [] l ys ss least r e =
    let none : retirable ys (drop 1 ss) l.id ≡ false = rising_none ys (drop 1 ss) (l.id + 1) l.id r.1 (omega arith) in
    let same : eqb l.id l.id ≡ true = eq-eqb l.id l.id refl in
    here (eqb (get_or ss 0 0) 0) (eqb l.kind manifest_kind) (rw (same, none) at e)
  where
    here : (t u : Bool) → (t && not u) || false ≡ true → u ≡ false
    here true true q = absurd (false≢true q)
    here true false q = refl
    here false u q = absurd (false≢true q)
no_manifest (x ∷ xs) l ys ss least r e =
    let low = rising_at xs l ys (x.id + 1) r.1 in
    let n : eqb x.id l.id ≡ false = ne_eqb x.id l.id (λ q. omega arith) in
    no_manifest xs l ys (drop 1 ss) (x.id + 1) r.1 (rw n at e)

-- what holds at each place of a list holds of all
all_places : (P : Link → Type 0) (xs ys : List Link) → ((ps : List Link) (l : Link) (qs : List Link) → xs ++ ys ≡ ps ++ l ∷ qs → P l) → All P ys
unfolding All
all_places P xs [] h = tt
all_places P xs (y ∷ ys) h = (h xs y ys refl, all_places P (xs ++ y ∷ []) ys (λ ps l qs e. h ps l qs (sym (append_assoc xs (y ∷ []) ys) ∙ e)))

member_retirable : (ls : List Link) (ss ids : List ℕ) (x : ℕ) → retire_held ls ss ids ≡ true → member x ids ≡ true → retirable ls ss x ≡ true
unfolding retire_held member
member_retirable ls ss [] x h m = absurd (false≢true m)
member_retirable ls ss (y ∷ ys) x h m =
    let a = and_split (retirable ls ss y && not (member y ys)) _ h in
    let b = and_split (retirable ls ss y) _ a.0 in
    pick (eqb y x) refl m (member_retirable ls ss ys x a.1) b.0
  where
    pick : (t : Bool) → eqb y x ≡ t → t || member x ys ≡ true → (member x ys ≡ true → retirable ls ss x ≡ true) → retirable ls ss y ≡ true → retirable ls ss x ≡ true
    pick true p q ih k = rw (eqb-true y x p) at k
    pick false p q ih k = ih q

-- ---- the states

-- retired links are no manifests
abbrev Spared : List ℕ → Link → Type 0
Spared ids l = member l.id ids ≡ true → eqb l.kind manifest_kind ≡ false

spared : (ls : List Link) (ss ids : List ℕ) → Rising 0 ls → retire_held ls ss ids ≡ true → All (Spared ids) ls
spared ls ss ids r h =
    all_places (Spared ids) [] ls
    (λ ps l qs e m. no_manifest ps l qs ss 0 (subst (Rising 0) e r) (subst (λ (x : List Link). retirable x ss l.id ≡ true) e (member_retirable ls ss ids l.id h m)))

states_retired : (ls : List Link) (ss ids : List ℕ) → length ss ≡ length ls → states_held ls ss ≡ true → All (Spared ids) ls → states_held ls (retired ls ss ids) ≡ true
unfolding states_held state_held retired All
states_retired [] ss ids n h t = refl
states_retired (l ∷ ls) [] ids n h t = absurd (omega arith)
states_retired (l ∷ ls) (s ∷ ss) ids n h t =
    let a = and_split (state_held l s) (states_held ls ss) h in
    rw (states_retired ls ss ids (omega arith) a.1 t.1) (pick (member l.id ids) refl a.0)
  where
    pick : (t' : Bool) → member l.id ids ≡ t' → state_held l s ≡ true → state_held l (cond t' 1 s) && true ≡ true
    pick true m q = rw (t.0 m)
    pick false m q = rw q

pub retired_length : (ls : List Link) (ss ids : List ℕ) → length (retired ls ss ids) ≡ length ls
unfolding retired
retired_length [] ss ids = refl
retired_length (l ∷ ls) ss ids = ap suc (retired_length ls (drop 1 ss) ids)

-- some ids of a directory retired
pub retired_held : (ls : List Link) (ss ids : List ℕ) → Rising 0 ls → length ss ≡ length ls → states_held ls ss ≡ true → retire_held ls ss ids ≡ true
    → states_held ls (retired ls ss ids) ≡ true
retired_held ls ss ids r n h k = states_retired ls ss ids n h (spared ls ss ids r k)
