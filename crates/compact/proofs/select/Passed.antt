-- What is copied of a directory's first entries, and of one entry more.
-- Assumes nothing.
use Rattle.std.specs.Prelude.{ℕ, ◌+◌, ◌≤◌, ◌<◌, ◌≡◌, refl, Bool, true, false, cond, List, [], ◌∷◌, ◌++◌, eqb, length, take, drop, get_or}
use Rattle.std.proofs.Common.{sym, ◌∙◌, append-nil, add-one, take-append-drop, take_all, take-suc}
use Rattle.std.proofs.Math.Path.{ap}
use Rattle.std.proofs.Math.Option.{some}
use native.Mathlib.Omega.{arith}
use borrow.Author.Tests.{eq-eqb, ne_eqb}
use Rattle.segment.specs.chain.Chain.{Found}
use Rattle.segment.specs.chain.Laws.{sizes}
use Rattle.segment.proofs.chain.Walk.{sizes_append}
use Rattle.segment.specs.Header.{Link, reader, size, whole, no_link}
use Rattle.manifest.specs.Payload.{manifest_kind}
use Rattle.manifest.specs.Opening.{opened, states}
use Rattle.reading.specs.Live.{live_of, live}
use Rattle.reading.proofs.LiveLaws.{only, live_append, live_more}
use Rattle.compacting.specs.Compact.{is_manifest, without_manifests, copied, damaged}
use Rattle.compacting.proofs.Copied.{without_append}
use Rattle.compact.specs.select.Selected.{copied_of}

-- ---- lists of links

pub damaged_append : (ls ms : List Link) → damaged ls ≡ 0 → damaged (ls ++ ms) ≡ damaged ms
unfolding damaged
damaged_append [] ms e = refl
damaged_append (x ∷ xs) ms e = pick (whole x) e (damaged_append xs ms)
  where
    pick : (t : Bool) → cond t (damaged xs) 4 ≡ 0 → (damaged xs ≡ 0 → damaged (xs ++ ms) ≡ damaged ms) → cond t (damaged (xs ++ ms)) 4 ≡ damaged ms
    pick true q ih = ih q
    pick false q ih = absurd (omega arith)

pub damaged_stays : (ls ms : List Link) → damaged ls ≡ 4 → damaged (ls ++ ms) ≡ 4
unfolding damaged
damaged_stays [] ms e = absurd (omega arith)
damaged_stays (x ∷ xs) ms e = pick (whole x) e (damaged_stays xs ms)
  where
    pick : (t : Bool) → cond t (damaged xs) 4 ≡ 4 → (damaged xs ≡ 4 → damaged (xs ++ ms) ≡ 4) → cond t (damaged (xs ++ ms)) 4 ≡ 4
    pick true q ih = ih q
    pick false q ih = refl

-- ---- the entries passed

pub copied_of_found : (f : List ℕ) (r : Found Link) → opened f ≡ some r → copied_of (opened f) ≡ copied r
unfolding copied_of
copied_of_found f r e = ap copied_of e

-- what is copied of a directory's first i entries
abbrev pub passed : Found Link → ℕ → List Link
passed r i = without_manifests (live_of (take i r.before) (states r))

pub passed_all : (r : Found Link) (i : ℕ) → length r.before ≤ i → passed r i ≡ copied r
unfolding copied live
passed_all r i h = rw (take_all i r.before h)

-- the rest stands behind it
unfoldable pub behind : Found Link → ℕ → List Link
behind r i = without_manifests (live_of (drop i r.before) (drop (length (take i r.before)) (states r)))

pub passed_split : (r : Found Link) (i : ℕ) → copied r ≡ passed r i ++ behind r i
unfolding copied live behind
passed_split r i =
    ap (λ (ls : List Link). without_manifests (live_of ls (states r))) (sym (take-append-drop i r.before))
    ∙ ap without_manifests (live_append (take i r.before) (drop i r.before) (states r))
    ∙ without_append (live_of (take i r.before) (states r)) (live_of (drop i r.before) (drop (length (take i r.before)) (states r)))

-- one entry more
module _ (r : Found Link) (i : ℕ) (h : i < length r.before) where
  abbrev pub l : Link
  l = get_or r.before i no_link

  more : passed r (i + 1) ≡ passed r i ++ without_manifests (only (eqb (get_or (states r) i 0) 0) l)
  more =
      ap (passed r) (add-one i) ∙ ap without_manifests (live_more r.before (states r) i h)
      ∙ without_append (live_of (take i r.before) (states r)) (only (eqb (get_or (states r) i 0) 0) l)

  pub passed_retired : (get_or (states r) i 0 ≡ 0 → ⊥) → passed r (i + 1) ≡ passed r i
  unfolding without_manifests
  passed_retired n = more ∙ rw (ne_eqb (get_or (states r) i 0) 0 n) (append-nil (passed r i))

  pub passed_manifest : get_or (states r) i 0 ≡ 0 → l.kind ≡ manifest_kind → passed r (i + 1) ≡ passed r i
  unfolding without_manifests is_manifest
  passed_manifest z k = more ∙ rw (eq-eqb (get_or (states r) i 0) 0 z, eq-eqb l.kind manifest_kind k) (append-nil (passed r i))

  pub passed_here : get_or (states r) i 0 ≡ 0 → (l.kind ≡ manifest_kind → ⊥) → passed r (i + 1) ≡ passed r i ++ l ∷ []
  unfolding without_manifests is_manifest
  passed_here z n = more ∙ rw (eq-eqb (get_or (states r) i 0) 0 z, ne_eqb l.kind manifest_kind n)

  -- where the entry's link ends
  pub places : sizes reader (take (i + 1) r.before) ≡ sizes reader (take i r.before) + size l
  unfolding sizes
  places =
      ap (λ (n : ℕ). sizes reader (take n r.before)) (add-one i) ∙ ap (sizes reader) (take-suc r.before i no_link h)
      ∙ sizes_append reader (take i r.before) (l ∷ []) ∙ omega arith
