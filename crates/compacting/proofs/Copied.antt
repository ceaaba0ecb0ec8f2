-- Laws of the segments that compaction copies: they are some of the directory's links, in its order, none of them a manifest; and how many bytes
-- they take.
-- Assumes nothing.
use Rattle.std.specs.Prelude.{ℕ, suc, ◌+◌, ◌≤◌, ◌≡◌, refl, Bool, true, false, cond, List, [], ◌∷◌, ◌++◌, eqb, length, drop, get_or, replicate}
use Rattle.std.proofs.Common.{sym, ap, subst, ◌∙◌, append-nil, arith, length-append}
use Rattle.std.proofs.Math.Option.{some}
use Rattle.segment.specs.chain.Chain.{All, Found, open_of}
use Rattle.segment.specs.chain.Last.{LastIn}
use Rattle.segment.proofs.chain.Last.{last_stands}
use Rattle.segment.specs.chain.Laws.{sizes}
use Rattle.segment.specs.Header.{Link, reader, size, whole}
use Rattle.segment.specs.Chained.{chain}
use Rattle.segment.proofs.Chained.{Rising, chain_rising, rising_front}
use Rattle.segment.specs.Written.{segment}
use Rattle.segment.proofs.WrittenLaws.{segment_length}
use Rattle.manifest.specs.Payload.{confirmed}
use Rattle.manifest.specs.Opening.{opened, states}
use Rattle.reading.specs.Live.{live_of, live}
use Rattle.reading.proofs.Placed.{all_live}
use Rattle.compacting.specs.Compact.{is_manifest, without_manifests, copied, segments_of, moved_to, moved_from, damaged}

-- ---- some of the links

-- what holds of all of them, and of none that is a manifest
all_without : (P : Link → Type 0) (ls : List Link) → All P ls → All P (without_manifests ls)
unfolding without_manifests All
all_without P [] t = tt
all_without P (l ∷ ls) t = pick (is_manifest l) (all_without P ls t.1)
  where
    pick : (b : Bool) → All P (without_manifests ls) → All P (cond b (without_manifests ls) (l ∷ without_manifests ls))
    pick true ih = ih
    pick false ih = (t.0, ih)

pub all_copied : (P : Link → Type 0) (r : Found Link) → All P r.before → All P (copied r)
unfolding copied live
all_copied P r t = all_without P _ (all_live P r.before _ t)

pub none_manifest : (ls : List Link) → All (λ l. is_manifest l ≡ false) (without_manifests ls)
unfolding without_manifests All
none_manifest [] = tt
none_manifest (l ∷ ls) = pick (is_manifest l) refl (none_manifest ls)
  where
    pick : (b : Bool) → is_manifest l ≡ b → All (λ m. is_manifest m ≡ false) (without_manifests ls)
        → All (λ m. is_manifest m ≡ false) (cond b (without_manifests ls) (l ∷ without_manifests ls))
    pick true e ih = ih
    pick false e ih = (e, ih)

pub without_append : (xs ys : List Link) → without_manifests (xs ++ ys) ≡ without_manifests xs ++ without_manifests ys
unfolding without_manifests
without_append [] ys = refl
without_append (x ∷ xs) ys = rw (without_append xs ys) (pick (is_manifest x))
  where
    pick : (b : Bool) → cond b (without_manifests xs ++ without_manifests ys) (x ∷ (without_manifests xs ++ without_manifests ys))
        ≡ cond b (without_manifests xs) (x ∷ without_manifests xs) ++ without_manifests ys
    pick true = refl
    pick false = refl

-- a list that has none stays as it is
pub without_none : (ls : List Link) → All (λ l. is_manifest l ≡ false) ls → without_manifests ls ≡ ls
unfolding without_manifests All
without_none [] t = refl
without_none (l ∷ ls) t = rw t.0 (ap (λ (xs : List Link). l ∷ xs) (without_none ls t.1))

-- where all are live, all are the live ones
pub live_all : (ls : List Link) → live_of ls (replicate (length ls) 0) ≡ ls
unfolding live_of
live_all [] = refl
live_all (l ∷ ls) = ap (λ (xs : List Link). l ∷ xs) (live_all ls)

-- ---- ids rise through them still

rising_from : (ls : List Link) (least most : ℕ) → least ≤ most → Rising most ls → Rising least ls
unfolding Rising
rising_from [] least most h r = tt
rising_from (l ∷ ls) least most h r = let low = r.0 in (omega arith, r.1)

rising_pick : (b : Bool) (l : Link) (ls zs : List Link) (least : ℕ) → least ≤ l.id → Rising (l.id + 1) (ls ++ zs) → Rising least (cond b (l ∷ ls) ls ++ zs)
unfolding Rising
rising_pick true l ls zs least h r = (h, r)
rising_pick false l ls zs least h r = rising_from (ls ++ zs) least (l.id + 1) (omega arith) r

rising_live : (ls zs : List Link) (ss : List ℕ) (least : ℕ) → Rising least (ls ++ zs) → Rising least (live_of ls ss ++ zs)
unfolding live_of Rising
rising_live [] zs ss least r = r
rising_live (l ∷ ls) zs ss least r = rising_pick (eqb (get_or ss 0 0) 0) l (live_of ls (drop 1 ss)) zs least r.0 (rising_live ls zs (drop 1 ss) (l.id + 1) r.1)

rising_without : (ls zs : List Link) (least : ℕ) → Rising least (ls ++ zs) → Rising least (without_manifests ls ++ zs)
unfolding without_manifests Rising
rising_without [] zs least r = r
rising_without (l ∷ ls) zs least r = pick (is_manifest l) (rising_without ls zs (l.id + 1) r.1)
  where
    pick : (b : Bool) → Rising (l.id + 1) (without_manifests ls ++ zs) → Rising least (cond b (without_manifests ls) (l ∷ without_manifests ls) ++ zs)
    pick true ih = rising_pick false l (without_manifests ls) zs least r.0 ih
    pick false ih = rising_pick true l (without_manifests ls) zs least r.0 ih

pub rising_copied : (r : Found Link) (zs : List Link) → Rising 0 (r.before ++ zs) → Rising 0 (copied r ++ zs)
unfolding copied live
rising_copied r zs h = rising_without _ zs 0 (rising_live r.before zs _ 0 h)

-- of a file that opens
pub live_rising : (f : List ℕ) (r : Found Link) → opened f ≡ some r → Rising 0 (live r)
unfolding live opened open_of
live_rising f r e =
    let s : LastIn confirmed (chain f) r = last_stands confirmed (chain f) r e in
    let all : Rising 0 r.before = rising_front r.before (r.link ∷ s.rest) 0 (subst (Rising 0) s.split (chain_rising f)) in
    subst (Rising 0) (append-nil (live_of r.before (states r)))
    (rising_live r.before [] (states r) 0 (subst (Rising 0) (sym (append-nil r.before)) all))

-- ---- they are no more, and take no more bytes

-- a list is no longer than another, and takes no more bytes
pub record Within (xs ls : List Link) : Type 0 where
  pub fewer : length xs ≤ length ls
  pub smaller : sizes reader xs ≤ sizes reader ls

within_pick : (b : Bool) (l : Link) (xs ls : List Link) → Within xs ls → Within (cond b (l ∷ xs) xs) (l ∷ ls)
unfolding sizes
within_pick true l xs ls w = let f = w.fewer in let s = w.smaller in record { fewer = omega arith; smaller = omega arith }
within_pick false l xs ls w = let f = w.fewer in let s = w.smaller in record { fewer = omega arith; smaller = omega arith }

within_both : (xs ys zs : List Link) → Within xs ys → Within ys zs → Within xs zs
within_both xs ys zs a b = record { fewer = omega (arith, a.fewer, b.fewer); smaller = omega (arith, a.smaller, b.smaller) }

live_within : (ls : List Link) (ss : List ℕ) → Within (live_of ls ss) ls
unfolding live_of
live_within [] ss = record { fewer = omega arith; smaller = omega arith }
live_within (l ∷ ls) ss = within_pick (eqb (get_or ss 0 0) 0) l (live_of ls (drop 1 ss)) ls (live_within ls (drop 1 ss))

without_within : (ls : List Link) → Within (without_manifests ls) ls
unfolding without_manifests
without_within [] = record { fewer = omega arith; smaller = omega arith }
without_within (l ∷ ls) = pick (is_manifest l) (without_within ls)
  where
    pick : (b : Bool) → Within (without_manifests ls) ls → Within (cond b (without_manifests ls) (l ∷ without_manifests ls)) (l ∷ ls)
    pick true ih = within_pick false l (without_manifests ls) ls ih
    pick false ih = within_pick true l (without_manifests ls) ls ih

pub copied_within : (r : Found Link) → Within (copied r) r.before
unfolding copied live
copied_within r =
    within_both _ _ _ (without_within _) (live_within r.before _)

-- ---- their bytes, and where they stand then

pub segments_length : (ls : List Link) → length (segments_of ls) ≡ sizes reader ls
unfolding segments_of sizes size
segments_length [] = refl
segments_length (l ∷ ls) =
    length-append (segment l.kind l.flags l.id l.timestamp l.payload) (segments_of ls)
    ∙ omega (arith, segment_length l.kind l.flags l.id l.timestamp l.payload, segments_length ls)

pub moved_length : (at : ℕ) (ls : List Link) → length (moved_from at ls) ≡ length ls
unfolding moved_from
moved_length at [] = refl
moved_length at (l ∷ ls) = ap suc (moved_length (at + size l) ls)

pub moved_sizes : (at : ℕ) (ls : List Link) → sizes reader (moved_from at ls) ≡ sizes reader ls
unfolding moved_from sizes moved_to size
moved_sizes at [] = refl
moved_sizes at (l ∷ ls) = ap (λ (n : ℕ). size l + n) (moved_sizes (at + size l) ls)

-- what goes not by the offset
pub all_moved : (P : Link → Type 0) → ((at : ℕ) (l : Link) → P l → P (moved_to at l)) → (at : ℕ) (ls : List Link) → All P ls → All P (moved_from at ls)
unfolding All moved_from
all_moved P h at [] t = tt
all_moved P h at (l ∷ ls) t = (h at l t.0, all_moved P h (at + size l) ls t.1)

-- ---- whole segments

pub all_whole : (ls : List Link) → damaged ls ≡ 0 → All (λ l. whole l ≡ true) ls
unfolding damaged All
all_whole [] e = tt
all_whole (l ∷ ls) e = pick (whole l) refl e (all_whole ls)
  where
    pick : (b : Bool) → whole l ≡ b → cond b (damaged ls) 4 ≡ 0 → (damaged ls ≡ 0 → All (λ m. whole m ≡ true) ls) → (whole l ≡ true) × All (λ m. whole m ≡ true) ls
    pick true h q ih = (h, ih q)
    pick false h q ih = absurd (omega arith)

pub whole_sound : (ls : List Link) → All (λ l. whole l ≡ true) ls → damaged ls ≡ 0
unfolding damaged All
whole_sound [] t = refl
whole_sound (l ∷ ls) t = rw t.0 (whole_sound ls t.1)
