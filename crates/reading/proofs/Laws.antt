-- What the search for a vector id promises: nothing is answered out of a segment that is not whole or not sound, and what a newer segment holds is
-- never answered from an older one.
-- Assumes nothing.
use Rattle.std.specs.Prelude.{ℕ, ◌≡◌, refl, Bool, true, false, List, [], ◌∷◌, ◌++◌, eqb}
use Rattle.std.proofs.Common.{sym, ap, subst, ◌∙◌, true≢false, arith}
use Rattle.std.proofs.Math.Option.{Option, none, some}
use borrow.Author.Tests.{eq-eqb, ne_eqb, eqb-true}
use Rattle.segment.specs.chain.Chain.{All}
use Rattle.octets.proofs.ZeroLaws.{same_equal}
use Rattle.segment.specs.Header.{Link, whole, content_hash}
use Rattle.vecseg.specs.Payload.{check_of}
use Rattle.vecseg.specs.Find.{Place, find_in, line_at}
use Rattle.vecseg.proofs.CheckLaws.{sound, sound_block}
use Rattle.reading.specs.Answers.{Hit, Held, Missing, Bad, hit_of, hit_in_segment, or_else, search_in}
use Rattle.reading.specs.Read.{Good, Answered}

-- ---- one segment

module _ (id : ℕ) (l : Link) where
  pub segment_torn : whole l ≡ false → hit_in_segment id l ≡ Bad 4
  unfolding hit_in_segment
  segment_torn h = rw h

  pub segment_bad : whole l ≡ true → (check_of l.payload ≡ 0 → ⊥) → hit_in_segment id l ≡ Bad (check_of l.payload)
  unfolding hit_in_segment
  segment_bad h n = rw (h, ne_eqb (check_of l.payload) 0 n)

  pub segment_sound : whole l ≡ true → check_of l.payload ≡ 0 → hit_in_segment id l ≡ hit_of l (find_in l.payload id)
  unfolding hit_in_segment
  segment_sound h e = rw (h, eq-eqb (check_of l.payload) 0 e)

-- a segment that is not refused
module _ (id : ℕ) (l : Link) (accepted : (n : ℕ) → hit_in_segment id l ≡ Bad n → ⊥) where
  sound-both : (whole l ≡ true) × (check_of l.payload ≡ 0)
  sound-both = pick (whole l) (eqb (check_of l.payload) 0) refl refl
    where
      pick : (t u : Bool) → whole l ≡ t → eqb (check_of l.payload) 0 ≡ u → (whole l ≡ true) × (check_of l.payload ≡ 0)
      pick false u p q = absurd (accepted 4 (segment_torn id l p))
      pick true true p q = (p, eqb-true (check_of l.payload) 0 q)
      pick true false p q = absurd (accepted (check_of l.payload) (segment_bad id l p (λ e. true≢false (sym (eq-eqb (check_of l.payload) 0 e) ∙ q))))

  is-good : Good l
  unfolding whole line_at
  is-good =
      let b = sound-both in
      record {
        hash = same_equal l.hash (content_hash l.payload) b.0;
        checked = b.1;
        blocks = sound_block l.payload (sound l.payload b.1);
      }

  finds : hit_in_segment id l ≡ hit_of l (find_in l.payload id)
  finds = segment_sound id l sound-both.0 sound-both.1

no_hit : {l : Link} {p : Place} (n : ℕ) → Held l p ≡ Bad n → ⊥
no_hit n e = let z : ◌≡◌ {A = ℕ} 0 1 = cc in omega arith

no_miss : (n : ℕ) → Missing ≡ Bad n → ⊥
no_miss n e = let z : ◌≡◌ {A = ℕ} 0 1 = cc in omega arith

was_held : (x : Link) (o : Option Place) (l : Link) (p : Place) → hit_of x o ≡ Held l p → (x ≡ l) × (o ≡ some p)
unfolding hit_of
was_held x none l p e = absurd (let z : ◌≡◌ {A = ℕ} 0 1 = cc in omega arith)
was_held x (some q) l p e = (cc, let w : q ≡ p = cc in ap some w)

was_missing : (x : Link) (o : Option Place) → hit_of x o ≡ Missing → o ≡ none
unfolding hit_of
was_missing x none e = refl
was_missing x (some q) e = absurd (let z : ◌≡◌ {A = ℕ} 0 1 = cc in omega arith)

-- 'No vector leaves unless its segment hash and block check agree'; 'Answering from an older segment because a newer one is bad' is shut out
pub answered : (id : ℕ) (ls : List Link) (l : Link) (p : Place) → search_in id ls ≡ Held l p → Answered id ls l p
unfolding search_in or_else All
answered id [] l p e = absurd (let z : ◌≡◌ {A = ℕ} 0 1 = cc in omega arith)
answered id (x ∷ xs) l p e = pick (hit_in_segment id x) refl e (answered id xs l p)
  where
    pick : (h : Hit) → hit_in_segment id x ≡ h → or_else h (search_in id xs) ≡ Held l p → (search_in id xs ≡ Held l p → Answered id xs l p) → Answered id (x ∷ xs) l p
    pick (Bad n) q z ih = absurd (no_hit n (sym z))
    pick (Held y r) q z ih =
        let accepted : (n : ℕ) → hit_in_segment id x ≡ Bad n → ⊥ = λ n b. no_hit n (sym q ∙ b) in
        let w = was_held x (find_in x.payload id) l p (sym (finds id x accepted) ∙ q ∙ z) in
        subst (λ (m : Link). Answered id (x ∷ xs) m p) w.0
        (record { newer = []; older = xs; split = refl; passed = tt; good = is-good id x accepted; place = w.1 })
    pick Missing q z ih =
        let accepted : (n : ℕ) → hit_in_segment id x ≡ Bad n → ⊥ = λ n b. no_miss n (sym q ∙ b) in
        let a = ih z in
        record {
          newer = x ∷ a.newer;
          older = a.older;
          split = ap (λ (m : List Link). x ∷ m) a.split;
          passed = (record { good = is-good id x accepted; missing = was_missing x (find_in x.payload id) (sym (finds id x accepted) ∙ q) }, a.passed);
          good = a.good;
          place = a.place;
        }

-- what stands behind a segment that is bad or holds the id plays no part
pub older_unread : (id : ℕ) (newer : List Link) (l : Link) (older older' : List Link) → (hit_in_segment id l ≡ Missing → ⊥)
    → search_in id (newer ++ l ∷ older) ≡ search_in id (newer ++ l ∷ older')
unfolding search_in or_else
older_unread id [] l older older' h = pick (hit_in_segment id l) refl
  where
    pick : (x : Hit) → hit_in_segment id l ≡ x → or_else x (search_in id older) ≡ or_else x (search_in id older')
    pick (Held m p) e = refl
    pick Missing e = absurd (h e)
    pick (Bad n) e = refl
older_unread id (x ∷ xs) l older older' h = ap (or_else (hit_in_segment id x)) (older_unread id xs l older older' h)
