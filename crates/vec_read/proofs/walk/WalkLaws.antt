-- The laws of specs/walk/Walk.antt.
-- Assumes nothing.
use Rattle.std.specs.Prelude.{ℕ, Bool, List, Result, Ok, Err, Some, None}
use Rattle.std.specs.Prelude.{Option as Maybe}
use Rattle.std.proofs.Math.Path.{◌≡◌, refl, ap}
use Rattle.std.proofs.Common.{sym, ◌∙◌}
use Rattle.std.proofs.Math.Bool.{true, false, cond}
use Rattle.std.proofs.Math.Option.{Option, none, some}
use native.Mathlib.Omega.{arith}
use Rattle.std.proofs.Math.Dec.{eqb}
use borrow.Author.Tests.{ne_eqb, eqb-true, eqb-false}
use Rattle.octets.specs.Options.{option_of}
use Rattle.octets.specs.numbers.Numbers.{index_of}
use Rattle.octets.proofs.numbers.NumbersLaws.{was_nowhere, was_place}
use Rattle.crc32c.specs.Crc.{crc_of}
use Rattle.vecseg.specs.Payload.{block_count, check_of}
use Rattle.vecseg.specs.Find.{Place, find_in}
use Rattle.vec_read.specs.declared.walk.Place.{Place as PlaceRead}
use Rattle.vec_read.specs.declared.walk.Searched.{Searched}
use Rattle.vec_read.specs.walk.Walk.{summed_of, place_read, searched_at, searched_of, sum_of, found_up_to, walked_of, asked_of}

-- ---- the walk, by what it is asked for

-- the place that is kept behind one more block, where the id's index among the block's ids is known
abbrev pub looked_of : Option ℕ → ℕ → ℕ → ℕ → ℕ → Maybe PlaceRead → Maybe PlaceRead
looked_of none offset count dim dtype kept = kept
looked_of (some k) offset count dim dtype kept = Some (record { offset = offset; count = count; dim = dim; dtype = dtype; index = k })

pub asked_not : (id : Maybe ℕ) (ids : List ℕ) → id ≡ None → None ≡ option_of (asked_of id ids)
unfolding asked_of
asked_not id ids e = rw e

pub asked_so : (id : Maybe ℕ) (ids : List ℕ) (x : ℕ) (r : Maybe ℕ) → id ≡ Some x → r ≡ option_of (index_of x ids) → r ≡ option_of (asked_of id ids)
unfolding asked_of
asked_so id ids x r e p = rw e p

pub looked_past : (o : Option ℕ) (offset count dim dtype : ℕ) (kept : Maybe PlaceRead) → option_of o ≡ None → kept ≡ looked_of o offset count dim dtype kept
looked_past o offset count dim dtype kept p = rw (was_nowhere o p)

pub looked_here : (o : Option ℕ) (offset count dim dtype : ℕ) (kept : Maybe PlaceRead) (k : ℕ) → option_of o ≡ Some k
    → ◌≡◌ {A = Maybe PlaceRead} (Some (record { offset = offset; count = count; dim = dim; dtype = dtype; index = k })) (looked_of o offset count dim dtype kept)
looked_here o offset count dim dtype kept k p = rw (was_place o k p)

-- ---- the answer made: of a payload that is refused, and of a sound one by the place that was kept

pub kept_at : (o : Option Place) (crc : ℕ) (kept : Maybe PlaceRead) → place_read o ≡ kept → record { sum = crc; place = kept } ≡ searched_at crc o
unfolding searched_at
kept_at o crc kept e = rw e

module _ (summed : Bool) (s : List ℕ) (id : Maybe ℕ) where
  pub walked_bad : (e : ℕ) → e ≡ check_of s → (e ≡ 0 → ⊥) → Err e ≡ walked_of summed s id
  unfolding walked_of
  walked_bad e p nz = rw (← p, ne_eqb e 0 nz)

  pub walked_sound : check_of s ≡ 0 → (w : Searched) (crc : ℕ) → crc ≡ sum_of summed s → w ≡ searched_at crc (found_up_to (block_count s) s id) → Ok w ≡ walked_of summed s id
  unfolding walked_of
  walked_sound ok w crc p q = rw (ok, ← p) (ap Ok q)

  -- ---- the answer taken apart

  pub was_bad : (e : ℕ) → walked_of summed s id ≡ Err e → (e ≡ check_of s) × (e ≡ 0 → ⊥)
  unfolding walked_of
  was_bad e p = pick (eqb (check_of s) 0) refl p
    where
      pick : (t : Bool) → eqb (check_of s) 0 ≡ t
          → cond {A = Result Searched ℕ} t (Ok (searched_at (sum_of summed s) (found_up_to (block_count s) s id))) (Err (check_of s)) ≡ Err e → (e ≡ check_of s) × (e ≡ 0 → ⊥)
      pick true q r = absurd (let z : ◌≡◌ {A = ℕ} 0 1 = cc in omega arith)
      pick false q r =
          let same : e ≡ check_of s = cc in
          (same, λ z. eqb-false (check_of s) 0 q (sym same ∙ z))

  pub was_sound : (w : Searched) → walked_of summed s id ≡ Ok w → (check_of s ≡ 0) × (searched_at (sum_of summed s) (found_up_to (block_count s) s id) ≡ w)
  unfolding walked_of
  was_sound w p = pick (eqb (check_of s) 0) refl p
    where
      pick : (t : Bool) → eqb (check_of s) 0 ≡ t
          → cond {A = Result Searched ℕ} t (Ok (searched_at (sum_of summed s) (found_up_to (block_count s) s id))) (Err (check_of s)) ≡ Ok w
          → (check_of s ≡ 0) × (searched_at (sum_of summed s) (found_up_to (block_count s) s id) ≡ w)
      pick true q r = (eqb-true (check_of s) 0 q, cc)
      pick false q r = absurd (let z : ◌≡◌ {A = ℕ} 0 1 = cc in omega arith)

-- both asked for: the search
pub searched_walk : (s : List ℕ) (id : ℕ) → walked_of true s (Some id) ≡ searched_of s id
unfolding walked_of searched_of sum_of found_up_to find_in
searched_walk s id = refl

-- the checksum alone
module _ (s : List ℕ) where
  pub summed_bad : (e : ℕ) → walked_of true s None ≡ Err e → Err e ≡ summed_of s
  unfolding summed_of
  summed_bad e p = let b = was_bad true s None e p in rw (← b.0, ne_eqb e 0 b.1)

  pub summed_sound : (w : Searched) → walked_of true s None ≡ Ok w → Ok w.sum ≡ summed_of s
  unfolding summed_of searched_at sum_of
  summed_sound w p =
      let b = was_sound true s None w p in
      let q : crc_of s ≡ w.sum = ap (λ (x : Searched). x.sum) b.1 in
      rw (b.0, q)

-- where no id is looked for, none is found
pub never_at : (summed : Bool) (s : List ℕ) (w : Searched) → walked_of summed s None ≡ Ok w → w.place ≡ None
unfolding searched_at found_up_to
never_at summed s w p = sym (ap (λ (x : Searched). x.place) (was_sound summed s None w p).1)
