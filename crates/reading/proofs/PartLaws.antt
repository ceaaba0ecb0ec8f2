-- The laws of specs/PartLaws.antt.
-- Assumes nothing.
use Rattle.std.specs.Prelude.{ℕ, ◌+◌, ◌≤◌, ◌<◌, ◌≡◌, refl, true, false, List, [], length, Result, Ok, Err}
use Rattle.std.proofs.Common.{sym, ◌∙◌, arith}
use Rattle.std.proofs.Math.Option.{none, some}
use Rattle.std.specs.Borrow.{Bor}
use Rattle.answers.specs.Answer.{number}
use Rattle.segment.specs.chain.Chain.{Found}
use Rattle.segment.specs.Header.{Link, type_reserved, whole}
use Rattle.reading.specs.Live.{live, with_id}
use Rattle.reading.specs.Answers.{Part, Handed, NotHanded, part_of, part_found, part_in}
use Rattle.reading.proofs.Placed.{part_in_handed}
use Rattle.reading.specs.declared.PayloadPlace.{PayloadPlace}
use Rattle.reading.specs.Part.{place_answer, place_of, IsPart, HandsPart}
use Rattle.reading.specs.PartLaws.{place_number, Hands}

-- ---- the payload call's numbers in their order: 3, then 15, then 4

module _ (id : ℕ) (r : Found Link) where
  pub part_missing : with_id id (live r) ≡ none → part_found id (some r) ≡ NotHanded 3
  unfolding part_found part_of
  part_missing e = rw e

  module _ (l : Link) (e : with_id id (live r) ≡ some l) where
    pub part_reserved : type_reserved l.kind ≡ true → part_found id (some r) ≡ NotHanded 15
    unfolding part_found part_of
    part_reserved k = rw (e, k)

    pub part_torn : type_reserved l.kind ≡ false → whole l ≡ false → part_found id (some r) ≡ NotHanded 4
    unfolding part_found part_of
    part_torn k t = rw (e, k, t)

    pub part_handed : type_reserved l.kind ≡ false → whole l ≡ true → part_found id (some r) ≡ Handed (l.offset + 64) l.payload
    unfolding part_found part_of
    part_handed k t = rw (e, k, t)

-- ---- a place

-- the part at the place of a payload is the payload
pub hands_part : (r f : Bor (List ℕ)) (id : ℕ) → Hands r f (place_of (part_in f.now id)) → HandsPart r f (part_in f.now id)
unfolding Hands HandsPart place_of
hands_part r f id h = go (part_in f.now id) refl h
  where
    go : (p : Part) → part_in f.now id ≡ p → Hands r f (place_of p) → HandsPart r f p
    go (NotHanded n) e y = y
    go (Handed start bytes) e y =
        let i = part_in_handed f.now id start bytes e in
        let q = y.0 i.0 in
        (q.bytes ∙ sym i.1, q)

-- ---- the ways out of handing over

pub hands_at : (r f : Bor (List ℕ)) (a : Result PayloadPlace ℕ) (start len : ℕ) → a ≡ Ok (record { start = start; length = len }) → start + len ≤ length f.now → IsPart r f start len → Hands r f a
unfolding Hands
hands_at r f a start len e h y = rw e ((λ k. y), λ k. absurd (omega arith))

pub hands_outside : (r f : Bor (List ℕ)) (a : Result PayloadPlace ℕ) (start len : ℕ) → a ≡ Ok (record { start = start; length = len }) → length f.now < start + len → r.now ≡ [] → Hands r f a
unfolding Hands
hands_outside r f a start len e h y = rw e ((λ k. absurd (omega arith)), λ k. y)

pub hands_nothing : (r f : Bor (List ℕ)) (a : Result PayloadPlace ℕ) (n : ℕ) → a ≡ Err n → r.now ≡ [] → Hands r f a
unfolding Hands
hands_nothing r f a n e y = rw e y

pub number_at : (a : Result PayloadPlace ℕ) (start len : ℕ) → a ≡ Ok (record { start = start; length = len }) → 0 ≡ place_number a
unfolding place_number
number_at a start len e = rw e

pub number_not : (a : Result PayloadPlace ℕ) (n : ℕ) → a ≡ Err n → n ≡ place_number a
unfolding place_number
number_not a n e = rw e

pub number_same : (a : Result PayloadPlace ℕ) → place_number a ≡ number (place_answer a)
unfolding place_number place_answer number
number_same (Ok p) = refl
number_same (Err n) = refl
