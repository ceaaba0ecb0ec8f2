-- Laws of a block and of the blocks of a payload: the ways out of their checks, and where a loop over the blocks stands.
-- Assumes nothing.
use Rattle.std.specs.Prelude.{Ok, Err, ℕ, suc, ◌+◌, ◌-◌, ◌*◌, ◌≤◌, ◌<◌, ◌≡◌, refl, Bool, true, false, cond, ◌&&◌, List, eqb, leb, length, take, drop}
use Rattle.std.proofs.Math.Path.{sym, ap}
use Rattle.std.proofs.Common.{◌∙◌, drop-drop}
use native.Mathlib.Omega.{arith}
use Rattle.std.proofs.Math.ListN.{length-drop}
use borrow.Author.Tests.{le-leb, lt-leb, eq-eqb, ne_eqb, leb-true, eqb-true}
use Rattle.octets.specs.Round.{round64}
use Rattle.octets.specs.Zero.{all_zero}
use Rattle.octets.specs.le.Le.{le_at}
use Rattle.crc32c.specs.Crc.{crc_of}
use Rattle.idmap.specs.Decode.{MapRead, Whole, Broken, map_of, ids_of, map_answer}
use Rattle.idmap.proofs.DecodeLaws.{was_broken, was_whole}
use Rattle.idmap.proofs.Count.{whole_count}
use Rattle.vecseg.specs.Payload.{Line, line_of, columns_length, filled, SoundBlock, BadBlock, block_end, block_map, block_of, blocks_bad}
use Rattle.vecseg.specs.BlockGood.{BlockGood}

-- ---- the fill behind a place

pub filled_short : (at : ℕ) (s : List ℕ) → length s < round64 at → false ≡ filled at s
unfolding filled
filled_short at s h = rw (lt-leb (round64 at) (length s) h)

pub filled_there : (at : ℕ) (s : List ℕ) → round64 at ≤ length s → all_zero (take (round64 at - at) (drop at s)) ≡ filled at s
unfolding filled
filled_there at s h = rw (le-leb (round64 at) (length s) h)

pub filled_fits : (at : ℕ) (s : List ℕ) → filled at s ≡ true → round64 at ≤ length s
unfolding filled
filled_fits at s e = pick (leb (round64 at) (length s)) refl e
  where
    pick : (t : Bool) → leb (round64 at) (length s) ≡ t → t && all_zero (take (round64 at - at) (drop at s)) ≡ true → round64 at ≤ length s
    pick true p q = leb-true (round64 at) (length s) p
    pick false p q = absurd (let z : ◌≡◌ {A = ℕ} 0 1 = cc in omega arith)

-- ---- behind columns and map, which end at n

module _ (n : ℕ) (s : List ℕ) where
  pub end_short : length s < n + 4 → block_end n s ≡ BadBlock 5
  unfolding block_end
  end_short h = rw (lt-leb (n + 4) (length s) h)

  module _ (room : n + 4 ≤ length s) where
    pub end_checksum : (le_at 4 s n ≡ crc_of (take n s) → ⊥) → block_end n s ≡ BadBlock 7
    unfolding block_end
    end_checksum h = rw (le-leb (n + 4) (length s) room, ne_eqb (le_at 4 s n) (crc_of (take n s)) h)

    module _ (same : le_at 4 s n ≡ crc_of (take n s)) where
      pub end_padding : filled (n + 4) s ≡ false → block_end n s ≡ BadBlock 5
      unfolding block_end
      end_padding h = rw (le-leb (n + 4) (length s) room, eq-eqb (le_at 4 s n) (crc_of (take n s)) same, h)

      pub end_sound : filled (n + 4) s ≡ true → block_end n s ≡ SoundBlock (round64 (n + 4))
      unfolding block_end
      end_sound h = rw (le-leb (n + 4) (length s) room, eq-eqb (le_at 4 s n) (crc_of (take n s)) same, h)

-- ---- a block

module _ (l : Line) (s : List ℕ) where
  pub block_short : length s < columns_length l → block_of l s ≡ BadBlock 5
  unfolding block_of
  block_short h = rw (lt-leb (columns_length l) (length s) h)

  module _ (room : columns_length l ≤ length s) where
    to_map : block_of l s ≡ block_map (columns_length l) s (map_of l.count (drop (columns_length l) s))
    unfolding block_of
    to_map = rw (le-leb (columns_length l) (length s) room)

    pub block_broken : (e : ℕ) → map_answer (map_of l.count (drop (columns_length l) s)) ≡ Err e → block_of l s ≡ BadBlock 5
    unfolding block_map
    block_broken e p = to_map ∙ rw (was_broken (map_of l.count (drop (columns_length l) s)) e p)

    module _ (n : ℕ) (p : map_answer (map_of l.count (drop (columns_length l) s)) ≡ Ok n) where
      whole : map_of l.count (drop (columns_length l) s) ≡ Whole n (ids_of (map_of l.count (drop (columns_length l) s)))
      whole = was_whole (map_of l.count (drop (columns_length l) s)) n p

      pub block_end_is : block_of l s ≡ block_end (columns_length l + n) s
      unfolding block_map
      block_end_is = to_map ∙ ap (block_map (columns_length l) s) whole

      -- the map lies in the block
      pub block_map_fits : columns_length l + n ≤ length s
      block_map_fits = omega (arith, (whole_count l.count (drop (columns_length l) s) n _ whole).1, length-drop (columns_length l) s)

end_good : (n : ℕ) (s : List ℕ) (k : ℕ) → block_end n s ≡ SoundBlock k → (le_at 4 s n ≡ crc_of (take n s)) × (k ≤ length s)
unfolding block_end
end_good n s k e = pick (leb (n + 4) (length s)) (eqb (le_at 4 s n) (crc_of (take n s))) (filled (n + 4) s) refl refl e
  where
    pick : (t u v : Bool) → eqb (le_at 4 s n) (crc_of (take n s)) ≡ u → filled (n + 4) s ≡ v
        → cond t (cond u (cond v (SoundBlock (round64 (n + 4))) (BadBlock 5)) (BadBlock 7)) (BadBlock 5) ≡ SoundBlock k
        → (le_at 4 s n ≡ crc_of (take n s)) × (k ≤ length s)
    pick true true true p q z =
        let same : round64 (n + 4) ≡ k = cc in
        (eqb-true (le_at 4 s n) (crc_of (take n s)) p, rw same at (filled_fits (n + 4) s q))
    pick true true false p q z = absurd (let o : ◌≡◌ {A = ℕ} 0 1 = cc in omega arith)
    pick true false v p q z = absurd (let o : ◌≡◌ {A = ℕ} 0 1 = cc in omega arith)
    pick false u v p q z = absurd (let o : ◌≡◌ {A = ℕ} 0 1 = cc in omega arith)

pub block_good : (l : Line) (s : List ℕ) (k : ℕ) → block_of l s ≡ SoundBlock k → BlockGood l s k
unfolding block_of block_map ids_of
block_good l s k e = pick (leb (columns_length l) (length s)) (map_of l.count (drop (columns_length l) s)) refl refl e
  where
    pick : (t : Bool) (m : MapRead) → leb (columns_length l) (length s) ≡ t → map_of l.count (drop (columns_length l) s) ≡ m
        → cond t (block_map (columns_length l) s m) (BadBlock 5) ≡ SoundBlock k → BlockGood l s k
    pick false m p q z = absurd (let o : ◌≡◌ {A = ℕ} 0 1 = cc in omega arith)
    pick true Broken p q z = absurd (let o : ◌≡◌ {A = ℕ} 0 1 = cc in omega arith)
    pick true (Whole n ids) p q z =
        let g = end_good (columns_length l + n) s k z in
        record { map_length = n; room = leb-true (columns_length l) (length s) p; whole = q ∙ ap (λ (m : MapRead). Whole n (ids_of m)) (sym q); checksum = g.0; fits = g.1 }

-- a bad block's number is no 0
end_number : (n : ℕ) (s : List ℕ) (e : ℕ) → block_end n s ≡ BadBlock e → 0 < e
unfolding block_end
end_number n s e p = pick (leb (n + 4) (length s)) (eqb (le_at 4 s n) (crc_of (take n s))) (filled (n + 4) s) p
  where
    pick : (t u v : Bool) → cond t (cond u (cond v (SoundBlock (round64 (n + 4))) (BadBlock 5)) (BadBlock 7)) (BadBlock 5) ≡ BadBlock e → 0 < e
    pick true true true z = absurd (let o : ◌≡◌ {A = ℕ} 0 1 = cc in omega arith)
    pick true true false z = let q : 5 ≡ e = cc in omega arith
    pick true false v z = let q : 7 ≡ e = cc in omega arith
    pick false u v z = let q : 5 ≡ e = cc in omega arith

pub block_number : (l : Line) (s : List ℕ) (e : ℕ) → block_of l s ≡ BadBlock e → 0 < e
unfolding block_of block_map
block_number l s e p = pick (leb (columns_length l) (length s)) (map_of l.count (drop (columns_length l) s)) p
  where
    pick : (t : Bool) (m : MapRead) → cond t (block_map (columns_length l) s m) (BadBlock 5) ≡ BadBlock e → 0 < e
    pick false m z = let q : 5 ≡ e = cc in omega arith
    pick true Broken z = let q : 5 ≡ e = cc in omega arith
    pick true (Whole n ids) z = end_number (columns_length l + n) s e z

-- ---- where the loop over the blocks stands: i are passed, and the next is to begin at `at`

pub record BlocksAt (s : List ℕ) (n start i at : ℕ) : Type 0 where
  pub at_most : i ≤ n
  pub inside : at ≤ length s
  pub same : blocks_bad (n - i) at (drop (4 + 12 * i) s) s ≡ blocks_bad n start (drop 4 s) s

pub blocks_first : (s : List ℕ) (n start : ℕ) → start ≤ length s → BlocksAt s n start 0 start
blocks_first s n start h = let e : n - 0 ≡ n = omega arith in record { at_most = omega arith; inside = h; same = rw e }

module _ (s : List ℕ) (n start i at : ℕ) (st : BlocksAt s n start i at) (h : i < n) where
  fuel : n - i ≡ suc (n - (i + 1))
  fuel = omega arith

  pub blocks_offset : ((line_of (drop (4 + 12 * i) s)).offset ≡ at → ⊥) → 5 ≡ blocks_bad n start (drop 4 s) s
  unfolding blocks_bad
  blocks_offset q =
      let one : blocks_bad (n - i) at (drop (4 + 12 * i) s) s ≡ 5 = rw (fuel, ne_eqb (line_of (drop (4 + 12 * i) s)).offset at q) in
      sym one ∙ st.same

  module _ (here : (line_of (drop (4 + 12 * i) s)).offset ≡ at) where
    pub blocks_bad_are : (e : ℕ) → block_of (line_of (drop (4 + 12 * i) s)) (drop at s) ≡ BadBlock e → e ≡ blocks_bad n start (drop 4 s) s
    unfolding blocks_bad
    blocks_bad_are e p =
        let one : blocks_bad (n - i) at (drop (4 + 12 * i) s) s ≡ e = rw fuel (rw (eq-eqb (line_of (drop (4 + 12 * i) s)).offset at here, p, blocks_bad)) in
        sym one ∙ st.same

    pub blocks_next : (k : ℕ) → block_of (line_of (drop (4 + 12 * i) s)) (drop at s) ≡ SoundBlock k → BlocksAt s n start (i + 1) (at + k)
    unfolding blocks_bad
    blocks_next k p =
        let inside = st.inside in
        let e : 4 + 12 * i + 12 ≡ 4 + 12 * (i + 1) = omega arith in
        let one : blocks_bad (n - i) at (drop (4 + 12 * i) s) s ≡ blocks_bad (n - (i + 1)) (at + k) (drop (4 + 12 * (i + 1)) s) s =
        rw fuel (rw (eq-eqb (line_of (drop (4 + 12 * i) s)).offset at here, p, blocks_bad) (rw (drop-drop 12 (4 + 12 * i) s, e))) in
        record { at_most = omega arith; inside = omega (arith, (block_good _ (drop at s) k p).fits, length-drop at s); same = sym one ∙ st.same }

module _ (s : List ℕ) (n start i at : ℕ) (st : BlocksAt s n start i at) (h : n ≤ i) where
  done : blocks_bad (n - i) at (drop (4 + 12 * i) s) s ≡ cond (eqb (length s) at) 0 5
  unfolding blocks_bad
  done =
      let at_most = st.at_most in
      let e : n - i ≡ 0 = omega arith in
      rw e

  pub blocks_end : length s ≡ at → 0 ≡ blocks_bad n start (drop 4 s) s
  blocks_end q = sym (done ∙ rw (eq-eqb (length s) at q)) ∙ st.same

  pub blocks_more : (length s ≡ at → ⊥) → 5 ≡ blocks_bad n start (drop 4 s) s
  blocks_more q = sym (done ∙ rw (ne_eqb (length s) at q)) ∙ st.same
