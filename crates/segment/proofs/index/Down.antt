-- The search from the file's end by the stored offsets. They rise, so one number k, which only goes down, parts those at or above the boundary
-- from those below it; whether a link begins at the next boundary down is one comparison. Any test of confirmation will do that confirms no
-- link with more than `max_entries` before it.
-- Assumes nothing.
use Rattle.std.specs.Prelude.{◌≡◌, Bool, true, false, ◌⊎◌, List, ℕ, ◌+◌, ◌-◌, ◌*◌, ◌/◌, ◌%◌, ◌≤◌, ◌<◌, length, take, drop, get_or}
use Rattle.std.proofs.Common.{sym, ap, ◌∙◌, inl, inr, ⊎_elim, arith, lt_of_not-le}
use Rattle.std.proofs.Math.Option.{none, some}
use Rattle.std.proofs.Math.Decide.{dec_le}
use Rattle.answers.specs.limits.Limits.{max_entries}
use Rattle.segment.specs.chain.Laws.{sizes}
use Rattle.segment.specs.chain.Chain.{open_of}
use Rattle.segment.specs.Header.{Link, start, reader}
use Rattle.segment.specs.Chained.{chain}
use Rattle.segment.specs.Search.{Placed}
use Rattle.segment.proofs.Search.{SearchAt, search_first, search_down, search_found, search_none}
use Rattle.segment.specs.index.Offsets.{link_no, Stored}
use Rattle.segment.proofs.index.Offsets.{stored_has, stored_at, stored_rise, stored_aligned}
use Rattle.segment.specs.index.Numbered.{Numbered}
use Rattle.segment.proofs.index.Numbered.{numbered_at, number_of}

-- no link is confirmed that has more before it than a directory has room for
abbrev pub Bounded : (List Link → Link → Bool) → Type 0
Bounded confirmed = (b : List Link) (l : Link) → max_entries < length b → confirmed b l ≡ false

-- where the search stands: the boundaries from p on are tried; of the n stored offsets the first k are below p, the others not
pub record DownAt (confirmed : List Link → Link → Bool) (f offsets : List ℕ) (n p k : ℕ) : Type 0 where
  pub search : SearchAt confirmed f p
  pub stored : Stored f offsets n
  pub at_most : k ≤ n
  pub low : (i : ℕ) → i < k → get_or offsets i 0 < p
  pub high : (i : ℕ) → k ≤ i → i < n → p ≤ get_or offsets i 0

-- what the search has found at the boundary below p: the link with number k - 1
pub record DownFound (confirmed : List Link → Link → Bool) (f : List ℕ) (p k : ℕ) : Type 0 where
  pub found : open_of reader confirmed start f ≡ some (record { before = take (k - 1) (chain f); link = link_no f (k - 1) })
  pub offset_is : (link_no f (k - 1)).offset ≡ p - 64
  pub count : length (take (k - 1) (chain f)) ≡ k - 1

module _ (confirmed : List Link → Link → Bool) (f offsets : List ℕ) (n : ℕ) where
  -- a stored link ends in the file, so it begins below the last multiple of 64
  pub down_first : Stored f offsets n → DownAt confirmed f offsets n (length f / 64 * 64) n
  down_first s =
      record {
        search = search_first confirmed f;
        stored = s;
        at_most = omega arith;
        low = λ i h. (let a = (numbered_at f offsets n s i h).room in let b = stored_aligned f offsets n s i h in omega arith);
        high = λ i h k. absurd (omega arith);
      }

  module _ (p k : ℕ) (d : DownAt confirmed f offsets n p k) where
    above : 64 ≤ p → SearchAt confirmed f (p - 64 + 64)
    above h = let e : p - 64 + 64 ≡ p = omega arith in rw e d.search

    -- the link that the number k - 1 says, where its offset is the boundary below
    pub down_link : 0 < k → get_or offsets (k - 1) 0 ≡ p - 64 → Numbered f (p - 64) (k - 1) (link_no f (k - 1))
    down_link h e = let at_most : k ≤ n = d.at_most in rw e at (numbered_at f offsets n d.stored (k - 1) (omega arith))

    -- a stored offset below number k is at most the one at k - 1
    to_last : (i : ℕ) → i < k → get_or offsets i 0 ≤ get_or offsets (k - 1) 0
    to_last i h = go (dec_le (k - 1) i)
      where
        go : Dec (k - 1 ≤ i) → get_or offsets i 0 ≤ get_or offsets (k - 1) 0
        go (yes q) = let e : i ≡ k - 1 = omega arith in omega (arith, ap (λ (m : ℕ). get_or offsets m 0) e)
        go (no q) =
            let at_most : k ≤ n = d.at_most in
            let r = stored_rise f offsets n d.stored i (k - 1) (lt_of_not-le q) (omega arith) in
            omega arith

    module _ (h : 64 ≤ p) where
      -- a stored link that begins at the boundary below is the one with number k - 1
      not-above : (i : ℕ) → i < n → get_or offsets i 0 ≡ p - 64 → i < k
      not-above i j e = go (dec_le k i)
        where
          go : Dec (k ≤ i) → i < k
          go (yes q) = let a = d.high i q j in absurd (omega arith)
          go (no q) = lt_of_not-le q

      is_last : (i : ℕ) → i < k → get_or offsets i 0 ≡ p - 64 → i ≡ k - 1
      is_last i r e = go (dec_le (k - 1) i)
        where
          go : Dec (k - 1 ≤ i) → i ≡ k - 1
          go (yes q) = omega arith
          go (no q) =
              let at_most : k ≤ n = d.at_most in
              let a = stored_rise f offsets n d.stored i (k - 1) (lt_of_not-le q) (omega arith) in
              let b = d.low (k - 1) (omega arith) in
              absurd (omega arith)

      -- a link of the chain that begins there is that one, or has too many before it
      candidate : Bounded confirmed → (b z : List Link) (l : Link) → Placed f (p - 64) b l z
          → (confirmed b l ≡ false) ⊎ ((0 < k) × ((get_or offsets (k - 1) 0 ≡ p - 64) × ((b ≡ take (k - 1) (chain f)) × (l ≡ link_no f (k - 1)))))
      candidate bound b z l a = go (dec_le (length b) max_entries)
        where
          go : Dec (length b ≤ max_entries)
              → (confirmed b l ≡ false) ⊎ ((0 < k) × ((get_or offsets (k - 1) 0 ≡ p - 64) × ((b ≡ take (k - 1) (chain f)) × (l ≡ link_no f (k - 1)))))
          go (no q) = inl (bound b l (lt_of_not-le q))
          go (yes q) =
              let m = number_of f b z l a.split in
              let j : length b < n = stored_has f offsets n d.stored (length b) m.0 (omega arith) in
              let e : get_or offsets (length b) 0 ≡ p - 64 = stored_at f offsets n d.stored (length b) j ∙ sym (ap (sizes reader) m.1.0) ∙ a.place in
              let r : length b < k = not-above (length b) j e in
              let s : length b ≡ k - 1 = is_last (length b) r e in
              inr (
                omega arith,
                (
                  sym (ap (λ (i : ℕ). get_or offsets i 0) s) ∙ e,
                  (m.1.0 ∙ ap (λ (i : ℕ). take i (chain f)) s, m.1.1 ∙ ap (λ (i : ℕ). link_no f i) s),
                ),
              )

      -- no stored link begins at the boundary below: k stays
      pub down_skip : Bounded confirmed → (0 < k → get_or offsets (k - 1) 0 ≡ p - 64 → ⊥) → DownAt confirmed f offsets n (p - 64) k
      down_skip bound none-there =
          record {
            search = search_down confirmed f (p - 64) (above h) (λ b z l a. ⊎_elim (λ e. e) (λ q. absurd (none-there q.0 q.1.0)) (candidate bound b z l a));
            stored = d.stored;
            at_most = d.at_most;
            low = λ i j. (let a = to_last i j in let b = last-below (omega arith) in omega arith);
            high = λ i j m. (let a = d.high i j m in omega arith);
          }
        where
          last-below : 0 < k → get_or offsets (k - 1) 0 < p - 64
          last-below j = go (dec_le (p - 64) (get_or offsets (k - 1) 0))
            where
              go : Dec (p - 64 ≤ get_or offsets (k - 1) 0) → get_or offsets (k - 1) 0 < p - 64
              go (yes q) =
                  let at_most : k ≤ n = d.at_most in
                  let a : p % 64 ≡ 0 = d.search.aligned in
                  let b = stored_aligned f offsets n d.stored (k - 1) (omega arith) in
                  let c = d.low (k - 1) (omega arith) in
                  absurd (none-there j (omega arith))
              go (no q) = lt_of_not-le q

      module _ (some_left : 0 < k) (there : get_or offsets (k - 1) 0 ≡ p - 64) where
        -- the link that begins at the boundary below is not confirmed: k goes down by one
        pub down_not : Bounded confirmed → confirmed (take (k - 1) (chain f)) (link_no f (k - 1)) ≡ false → DownAt confirmed f offsets n (p - 64) (k - 1)
        down_not bound e =
            record {
              search = search_down confirmed f (p - 64) (above h) (λ b z l a. ⊎_elim (λ q. q) (λ q. rw (q.1.1.0, q.1.1.1) e) (candidate bound b z l a));
              stored = d.stored;
              at_most = let at_most : k ≤ n = d.at_most in omega arith;
              low = λ i j. (let at_most : k ≤ n = d.at_most in let a = stored_rise f offsets n d.stored i (k - 1) j (omega arith) in omega arith);
              high = λ i j m. up i j m (dec_le k i);
            }
          where
            up : (i : ℕ) → k - 1 ≤ i → i < n → Dec (k ≤ i) → p - 64 ≤ get_or offsets i 0
            up i j m (yes q) = let a = d.high i q m in omega arith
            up i j m (no q) = let r = lt_of_not-le q in let e : i ≡ k - 1 = omega arith in omega (arith, ap (λ (i : ℕ). get_or offsets i 0) e)

        -- it is confirmed: it is what opening finds
        pub down_found : confirmed (take (k - 1) (chain f)) (link_no f (k - 1)) ≡ true → DownFound confirmed f p k
        down_found e =
            let m = down_link some_left there in
            record {
              found = search_found confirmed f (p - 64) (above h) (take (k - 1) (chain f)) (drop (k - 1 + 1) (chain f)) (link_no f (k - 1)) m.placed e;
              offset_is = m.offset_is;
              count = m.before;
            }

    -- every boundary is tried
    pub down_none : p ≡ 0 → open_of reader confirmed start f ≡ none
    down_none e = search_none confirmed f (rw e at d.search)
