-- Where the first links of a chain begin, as a list of numbers, and where a loop stands that fills it. A manifest has at most `max_entries` links
-- before it, so links behind number `max_entries` cannot matter to a search for one, and a list of fixed length has room for all that do.
-- The laws stand in proofs/index/Offsets.antt. Definitions only.
-- Assumes nothing.
use Rattle.std.specs.Prelude.{◌≡◌, List, ℕ, ◌+◌, length, take, get_or}
use Rattle.answers.specs.limits.Limits.{max_entries}
use Rattle.segment.specs.Header.{Link, no_link}
use Rattle.segment.specs.Chained.{chain, offsets_of}

-- so many links can matter
abbrev pub most : ℕ
most = max_entries + 1

-- the first n numbers of a list are the offsets of the links that can matter, and n is how many these are
pub record Stored (f offsets : List ℕ) (n : ℕ) : Type 0 where
  pub count : n ≡ length (take most (chain f))
  pub stored : take n offsets ≡ offsets_of (take most (chain f))

-- the link of the chain with a number, where there is one
abbrev pub link_no : List ℕ → ℕ → Link
link_no f i = get_or (chain f) i no_link
