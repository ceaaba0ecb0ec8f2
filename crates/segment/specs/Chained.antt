-- The chain of a file, walked by steps: what a step says of the link, where a loop that makes them stands, and what is known of a chain's links.
-- The laws stand in proofs/Chained.antt. Definitions only.
-- Assumes nothing.
use Rattle.std.specs.Prelude.{List, map, ℕ}
use Rattle.segment.specs.chain.Chain.{walk}
use Rattle.segment.specs.Header.{Link, start, reader}

-- the links of a file
abbrev pub chain : List ℕ → List Link
chain f = walk reader start f

-- where some links begin
abbrev pub offsets_of : List Link → List ℕ
offsets_of ls = map (λ l. l.offset) ls
