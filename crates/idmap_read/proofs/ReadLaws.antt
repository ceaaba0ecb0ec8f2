-- The ways out of the id-map reader, one law each, ending in its promises.
-- Assumes nothing.
use Rattle.std.specs.Prelude.{ℕ, ◌+◌, ◌++◌, drop, ◌≤◌, ◌<◌, ◌≡◌, refl, List, length, Ok, Err}
use Rattle.std.proofs.Common.{arith, length-take-le}
use Rattle.std.proofs.Math.ListN.{take}
use borrow.Author.Tests.{le-leb, lt-leb}
use Rattle.octets.specs.Over.{over}
use Rattle.idmap.specs.Decode.{MapRead, Whole, Broken, map_of, ids_of, map_answer, read_answer, read_buffer}
use Rattle.idmap.specs.DecodeLaws.{Filled}
use Rattle.idmap.proofs.DecodeLaws.{was_broken, map_five, was_whole}
use Rattle.idmap.proofs.Count.{whole_count}

-- a list's front copied over another's
pub front_copied : (buf front from : List ℕ) (n : ℕ) → front ≡ take n from → n ≤ length from → front ++ drop n buf ≡ over buf 0 (take n from)
unfolding over
front_copied buf front from n p h =
    let e : 0 + length (take n from) ≡ n = omega (arith, length-take-le n from h) in
    rw (p, e)

-- both promises, of a map that is broken
unread : (m : MapRead) (buf : List ℕ) → m ≡ Broken → (Err 5 ≡ read_answer m buf) × (buf ≡ read_buffer m buf)
unfolding read_answer read_buffer
unread m buf e = rw e (refl, refl)

-- a count out of bounds
module _ (count : ℕ) (s buf : List ℕ) where
  pub read_none : count < 1 → (Err 5 ≡ read_answer (map_of count s) buf) × (buf ≡ read_buffer (map_of count s) buf)
  unfolding map_of
  read_none h = unread (map_of count s) buf (rw (lt-leb 1 count h))

  pub read_over : 4096 < count → (Err 5 ≡ read_answer (map_of count s) buf) × (buf ≡ read_buffer (map_of count s) buf)
  unfolding map_of
  read_over h = unread (map_of count s) buf (rw (le-leb 1 count (omega arith), lt-leb count 4096 h))

  -- by what taking the map apart answered
  pub read_broken : (e : ℕ) → map_answer (map_of count s) ≡ Err e → (Err e ≡ read_answer (map_of count s) buf) × (buf ≡ read_buffer (map_of count s) buf)
  read_broken e p = rw (map_five (map_of count s) e p) (unread (map_of count s) buf (was_broken (map_of count s) e p))

  module _ (n : ℕ) (p : map_answer (map_of count s) ≡ Ok n) where
    whole : map_of count s ≡ Whole n (ids_of (map_of count s))
    whole = was_whole (map_of count s) n p

    many : length (ids_of (map_of count s)) ≡ count
    many = (whole_count count s n (ids_of (map_of count s)) whole).0

    pub read_short : length buf < count → (Err 9 ≡ read_answer (map_of count s) buf) × (buf ≡ read_buffer (map_of count s) buf)
    unfolding read_answer read_buffer
    read_short h = rw whole (rw (many, lt-leb count (length buf) h) (refl, refl))

    pub read_done : (own exit : List ℕ) → Filled (map_of count s) own → count ≤ length buf → exit ≡ over buf 0 (take count own)
        → (Ok n ≡ read_answer (map_of count s) buf) × (exit ≡ read_buffer (map_of count s) buf)
    unfolding read_answer read_buffer
    read_done own exit f h q =
        let ids : take count own ≡ ids_of (map_of count s) = rw many at f in
        rw whole (rw (many, le-leb count (length buf) h) (refl, rw ids at q))
