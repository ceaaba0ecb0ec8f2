-- What contracts name of Laws; the laws stand in proofs/Laws.antt. Definitions only.
-- Assumes nothing.
use Rattle.std.specs.Prelude.{List, ℕ, take, drop}
use Rattle.segment.specs.Header.{Link, length_in, id_in, kind_in, flags_in, timestamp_in, hash_in}

-- ---- a link that was read, by the bytes that it was read from

-- the link of bytes that are known to begin with one
unfoldable pub link_front : ℕ → List ℕ → Link
link_front at s =
    record {
      offset = at;
      id = id_in s;
      kind = kind_in s;
      flags = flags_in s;
      timestamp = timestamp_in s;
      hash = hash_in s;
      payload = take (length_in s) (drop 64 s);
    }
