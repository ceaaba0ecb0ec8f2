-- The one-block vector writer of document 01's 'The batch sheet and appending': what it refuses, and the payload it writes.
-- Assumes nothing.
use Rattle.std.specs.Prelude.{ℕ, ◌*◌, cond, ◌&&◌, List, [], ◌∷◌, ◌++◌, eqb, leb, ltb, length}
use Rattle.octets.specs.Round.{padding}
use Rattle.octets.specs.le.Le.{le_bytes}
use Rattle.answers.specs.limits.Limits.{max_dim}
use Rattle.crc32c.specs.Crc.{crc_of}
use Rattle.idmap.specs.Encode.{map_bytes, map_bad}
use Rattle.vecseg.specs.Payload.{width}

-- 14: a dtype not held, a dim out of bounds, a tier that does not fit its byte, columns of another length than count x dim
-- values, or ids, encoding and interval that the id-map writer refuses
unfoldable pub vec_bad : List ℕ → List ℕ → ℕ → ℕ → ℕ → ℕ → ℕ → ℕ
vec_bad ids columns dim dtype tier encoding interval =
    cond (ltb 0 (width dtype) && leb 1 dim && leb dim max_dim && ltb tier 256 && eqb (length columns) (length ids * dim * width dtype)) (map_bad ids encoding interval) 14

-- the block: columns, id map, checksum of both
unfoldable pub block_bytes : List ℕ → List ℕ → List ℕ
block_bytes columns map = (columns ++ map) ++ le_bytes 4 (crc_of (columns ++ map))

-- one line of the directory, whose block begins at 64
unfoldable pub directory : ℕ → ℕ → ℕ → ℕ → List ℕ
directory count dim dtype tier = le_bytes 4 1 ++ (le_bytes 4 64 ++ (le_bytes 4 count ++ (le_bytes 2 dim ++ (dtype ∷ tier ∷ []))))

-- the payload: directory, block, each padded with zeros to 64
unfoldable pub vec_bytes : List ℕ → List ℕ → ℕ → ℕ → ℕ → ℕ → ℕ → List ℕ
vec_bytes ids columns dim dtype tier encoding interval =
    (directory (length ids) dim dtype tier ++ padding 16)
    ++ (block_bytes columns (map_bytes ids encoding interval) ++ padding (length (block_bytes columns (map_bytes ids encoding interval))))
