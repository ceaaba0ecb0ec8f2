-- The bounds of document 01's table, and the interval that a writer takes for 0, each in this one place.
-- Assumes nothing.
use Rattle.std.specs.Prelude.{ℕ}

-- vectors in a block, and so ids in a map
abbrev pub max_vectors : ℕ
max_vectors = 4096

-- the restart interval that an asked 0 means
abbrev pub default_interval : ℕ
default_interval = 64

-- blocks in a VEC_SEG payload
abbrev pub max_blocks : ℕ
max_blocks = 64

-- values of a vector
abbrev pub max_dim : ℕ
max_dim = 1024

-- bytes of a file
abbrev pub max_file : ℕ
max_file = 16777216

-- entries of a directory
abbrev pub max_entries : ℕ
max_entries = 1024

-- bodies in a batch
abbrev pub max_bodies : ℕ
max_bodies = 16

-- bytes of a batch
abbrev pub max_batch : ℕ
max_batch = 1048576
