-- The ids and types of a directory's entries, as two lists: of links at some offsets of the file, and of the links themselves.
-- The laws stand in proofs/Entries.antt. Definitions only.
-- Assumes nothing.
use Rattle.std.specs.Prelude.{ℕ, List, map}
use Rattle.segment.specs.Header.{id_at, kind_at}

unfoldable pub entry_ids_at : List ℕ → List ℕ → List ℕ
entry_ids_at f os = map (λ o. id_at f o) os

unfoldable pub kinds_at : List ℕ → List ℕ → List ℕ
kinds_at f os = map (λ o. kind_at f o) os
