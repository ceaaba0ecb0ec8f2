-- What an append knows of the file when it writes: the bytes up to the start are the links that are kept, and their offsets stand in a list. With the
-- bodies written behind them, all links of the new directory lie in the bytes up to the new manifest.
-- The laws stand in proofs/commit/Base.antt. Definitions only.
-- Assumes nothing.
use Prim.Native.Nat.{ℕ, ◌≤◌}
use Rattle.std.specs.Prelude.{◌≡◌, take}
use Rattle.std.specs.Prelude.{Option as Maybe}
use mathlib.Core.List.{List}
use Rattle.std.proofs.Math.ListN.{length}
use Rattle.answers.specs.limits.Limits.{max_file}
use Rattle.segment.specs.Chained.{offsets_of}
use Rattle.manifest.specs.Opening.{opened}
use Rattle.appending.specs.Append.{kept_links, start_of, next_id}
use Rattle.append.specs.commit.Commit.{next_id_of}

-- g is the bytes up to the start
pub record Base (g offsets : List ℕ) (begin kept-count : ℕ) (last : Maybe ℕ) : Type 0 where
  pub whole : length g ≡ begin
  pub small : begin ≤ max_file
  pub at_most : kept-count ≤ 1025
  pub start_is : start_of (opened g) ≡ begin
  pub count_is : length (kept_links (opened g)) ≡ kept-count
  pub next_is : next_id (opened g) ≡ next_id_of last
  pub offsets_are : take kept-count offsets ≡ offsets_of (kept_links (opened g))
