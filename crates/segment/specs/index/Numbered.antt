-- A link of the chain by its number: where it stands, and its fields as the file has them, so that code which knows only the number and the
-- offset can read them.
-- The laws stand in proofs/index/Numbered.antt. Definitions only.
-- Assumes nothing.
use Rattle.std.specs.Prelude.{◌≡◌, drop}
use Rattle.std.proofs.Math.Option.{some}
use mathlib.Core.List.{List}
use Prim.Native.Nat.{ℕ, ◌+◌, ◌≤◌}
use Rattle.std.proofs.Math.ListN.{length, take}
use Rattle.segment.specs.chain.Laws.{afters}
use Rattle.segment.specs.Header.{Link, start, reader, link_at, size, whole, flags_at, id_at, kind_at, length_at}
use Rattle.segment.specs.Laws.{link_front}
use Rattle.segment.specs.Step.{whole_at}
use Rattle.segment.specs.Chained.{chain}
use Rattle.segment.specs.Search.{Placed}

-- the link l with number i begins at p
pub record Numbered (f : List ℕ) (p i : ℕ) (l : Link) : Type 0 where
  pub placed : Placed f p (take i (chain f)) l (drop (i + 1) (chain f))
  pub before : length (take i (chain f)) ≡ i
  pub reads : link_at (afters reader start (take i (chain f))) (drop p f) ≡ some l
  pub link_is : l ≡ link_front p (drop p f)
  pub offset_is : l.offset ≡ p
  pub id_is : l.id ≡ id_at f p
  pub kind_is : l.kind ≡ kind_at f p
  pub flags_is : l.flags ≡ flags_at f p
  pub hash_is : l.hash ≡ take 16 (drop (p + 0x28) f)
  pub length_is : length l.payload ≡ length_at f p
  pub payload_is : l.payload ≡ take (length l.payload) (drop (p + 64) f)
  pub whole_is : whole l ≡ whole_at f p (length l.payload)
  pub room : p + (64 + length l.payload) ≤ length f
  pub ends : p + size l ≤ length f
