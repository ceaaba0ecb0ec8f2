-- What opening found before document 02, §4, when fewer types were sound; and what a manifest that was confirmed then is now. Definitions only.
-- Assumes nothing.
use Rattle.std.specs.Prelude.{ℕ, Bool, true, cond, ◌&&◌, ◌||◌, ◌≡◌, List, [], ◌∷◌, ◌++◌, leb}
use Rattle.std.proofs.Math.Option.{Option, none, some}
use Rattle.segment.specs.chain.Chain.{All, Reader, Found, walk, open_of}
use Rattle.segment.specs.Header.{Link, State, start, reader, link_at, size, after}
use Rattle.manifest.specs.Payload.{confirmed}
use Rattle.manifest.specs.Opening.{opened}

-- 'type 0x01 to 0x0C or 0xF0 to 0xFF', as document 01 had it
unfoldable pub former_type : ℕ → Bool
former_type t = (leb 0x01 t && leb t 0x0C) || (leb 0xF0 t && leb t 0xFF)

-- links of such types alone
abbrev pub FormerTypes : List Link → Type 0
FormerTypes ls = All (λ (l : Link). former_type l.kind ≡ true) ls

-- sound then: sound now, and of such a type
unfoldable pub former_link : Option Link → Option Link
former_link none = none
former_link (some l) = cond (former_type l.kind) (some l) none

-- the same format otherwise: sizes, and what the next link is read with
abbrev pub former_reader : Reader State Link
former_reader = record { link_at = λ st s. former_link (link_at st s); size = size; after = after }

-- 'The chain from byte 0', as it was
unfoldable pub former_chain : List ℕ → List Link
former_chain f = walk former_reader start f

-- 'The file's manifest', as it was: confirmation is the same
unfoldable pub former_opened : List ℕ → Option (Found Link)
former_opened f = open_of former_reader confirmed start f

-- a manifest stands behind the same links now, and is confirmed by them; opening finds it, or one behind it
pub record StaysConfirmed (f : List ℕ) (before : List Link) (manifest : Link) : Type 0 where
  pub rest : List Link
  pub stands : walk reader start f ≡ before ++ manifest ∷ rest
  pub holds : confirmed before manifest ≡ true
  pub found : Found Link
  pub opens : opened f ≡ some found
  pub between : List Link
  pub not_before : found.before ++ found.link ∷ [] ≡ before ++ manifest ∷ between
