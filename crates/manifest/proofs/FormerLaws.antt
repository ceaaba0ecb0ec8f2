-- A manifest that was confirmed before document 02, §4, stays confirmed; a file without the types that were shut out then opens as it did.
-- Assumes nothing.
use Rattle.std.specs.Prelude.{ℕ, ◌≡◌, true, List, ◌∷◌, ◌++◌}
use Rattle.std.proofs.Common.{ap, ◌∙◌, append_assoc}
use Rattle.std.proofs.Math.Option.{Option, none, some}
use Rattle.segment.specs.chain.Chain.{Found, walk, open_of, last_confirmed}
use Rattle.segment.proofs.chain.Framed.{cond_some}
use Rattle.segment.specs.chain.Last.{LastIn}
use Rattle.segment.proofs.chain.Last.{last_stands, AtOrBehind, last_behind}
use Rattle.segment.proofs.chain.Wider.{walk_wider, walk_same}
use Rattle.segment.specs.Header.{Link, start, reader, link_at, size, after}
use Rattle.segment.specs.Chained.{chain}
use Rattle.manifest.specs.Payload.{confirmed}
use Rattle.manifest.specs.Opening.{opened}
use Rattle.manifest.specs.Former.{former_type, FormerTypes, former_link, former_chain, former_opened, StaysConfirmed}

-- what was read then is read now
former_read : (o : Option Link) (l : Link) → former_link o ≡ some l → o ≡ some l
unfolding former_link
former_read none l e = e
former_read (some m) l e = (cond_some (former_type m.kind) (some m) l e).1

wider : (f : List ℕ) → (more : List Link) × (chain f ≡ former_chain f ++ more)
unfolding former_chain
wider f = walk_wider (λ st s. former_link (link_at st s)) link_at size after (λ st s l e. former_read (link_at st s) l e) start f

pub stays_confirmed : (f : List ℕ) (before rest : List Link) (manifest : Link) → former_chain f ≡ before ++ manifest ∷ rest
    → confirmed before manifest ≡ true → StaysConfirmed f before manifest
unfolding opened open_of
stays_confirmed f before rest manifest e h =
    let w = wider f in
    let now : chain f ≡ before ++ manifest ∷ (rest ++ w.0) =
    w.1 ∙ ap (λ (ls : List Link). ls ++ w.0) e ∙ append_assoc before (manifest ∷ rest) w.0 in
    let b : AtOrBehind confirmed before manifest (last_confirmed confirmed (before ++ manifest ∷ (rest ++ w.0))) =
    last_behind confirmed before manifest (rest ++ w.0) h in
    record {
      rest = rest ++ w.0;
      stands = now;
      holds = h;
      found = b.found;
      opens = ap (last_confirmed confirmed) now ∙ b.is;
      between = b.between;
      not_before = b.up_to_is;
    }

-- the manifest that opening found then
pub found_stays : (f : List ℕ) (r : Found Link) → former_opened f ≡ some r → StaysConfirmed f r.before r.link
unfolding former_opened open_of former_chain
found_stays f r e =
    let s : LastIn confirmed (former_chain f) r = last_stands confirmed (former_chain f) r e in
    stays_confirmed f r.before s.rest r.link s.split s.holds

-- what is read now and has such a type was read then
held_read : (o : Option Link) (l : Link) → o ≡ some l → former_type l.kind ≡ true → former_link o ≡ some l
unfolding former_link
held_read o l e t = rw (e, t)

-- a file that has none of the types that were shut out then
pub opens_as_before : (f : List ℕ) → FormerTypes (walk reader start f) → opened f ≡ former_opened f
unfolding opened former_opened open_of
opens_as_before f t =
    ap (last_confirmed confirmed)
    (walk_same (λ st s. former_link (link_at st s)) link_at size after (λ st s l e. former_read (link_at st s) l e) (λ (l : Link). former_type l.kind ≡ true)
    (λ st s l e. held_read (link_at st s) l e) start f t)
