-- What opening answers, by cases, and document 01's number and values for each case.
-- Assumes nothing.
use Rattle.std.specs.Prelude.{ℕ, ◌+◌, ◌-◌, ◌/◌, ◌≤◌, ◌<◌, ◌≡◌, refl, Bool, true, false, ◌&&◌, List, eqb, length, drop, Ok, Err}
use Rattle.std.proofs.Common.{sym, ap, ◌∙◌}
use Rattle.std.proofs.Math.Option.{none, some}
use Rattle.std.proofs.lemmas.Bool.{lt-leb}
use Rattle.octets.specs.Zero.{same_bytes}
use Rattle.answers.specs.limits.Limits.{max_file, max_entries}
use Rattle.segment.specs.Header.{Link, whole, size}
use Rattle.manifest.specs.Payload.{manifest_kind, states_held, states_in, manifest_payload, confirmed}
use Rattle.manifest.specs.Opening.{opened, tried, found_case, opened_case}
use Rattle.manifest.proofs.OpeningLaws.{at_long, at_within}
use Rattle.manifest.specs.declared.Opened.{Opened}
use Rattle.manifest.specs.declared.Opened.TheVariants.{At, NoManifest}

-- ---- the ways out

pub open_long : (f : List ℕ) → max_file < length f → Err 1 ≡ opened_case f
unfolding opened_case
open_long f h = sym (at_long (Err 1) (λ o. Ok (found_case f o)) f h)

pub open_within : (f : List ℕ) (o : Opened) → length f ≤ max_file → o ≡ found_case f (opened f) → Ok o ≡ opened_case f
unfolding opened_case
open_within f o h e = ap (λ (x : Opened). Ok x) e ∙ sym (at_within (Err 1) (λ o. Ok (found_case f o)) f h)

-- confirmation is refused where more links stand before than a directory has room for
and_false : (a b c d : Bool) → ((((a && false) && b) && c) && d) ≡ false
and_false true b c d = refl
and_false false b c d = refl

pub bounded : (b : List Link) (l : Link) → max_entries < length b → confirmed b l ≡ false
unfolding confirmed
bounded b l h =
    rw (lt-leb (length b) max_entries h)
    (and_false (eqb l.kind manifest_kind) (whole l) (states_held b (states_in (length b) (drop 8 l.payload)))
    (same_bytes l.payload (manifest_payload b (states_in (length b) (drop 8 l.payload)) l.offset l.id)))

-- the search's ends: all boundaries are tried, or one is found
pub found_none : (f : List ℕ) (t : ℕ) → opened f ≡ none → t ≡ length f / 64 → NoManifest t ≡ found_case f (opened f)
unfolding found_case tried
found_none f t e p = rw (e, p)

pub found_at : (f : List ℕ) (b : List Link) (l : Link) (offset end id count t : ℕ) → opened f ≡ some (record { before = b; link = l })
    → offset ≡ l.offset → end ≡ l.offset + size l → id ≡ l.id → count ≡ length b → t ≡ length f / 64 - l.offset / 64
    → At offset end id count t ≡ found_case f (opened f)
unfolding found_case tried
found_at f b l offset end id count t e p q r c u = rw (e, p, q, r, c, u)
