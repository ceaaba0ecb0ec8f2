-- The laws of specs/FileManifest.antt.
-- Assumes nothing.
use Rattle.std.specs.Prelude.{ℕ, ◌≤◌, ◌≡◌, refl, List, length, Result, Ok, Err}
use Rattle.std.proofs.Common.{sym, ap, ◌∙◌, lt_of_not-le, arith}
use Rattle.std.proofs.Math.Option.{Option, none, some}
use Rattle.std.proofs.Math.Decide.{dec_le}
use Rattle.answers.specs.limits.Limits.{max_file}
use Rattle.segment.specs.chain.Chain.{Found}
use Rattle.segment.specs.Header.{Link}
use Rattle.manifest.specs.Opening.{opened, at_opened, found_case, opened_case}
use Rattle.manifest.proofs.OpeningLaws.{at_long, at_within}
use Rattle.manifest.specs.declared.Opened.{Opened}
use Rattle.manifest.specs.declared.Opened.TheVariants.{At, NoManifest}
use Rattle.opening.specs.declared.FileManifest.{FileManifest}
use Rattle.opening.specs.FileManifest.{manifest_of}

-- the three ways out
pub told_refused : (f : List ℕ) (n : ℕ) → opened_case f ≡ Err n → Err n ≡ manifest_of (opened_case f)
unfolding manifest_of
told_refused f n e = rw e

pub told_none : (f : List ℕ) (t : ℕ) → opened_case f ≡ Ok (NoManifest t) → Err 2 ≡ manifest_of (opened_case f)
unfolding manifest_of
told_none f t e = rw e

pub told_at : (f : List ℕ) (offset end id count t : ℕ) → opened_case f ≡ Ok (At offset end id count t)
    → Ok (record { offset = offset; end = end; count = count; tried = t }) ≡ manifest_of (opened_case f)
unfolding manifest_of
told_at f offset end id count t e = rw e

-- opening answered a manifest
pub manifest_at : (f : List ℕ) (m : FileManifest) → manifest_of (opened_case f) ≡ Ok m → (id : ℕ) × (opened_case f ≡ Ok (At m.offset m.end id m.count m.tried))
unfolding manifest_of
manifest_at f m e = go (opened_case f) e
  where
    go : (o : Result Opened ℕ) → manifest_of o ≡ Ok m → (id : ℕ) × (o ≡ Ok (At m.offset m.end id m.count m.tried))
    go (Ok (At a b i c d)) q =
        let p : record { offset = a; end = b; count = c; tried = d } ≡ m = cc in
        (i, ap (λ (x : FileManifest). Ok (At x.offset x.end i x.count x.tried)) p)
    go (Ok (NoManifest d)) q = absurd (let z : ◌≡◌ {A = ℕ} 0 1 = cc in omega arith)
    go (Err n) q = absurd (let z : ◌≡◌ {A = ℕ} 0 1 = cc in omega arith)

-- a call that answers R of a number where it refuses, 1 above the limit and 2 without a manifest, refuses by the number that is handed on
pub refused_alike : {A : Type 0} (R : ℕ → A) (g : Option (Found Link) → A) (f : List ℕ) (n : ℕ) → g none ≡ R 2 → manifest_of (opened_case f) ≡ Err n
    → R n ≡ at_opened (R 1) g f
unfolding manifest_of opened_case found_case
refused_alike R g f n two e = go (dec_le (length f) max_file)
  where
    within : length f ≤ max_file → (o : Option (Found Link)) → opened f ≡ o → manifest_of (Ok (found_case f o)) ≡ Err n → R n ≡ at_opened (R 1) g f
    within h none p q =
        let z : 2 ≡ n = cc in
        ap R (sym z) ∙ sym two ∙ ap g (sym p) ∙ sym (at_within (R 1) g f h)
    within h (some r) p q = absurd (let z : ◌≡◌ {A = ℕ} 0 1 = cc in omega arith)

    go : Dec (length f ≤ max_file) → R n ≡ at_opened (R 1) g f
    go (yes h) = within h (opened f) refl (ap manifest_of (sym (at_within (Err 1) (λ o. Ok (found_case f o)) f h)) ∙ e)
    go (no h) =
        let l : ◌≡◌ {A = Result FileManifest ℕ} (Err 1) (Err n) = ap manifest_of (sym (at_long (Err 1) (λ o. Ok (found_case f o)) f (lt_of_not-le h))) ∙ e in
        let z : 1 ≡ n = cc in
        ap R (sym z) ∙ sym (at_long (R 1) g f (lt_of_not-le h))
