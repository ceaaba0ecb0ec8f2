-- THE THEOREM of demand 3, over every list of appends from the empty file or from any file that opens. And of a start that is neither: every append
-- refuses, and the file stays.
-- Assumes nothing.
use Rattle.std.specs.Prelude.{ℕ, ◌≡◌, refl, List, length}
use Rattle.std.proofs.Common.{◌∙◌, arith}
use Rattle.std.proofs.Math.Option.{none}
use Rattle.answers.specs.Answer.{Answer, Accepted, Refusal}
use Rattle.appending.specs.Append.{Appends, Holds}
use Rattle.appending.proofs.Buffer.{AppendedBy, appended}
use Rattle.claim.specs.Model.{Model}
use Rattle.claim.specs.Demand3.{Call, file_after, Run, stop, call, or_before, last_accepted, Starts, Demand3, Closed}
use Rattle.claim.proofs.ClaimHolds.{every_run, every_call}
use Rattle.claim.proofs.CutHolds.{cut_alike, cut_again, last_append}

pub demand3 : {f g : List ℕ} {cs : List Call} {k : Model} → Starts f k → (r : Run f cs g) → Demand3 k r
demand3 s r =
    record {
      claim = every_run s r;
      untouched = every_call r;
      dropped = λ a e. last_append r a e;
      cut = λ l k h. record { alike = cut_alike l k h; again = cut_again l k h };
    }

-- ---- a start without a model

no_accept : (f old new batch ids : List ℕ) (ts : ℕ) (answer : Answer) → Closed f → Holds old f → Appends old (length f) batch ids ts answer new
    → (or_before none answer ≡ none) × (file_after f new answer ≡ f)
unfolding or_before file_after Closed
no_accept f old new batch ids ts (Refusal n vs) c h a = (refl, refl)
no_accept f old new batch ids ts (Accepted vs) c h a =
    let w : AppendedBy f old batch ids ts vs new = appended f old batch ids ts h vs new a in
    absurd (let z = w.fits.starts_empty (c.1 w.fits.in_limit) in omega (arith, c.0))

pub closed_run : {f g : List ℕ} {cs : List Call} → Closed f → Run f cs g → (g ≡ f) × (last_accepted cs ≡ none)
unfolding last_accepted or_before
closed_run c stop = (refl, refl)
closed_run c (call {f = f} {g = g} {old = old} {new = new} {batch = batch} {ids = ids} {ts = ts} {answer = answer} {cs = cs} h t a r) =
    let n = no_accept f old new batch ids ts answer c h a in
    let rest = closed_run (rw n.1 c) r in
    (rest.0 ∙ n.1, rw (rest.1, n.0))
