-- A refusal that a `?` hands on: its number is that of the call that refused.
-- Assumes nothing.
use Rattle.std.specs.Prelude.{◌≡◌, ◌<◌, Result, Err}
use Rattle.std.specs.Result.{IsErrAnd}
use Rattle.std.proofs.Common.{arith, ap, ◌∙◌}
use Rattle.std.proofs.lemmas.Result.{err_from_is_err_and}
use Rattle.answers.specs.Answer.{refusal_number, numbered, refused_by}
use Rattle.answers.specs.declared.Refusal.{Refusal}
use Rattle.answers.specs.declared.Refusal.TheVariants.{FileTooLong, NoManifest, NotLive, ContentHash, Layout, Dtype, BlockChecksum, NoVector, NoRoom, Batch, Retire, DirectoryFull, IdsUsedUp, Input, ReservedType}

module _ {A : Type 0} (r : Result A Refusal) (e : Refusal) (h : IsErrAnd r (λ x. x ≡ e)) where
  abbrev err-of : Refusal → Result A Refusal
  err-of x = Err x

  pub handed_err : r ≡ Err e
  handed_err = let p = err_from_is_err_and r h in p.1 ∙ ap (λ (x : Refusal). err-of x) p.2

  pub handed_on : numbered r ≡ Err (refusal_number e)
  handed_on =
      let p = err_from_is_err_and r h in
      ap numbered p.1 ∙ ap (λ (x : Refusal). numbered {A = A} (Err x)) p.2

  pub handed_number : refused_by r ≡ refusal_number e
  handed_number =
      let p = err_from_is_err_and r h in
      ap refused_by p.1 ∙ ap refusal_number p.2

-- each refusal has a number above 0, which says that nothing is refused
pub number_some : (e : Refusal) → 0 < refusal_number e
number_some FileTooLong = omega arith
number_some NoManifest = omega arith
number_some NotLive = omega arith
number_some ContentHash = omega arith
number_some Layout = omega arith
number_some Dtype = omega arith
number_some BlockChecksum = omega arith
number_some NoVector = omega arith
number_some NoRoom = omega arith
number_some Batch = omega arith
number_some Retire = omega arith
number_some DirectoryFull = omega arith
number_some IdsUsedUp = omega arith
number_some Input = omega arith
number_some ReservedType = omega arith
