-- By what opening answers.
use Rattle.std.proofs.Common.{sym, ◌∙◌, ap}
use Rattle.std.specs.Prelude.{Ok}
use Rattle.std.proofs.lemmas.Result.{err_from_is_err_and}
use Rattle.manifest.specs.declared.Opened.{Opened}
use Rattle.opening.proofs.FileManifestLaws.{told_refused, told_none, told_at}
use Rattle.opening.proofs.file_manifest.Goals as goal

pub returns-in_err-open_with-clause-answer : goal.returns-in_err-open_with-clause-answer
returns-in_err-open_with-clause-answer c =
    let p = err_from_is_err_and c.from_residual.result c.from_residual.ensures.1 in
    rw (p.1, p.2) (told_refused _ _ (sym c.in_err-open_with.ensures.answer))

pub returns-in-NoManifest-clause-answer : goal.returns-in-NoManifest-clause-answer
returns-in-NoManifest-clause-answer c =
    told_none _ _ (sym c.in_ok-open_with.ensures.answer ∙ ap (λ (o : Opened). Ok o) c.in-NoManifest.is)

pub returns-in-At-clause-answer : goal.returns-in-At-clause-answer
returns-in-At-clause-answer c =
    told_at _ _ _ _ _ _ (sym c.in_ok-open_with.ensures.answer ∙ ap (λ (o : Opened). Ok o) c.in-At.is)
