-- The ways out: no manifest, an index at or above the count, or the entry, whose parts stand in the file.
use Rattle.std.proofs.Common.{subst, arith, ◌∙◌}
use Rattle.std.specs.Prelude.{ℕ, ◌≡◌, List, Ok, Some, None}
use Rattle.answers.proofs.HandedOn.{handed_on}
use Rattle.manifest.specs.Directory.{entry_case}
use Rattle.opening.proofs.Indexed.{directory_entry, stands_manifest}
use Rattle.opening.proofs.directory.EntryLemmas.{entry_refused}
use Rattle.opening.proofs.directory.EntryLaws.{entry_past, entry_is}
use Rattle.opening.proofs.directory.entry.Goals as goal

pub returns-in_err-directory : goal.returns-in_err-directory
returns-in_err-directory c = handed_on _ _ c.from_residual.ensures.1 ∙ entry_refused _ _ _ c.in_err-directory.ensures.err

pub returns-then-index-directory : goal.returns-then-index-directory
returns-then-index-directory c =
    let d = c.in_ok-directory.directory in
    subst (λ (f : List ℕ). Ok None ≡ entry_case f c.args.index) c.in_ok-directory.ensures.file
    (entry_past _ _ _ (stands_manifest _ _ _ d.within d.opens) _ c.if-index-directory.true)

pub returns : goal.returns
returns c =
    let d = c.in_ok-directory.directory in
    let a = directory_entry _ _ _ _ d.bytes d.indexed d.room d.within d.opens c.args.index (omega arith) in
    subst (λ (f : List ℕ). Ok (Some c.entry.result) ≡ entry_case f c.args.index) c.in_ok-directory.ensures.file
    (entry_is _ _ _ (stands_manifest _ _ _ d.within d.opens) _ _ (omega arith) a _ c.entry.ensures)
