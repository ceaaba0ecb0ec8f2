-- `compact::compact` meets its contract, by what opening answers.
use Rattle.std.proofs.Common.{sym, ◌∙◌}
use Rattle.answers.proofs.HandedOn.{handed_on}
use Rattle.opening.proofs.Indexed.{opened_at}
use Rattle.opening.proofs.FileManifestLaws.{manifest_at}
use Rattle.compact.proofs.CompactLaws.{compact_refused}
use Rattle.compact.proofs.compact.Goals as goal

pub returns-in_err-manifest-clause-answer : goal.returns-in_err-manifest-clause-answer
returns-in_err-manifest-clause-answer c = handed_on _ _ c.from_residual.ensures.1 ∙ (compact_refused _ c.args.buf.now _ (sym c.in_err-manifest.ensures.answer)).0

pub returns-in_err-manifest-clause-buf : goal.returns-in_err-manifest-clause-buf
returns-in_err-manifest-clause-buf c = (compact_refused _ c.args.buf.now _ (sym c.in_err-manifest.ensures.answer)).1

pub compact_from-requires-clause-indexed : goal.compact_from-requires-clause-indexed
compact_from-requires-clause-indexed c =
    let w = manifest_at _ _ (sym c.in_ok-manifest.ensures.answer) in
    c.in_ok-manifest.ensures.offsets (opened_at _ _ _ w.0 _ _ w.1).within

pub compact_from-requires-clause-manifest_at : goal.compact_from-requires-clause-manifest_at
compact_from-requires-clause-manifest_at c =
    let w = manifest_at _ _ (sym c.in_ok-manifest.ensures.answer) in
    opened_at _ _ _ w.0 _ _ w.1
