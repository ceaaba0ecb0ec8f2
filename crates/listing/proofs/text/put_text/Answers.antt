-- `listing::text::put_text` meets its contract: too long for the lister, or by what opening answers.
use Rattle.std.proofs.Common.{arith, subst, ap, sym, ◌∙◌}
use Rattle.std.specs.Prelude.{ℕ, List, Err}
use Rattle.manifest.specs.Opening.{opened, tried}
use Rattle.reading.specs.Listing.{list_found}
use Rattle.listing.specs.text.Whole.{OpensAt}
use Rattle.octets.specs.text.Text.{ascii}
use Rattle.octets.specs.text.Written.{Written}
use Rattle.opening.proofs.FileManifestLaws.{manifest_at}
use Rattle.listing.proofs.text.Whole.{list_long, list_refused, found_written, refused_written}
use Rattle.listing.proofs.text.put_text.Goals as goal

pub returns-then-file-gt65536 : goal.returns-then-file-gt65536
unfolding ascii
returns-then-file-gt65536 c = refused_written _ 1 (list_long _ (omega arith)) c.put_number.ensures.buf

pub put_list-requires-clause-opens_at : goal.put_list-requires-clause-opens_at
put_list-requires-clause-opens_at c =
    let m = c.in-Ok.directory.manifest in
    subst (λ (f : List ℕ). OpensAt f m.offset m.end m.count m.tried) (sym c.in-Ok.ensures.file) (manifest_at _ _ c.in-Ok.ensures.manifest)

pub returns-in-Err : goal.returns-in-Err
unfolding ascii
returns-in-Err c =
    refused_written _ _ (list_refused _ _ (omega arith) (c.in-Err.ensures.err ∙ ap Err (sym c.number.ensures))) c.put_number-in-Err.ensures.buf

pub returns-in-Ok : goal.returns-in-Ok
returns-in-Ok c =
    found_written _ (omega arith)
    (subst (λ (f : List ℕ). Written c.args.text.now c.put_list.new.text 0 (list_found (tried f (opened f)) (opened f)) c.put_list.result)
    c.in-Ok.ensures.file c.put_list.ensures)
