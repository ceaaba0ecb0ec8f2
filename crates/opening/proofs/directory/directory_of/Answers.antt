-- What opening answers of a file is the directory's invariant.
use Rattle.std.proofs.Common.{arith, sym}
use Rattle.opening.proofs.Indexed.{opened_at, manifest_stands}
use Rattle.opening.proofs.FileManifestLaws.{manifest_at}
use Rattle.opening.proofs.directory.directory_of.Goals as goal

pub invariant_of-result : goal.invariant_of-result
invariant_of-result c =
    let w = manifest_at _ _ (sym c.in_ok-manifest.ensures.answer) in
    let m = opened_at _ _ _ w.0 _ _ w.1 in
    record {
      bytes = λ k. omega (arith, c.type_inv.file k);
      room = omega arith;
      indexed = c.in_ok-manifest.ensures.offsets m.within;
      within = m.within;
      opens = manifest_stands _ _ _ m;
    }
