use Rattle.std.proofs.Common.{arith, refl}
use Rattle.octets.specs.Round.{round64}
use Rattle.vecseg.proofs.Laid.{padded, directory_laid}
use Rattle.vec_write.proofs.parts.put_directory.Goals as goal

pub clear_part-requires : goal.clear_part-requires
clear_part-requires c = (omega arith, omega arith)

pub returns : goal.returns
unfolding round64
returns c =
    directory_laid c.args.buf.now _ _ _ _ _ _ _ _ _ _ _ c.requires.in_bounds c.requires.dtype_bound.0 c.requires.dtype_bound.1
    c.put.ensures c.put-2.ensures c.put-3.ensures
    c.put-4.ensures c.put-5.ensures c.put-6.ensures (padded _ _ 16 64 refl c.clear_part.ensures)
