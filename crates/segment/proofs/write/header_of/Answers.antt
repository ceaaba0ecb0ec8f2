-- The fields are laid over zeros.
use Rattle.std.proofs.Common.{arith}
use Rattle.segment.proofs.write.Laid.{header_laid}
use Rattle.segment.proofs.write.header_of.Goals as goal

pub returns : goal.returns
returns c =
    header_laid _ _ _ _ _ c.args.hash _ _ _ _ _ _ (omega (arith, c)) c.copy.ensures c.put.ensures
    c.put-2.ensures c.put-3.ensures c.put-4.ensures c.copy-2.ensures
