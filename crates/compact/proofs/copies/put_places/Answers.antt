-- `compact::copies::put_places` meets its contract, by where the loop over the places stands.
use Rattle.std.proofs.Common.{arith}
use Rattle.compact.proofs.copies.PlaceLaws.{placed_next, placed_last}
use Rattle.compact.proofs.copies.put_places.Goals as goal

pub loop-i-preserved : goal.loop-i-preserved
loop-i-preserved c = placed_next _ _ _ _ _ c.loop-i.invariant (omega arith) c.requires _ c.put.ensures

pub returns : goal.returns
returns c = placed_last _ _ _ _ _ c.loop-i.invariant (omega arith)
