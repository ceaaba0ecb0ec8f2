-- `append::read_entries` meets its contract, by where its loop stands.
use Rattle.std.proofs.Common.{arith}
use Rattle.append.proofs.Entries.{read_first, read_next, read_last}
use Rattle.append.proofs.read_entries.Goals as goal

pub loop-i-init : goal.loop-i-init
loop-i-init c = read_first _ _ _ _

pub loop-i-preserved : goal.loop-i-preserved
loop-i-preserved c = read_next _ _ _ _ _ _ _ c.loop-i.invariant (omega arith) c.requires.offsets_in_bounds.0 c.requires.offsets_in_bounds.1 _ c.u64_at.ensures

pub returns-clause-entry_ids : goal.returns-clause-entry_ids
returns-clause-entry_ids c = (read_last _ _ _ _ _ _ _ c.loop-i.invariant (omega arith)).0

pub returns-clause-kinds : goal.returns-clause-kinds
returns-clause-kinds c = (read_last _ _ _ _ _ _ _ c.loop-i.invariant (omega arith)).1
