-- The fields are laid one behind the other.
use Rattle.std.proofs.Common.{length-set, arith}
use Rattle.confirm.proofs.entries.Laid.{entry_laid, stored}
use Rattle.confirm.proofs.entries.put_entry.Goals as goal

pub returns : goal.returns
returns c =
    entry_laid c.args.buf.now c.args.file.now _ _ _ _ _ _ _ c.args.at c.args.offset c.args.state _
    (λ i. omega (arith, c.type_inv.file i)) c.u16_at-flags.ensures c.requires.0 c.requires.1
    c.put.ensures c.copy_words.ensures c.copy_words-2.ensures (stored _ _ _ (omega arith))
    (stored _ _ _ (simp length-set (omega arith))) c.put-2.ensures c.put-3.ensures
