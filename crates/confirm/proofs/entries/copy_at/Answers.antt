use Rattle.confirm.proofs.entries.Laid.{copied}
use Rattle.confirm.proofs.entries.copy_at.Goals as goal

pub returns : goal.returns
returns c = copied _ _ c.args.file.now _ c.args.from c.args.n c.copy.ensures c.requires.0 c.requires.1
