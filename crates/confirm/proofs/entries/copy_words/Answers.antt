use Rattle.confirm.proofs.entries.Laid.{copied_over}
use Rattle.confirm.proofs.entries.copy_words.Goals as goal

pub returns : goal.returns
returns c = copied_over _ _ c.args.file.now _ c.args.from 16 c.copy_from_slice.ensures.after c.requires.1
