use Rattle.opening.proofs.Opened.{open_long, open_within}
use Rattle.opening.proofs.open_with.Goals as goal

pub returns-then-file-gt-MAX_FILE-clause-answer :
    goal.returns-then-file-gt-MAX_FILE-clause-answer
returns-then-file-gt-MAX_FILE-clause-answer c = open_long _ c.if-file-gt-MAX_FILE.true

pub returns-clause-answer : goal.returns-clause-answer
returns-clause-answer c = open_within _ _ c.if-file-gt-MAX_FILE.false c.find_from_end.ensures
