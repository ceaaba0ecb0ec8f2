use borrow.Author.Tests.{ne_eqb}
use Rattle.idmap.specs.Encode.{interval_of}
use Rattle.idmap_write.proofs.interval_of.Goals as goal

pub returns-then-interval-eq0 : goal.returns-then-interval-eq0
unfolding interval_of
returns-then-interval-eq0 c = rw c.if-interval-eq0.true

pub returns : goal.returns
unfolding interval_of
returns c = rw (ne_eqb c.args.interval 0 c.if-interval-eq0.false)
