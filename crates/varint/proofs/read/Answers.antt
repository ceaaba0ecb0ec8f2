use Rattle.std.proofs.Common.{ne_eqb, ◌∙◌, arith}
use Rattle.varint.proofs.ReadLaws.{read_none, read_one, read_on}
use Rattle.varint.proofs.read.Goals as goal

pub returns-then-s-eq0 : goal.returns-then-s-eq0
returns-then-s-eq0 c = read_none c.args.s.now 0 (omega arith)

pub returns-then-b-lt128 : goal.returns-then-b-lt128
returns-then-b-lt128 c = read_one c.args.s.now 0 _ (omega arith) (omega arith) (omega arith)

pub returns-then-long-eq0 : goal.returns-then-long-eq0
returns-then-long-eq0 c =
    (rw c.if-long-eq0.true at c.read_rest-long.ensures) ∙ read_on c.args.s.now 0 _ (omega arith) (omega arith) (omega arith)

pub returns : goal.returns
returns c = (rw (ne_eqb c.read_rest-long.result.length 0 c.if-long-eq0.false) at c.read_rest-long.ensures) ∙ read_on c.args.s.now 0 _ (omega arith) (omega arith) (omega arith)
