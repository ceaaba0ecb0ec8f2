use Rattle.std.proofs.Common.{ne_eqb, ◌∙◌, arith}
use Rattle.varint.proofs.ReadLaws.{read_none, read_one, read_on}
use Rattle.varint.proofs.read_at.Goals as goal

pub returns-then-s-at : goal.returns-then-s-at
returns-then-s-at c = read_none c.args.s.now c.args.at (omega arith)

pub returns-then-b-lt128 : goal.returns-then-b-lt128
returns-then-b-lt128 c = read_one c.args.s.now c.args.at _ (omega arith) (omega arith) (omega arith)

pub returns-then-long-eq0 : goal.returns-then-long-eq0
returns-then-long-eq0 c =
    (rw c.if-long-eq0.true at c.read_rest-long.ensures) ∙ read_on c.args.s.now c.args.at _ (omega arith) (omega arith) (omega arith)

pub returns : goal.returns
returns c = (rw (ne_eqb c.read_rest-long.result.length 0 c.if-long-eq0.false) at c.read_rest-long.ensures) ∙ read_on c.args.s.now c.args.at _ (omega arith) (omega arith) (omega arith)
