-- `append::vectors::body_summed` meets its contract, by the type of the body.
use Rattle.append.proofs.vectors.Vectors.{body_other, body_checked}
use Rattle.append.proofs.vectors.body_summed.Goals as goal

pub returns-then-kind-ne-KIND : goal.returns-then-kind-ne-KIND
returns-then-kind-ne-KIND c = body_other _ _ _ c.kind.ensures c.body-body.ensures.bytes c.if-kind-ne-KIND.true _ c.checksum.ensures

pub returns : goal.returns
returns c = body_checked _ _ _ c.kind.ensures c.body-body.ensures.bytes c.if-kind-ne-KIND.false _ c.check_summed.ensures
