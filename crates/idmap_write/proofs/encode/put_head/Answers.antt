use Rattle.std.proofs.Common.{arith, length-set, ◌∙◌}
use Rattle.idmap_write.proofs.encode.Put.{head_laid}
use Rattle.idmap_write.proofs.encode.put_head.Goals as goal

pub put-requires : goal.put-requires
put-requires c = simp length-set (omega arith)

pub put-requires-2 : goal.put-requires-2
put-requires-2 c =
    omega (arith, c.put.auto.s, length-set c.args.buf.now 0 c.args.encoding)

pub shape_of-buf : goal.shape_of-buf
shape_of-buf c =
    c.put-2.auto.s ∙ c.put.auto.s ∙ length-set c.args.buf.now 0 c.args.encoding

pub returns : goal.returns
returns c =
    head_laid c.args.buf.now _ _ _ _ _ c.requires c.put.ensures c.put-2.ensures
