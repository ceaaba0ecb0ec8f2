use Rattle.std.proofs.Common.{◌≡◌, ◌∙◌, length, arith}
use Rattle.idmap.specs.Decode.{groups}
use Rattle.idmap.proofs.EncodeLaws.{length_head}
use Rattle.idmap.proofs.DeltaLaws.{groups_ceil}
use Rattle.idmap_write.proofs.WriteLaws.{raw_facts, delta_facts, whole_laid}
use Rattle.idmap_write.proofs.Map.put.Goals as goal

pub put_head-requires : goal.put_head-requires
put_head-requires c =
    let f = raw_facts _ _ _ c.args.self.now.held c.if-self-eq0.true in
    omega (arith, f.size, c.requires)

pub put_raw-requires : goal.put_raw-requires
put_raw-requires c =
    let f = raw_facts _ _ _ c.args.self.now.held c.if-self-eq0.true in
    omega (arith, f.size, c.requires, c.put_head.auto.buf)

pub returns-then-self-eq0 : goal.returns-then-self-eq0
returns-then-self-eq0 c =
    let f = raw_facts _ _ _ c.args.self.now.held c.if-self-eq0.true in
    rw f.bytes
    (whole_laid _ _ _ _ _ (length_head 0 0 _) (omega (arith, f.size, c.requires)) c.put_head.ensures c.put_raw.ensures)

pub put_head-requires-2 : goal.put_head-requires-2
put_head-requires-2 c =
    let f = delta_facts _ _ _ _ c.args.self.now.held c.if-self-eq0.false c.interval_of-r.ensures in
    omega (arith, f.size, c.requires)

pub put_deltas-requires : goal.put_deltas-requires
put_deltas-requires c =
    let f = delta_facts _ _ _ _ c.args.self.now.held c.if-self-eq0.false c.interval_of-r.ensures in
    let g : c.div_ceil.result ≡ groups (length c.args.self.now.ids.now) c.interval_of-r.result = c.div_ceil.ensures ∙ groups_ceil _ _ f.pos in
    record {
      r_nonzero = (f.pos, f.up);
      start_value = omega (arith, f.begins);
      ids_in_bounds = omega (arith, f.size, c.requires, c.put_head-2.auto.buf);
    }

pub returns : goal.returns
returns c =
    let f = delta_facts _ _ _ _ c.args.self.now.held c.if-self-eq0.false c.interval_of-r.ensures in
    rw f.bytes
    (whole_laid _ _ _ _ _ (length_head 1 _ _) (omega (arith, f.size, c.requires)) c.put_head-2.ensures c.put_deltas.ensures)

pub div_ceil-requires : goal.div_ceil-requires
div_ceil-requires c = (delta_facts _ _ _ _ c.args.self.now.held c.if-self-eq0.false c.interval_of-r.ensures).pos
