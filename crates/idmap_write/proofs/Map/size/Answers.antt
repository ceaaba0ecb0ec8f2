use Rattle.std.proofs.Common.{◌≡◌, sym, ◌∙◌, length, arith}
use Rattle.idmap.specs.Decode.{groups}
use Rattle.idmap.proofs.DeltaLaws.{groups_ceil}
use Rattle.idmap_write.proofs.WriteLaws.{raw_facts, delta_facts}
use Rattle.idmap_write.proofs.Map.size.Goals as goal

pub returns-then-self-eq0-clause-size : goal.returns-then-self-eq0-clause-size
returns-then-self-eq0-clause-size c = sym (raw_facts _ _ _ c.args.self.now.held c.if-self-eq0.true).size

pub returns-then-self-eq0-clause-bound : goal.returns-then-self-eq0-clause-bound
returns-then-self-eq0-clause-bound c = omega (arith, (raw_facts _ _ _ c.args.self.now.held c.if-self-eq0.true).most)

pub div_ceil-requires : goal.div_ceil-requires
div_ceil-requires c = (delta_facts _ _ _ _ c.args.self.now.held c.if-self-eq0.false c.interval_of-r.ensures).pos

pub deltas_len-requires : goal.deltas_len-requires
deltas_len-requires c =
    let f = delta_facts _ _ _ _ c.args.self.now.held c.if-self-eq0.false c.interval_of-r.ensures in
    (f.most, (f.pos, f.up))

pub returns : goal.returns
returns c =
    let f = delta_facts _ _ _ _ c.args.self.now.held c.if-self-eq0.false c.interval_of-r.ensures in
    let g : c.div_ceil.result ≡ groups (length c.args.self.now.ids.now) c.interval_of-r.result = c.div_ceil.ensures ∙ groups_ceil _ _ f.pos in
    record {
      size = omega (arith, f.size, c.deltas_len.ensures.0);
      bound = omega (arith, f.at_most, f.most, f.small, c.deltas_len.ensures.1);
    }
