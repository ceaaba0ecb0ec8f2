-- The record by a pass, the root by the checksum that it holds.
use Rattle.std.proofs.Common.{arith}
use Rattle.confirm.proofs.payload.Sum.{root_known, payload_summed}
use Rattle.confirm.proofs.payload.payload_sum.Goals as goal

pub extend_by-requires : goal.extend_by-requires
extend_by-requires c =
    root_known c.args.payload.now (λ i. omega (arith, c.type_inv.payload i)) c.requires _ _ c.u32_at-stored.ensures c.extend-known.ensures

pub returns : goal.returns
returns c =
    payload_summed c.args.payload.now (λ i. omega (arith, c.type_inv.payload i)) c.requires _ _ c.checksum.ensures c.extend_by.ensures
