use Rattle.std.proofs.Common.{refl, sym, arith}
use Rattle.opening.proofs.CandidateLaws.{before_lies, before_is}
use Rattle.opening.proofs.candidate.Goals as goal

pub is_confirmed-requires-clause-inside : goal.is_confirmed-requires-clause-inside
is_confirmed-requires-clause-inside c = before_lies _ _ _ _ (sym c.requires.before) c.requires.numbered

pub returns : goal.returns
returns c =
    before_is _ _ _ _ (sym c.requires.before) c.requires.numbered
    (λ k. omega (arith, c.type_inv.file k)) _ _ _ _ c.u64_at-len.ensures refl c.u64_at-id.ensures c.is_confirmed.ensures
