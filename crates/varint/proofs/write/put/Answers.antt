use Rattle.std.proofs.Common.{sym, ◌∙◌, arith}
use Rattle.octets.proofs.OverLaws.{over_none}
use Rattle.varint.proofs.WriteLaws.{stands_first, stands_byte, stands_more, stands_last, last_length, laid, all_laid}
use Rattle.varint.proofs.write.put.Goals as goal

pub loop-rest-init : goal.loop-rest-init
loop-rest-init c = (stands_first _ (omega arith), sym (over_none _ _))

pub loop-rest-preserved : goal.loop-rest-preserved
loop-rest-preserved c =
    let g = stands_byte _ _ _ c.loop-rest.invariant.0 c.loop-rest-test.true in
    (stands_more _ _ _ c.loop-rest.invariant.0 c.loop-rest-test.true, laid _ _ _ _ _ _ _ g c.loop-rest.invariant.1 c.requires)

pub returns : goal.returns
returns c =
    let g = stands_last _ _ _ c.loop-rest.invariant.0 c.loop-rest-test.false in
    record { answer = omega (arith, last_length _ _ _ g); out = laid _ _ _ _ _ _ _ g c.loop-rest.invariant.1 c.requires ∙ rw (all_laid _ _ _ g) }

pub bounds-out-at : goal.bounds-out-at
bounds-out-at c =
    let w = (stands_byte _ _ _ c.loop-rest.invariant.0 c.loop-rest-test.true).within in
    omega arith

pub bounds-out-at-2 : goal.bounds-out-at-2
bounds-out-at-2 c =
    let w = (stands_last _ _ _ c.loop-rest.invariant.0 c.loop-rest-test.false).within in
    omega arith
