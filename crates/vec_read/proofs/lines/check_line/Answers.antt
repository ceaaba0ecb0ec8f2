use Rattle.std.proofs.Common.{sym, ap, ◌∙◌, arith}
use Rattle.vecseg.specs.Payload.{width}
use Rattle.vecseg.proofs.LineLaws.{line_is, line_count_none, line_count_over, line_dim_none, line_dim_over, line_dtype, line_good}
use Rattle.vec_read.proofs.lines.check_line.Goals as goal

pub returns-then-count-lt1 : goal.returns-then-count-lt1
returns-then-count-lt1 c =
    let l = line_is c.args.s.now c.args.at in
    line_count_none _ (omega (arith, l.count))

pub returns-then-count-gt-MAX_VECTORS : goal.returns-then-count-gt-MAX_VECTORS
returns-then-count-gt-MAX_VECTORS c =
    let l = line_is c.args.s.now c.args.at in
    line_count_over _ (omega (arith, l.count))

pub returns-then-dim-lt1 : goal.returns-then-dim-lt1
returns-then-dim-lt1 c =
    let l = line_is c.args.s.now c.args.at in
    line_dim_none _ (omega (arith, l.count)) (omega (arith, l.count)) (omega (arith, l.dim))

pub returns-then-dim-gt-MAX_DIM : goal.returns-then-dim-gt-MAX_DIM
returns-then-dim-gt-MAX_DIM c =
    let l = line_is c.args.s.now c.args.at in
    line_dim_over _ (omega (arith, l.count)) (omega (arith, l.count)) (omega (arith, l.dim))

pub returns-then-width_of-eq0 : goal.returns-then-width_of-eq0
returns-then-width_of-eq0 c =
    let l = line_is c.args.s.now c.args.at in
    line_dtype _ (omega (arith, l.count)) (omega (arith, l.count)) (omega (arith, l.dim)) (omega (arith, l.dim))
    (ap width l.dtype ∙ sym c.width_of.ensures ∙ c.if-width_of-eq0.true)

pub returns : goal.returns
returns c =
    let l = line_is c.args.s.now c.args.at in
    let w = ap width l.dtype ∙ sym c.width_of.ensures in
    line_good _ (omega (arith, l.count)) (omega (arith, l.count)) (omega (arith, l.dim)) (omega (arith, l.dim)) (omega (arith, w))
