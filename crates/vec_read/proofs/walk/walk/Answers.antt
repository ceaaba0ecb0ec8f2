use Rattle.std.proofs.Common.{refl, ◌∙◌, arith}
use Rattle.answers.proofs.HandedOn.{handed_on, number_some}
use Rattle.vec_read.proofs.lines.Counts.{counts_more, counts_good}
use Rattle.vec_read.proofs.walk.WalkLaws.{walked_bad}
use Rattle.vec_read.proofs.walk.walk.Goals as goal

pub returns-in_err-check_directory : goal.returns-in_err-check_directory
returns-in_err-check_directory c =
    let n = number_some c.in_err-check_directory.field-0.0 in
    handed_on _ _ c.from_residual.ensures.1
    ∙ walked_bad _ _ _ _ (c.in_err-check_directory.ensures.bad (λ z. omega arith)) (λ z. omega arith)

pub walk_with-requires : goal.walk_with-requires
walk_with-requires c = (omega arith, (c.in_ok-check_directory.ensures.good refl, counts_more _ _ _ _ c.largest_count.ensures c.if-largest_count-le-FEW.true))

pub walk_with-requires-2 : goal.walk_with-requires-2
walk_with-requires-2 c =
    let g = c.in_ok-check_directory.ensures.good refl in
    (omega arith, (g, counts_good _ g))
