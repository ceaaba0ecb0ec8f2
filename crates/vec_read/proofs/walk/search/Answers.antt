use Rattle.std.proofs.Common.{◌∙◌, Some, true, refl, arith}
use Rattle.answers.proofs.HandedOn.{handed_on, number_some}
use Rattle.vec_read.proofs.lines.Counts.{counts_more, counts_good}
use Rattle.vec_read.proofs.walk.WalkLaws.{walked_bad, searched_walk}
use Rattle.vec_read.proofs.walk.search.Goals as goal

pub returns-in_err-check_directory : goal.returns-in_err-check_directory
returns-in_err-check_directory c =
    let n = number_some c.in_err-check_directory.field-0.0 in
    handed_on _ _ c.from_residual.ensures.1
    ∙ walked_bad true _ (Some c.args.id) _ (c.in_err-check_directory.ensures.bad (λ z. omega arith)) (λ z. omega arith) ∙ searched_walk _ _

pub walk_blocks-requires : goal.walk_blocks-requires
walk_blocks-requires c =
    let g = c.in_ok-check_directory.ensures.good refl in
    (g, counts_more _ _ _ _ (counts_good _ g) (omega arith))

pub returns : goal.returns
returns c = c.walk_blocks.ensures ∙ searched_walk _ _
