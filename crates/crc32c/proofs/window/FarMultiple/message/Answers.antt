-- The registers that the window stands for, added one by one.
use Rattle.std.proofs.Common.{◌∙◌, ap, List, arith, length, ℕ}
use Rattle.std.proofs.lemmas.List.{length-replicate}
use Rattle.crc32c.specs.Sparse.{sum}
use Rattle.crc32c.specs.Span.{span}
use Rattle.crc32c.specs.Window.{held}
use Rattle.crc32c.specs.Start.{reach_of, size_of}
use Rattle.crc32c.proofs.Span.{Leaves, span_none, added, left_by}
use Rattle.crc32c.proofs.window.FarMultiple.message.Goals as goal

pub add-requires : goal.add-requires
unfolding size_of
add-requires c = let long = ap length c.requires.0 ∙ length-replicate {A = ℕ} 5275 0 in (omega arith, omega arith)

pub add-requires-2 : goal.add-requires-2
unfolding size_of
add-requires-2 c = let long = ap length c.requires.0 ∙ length-replicate {A = ℕ} 5275 0 in (omega arith, omega arith)

pub add-requires-3 : goal.add-requires-3
unfolding size_of
add-requires-3 c = let long = ap length c.requires.0 ∙ length-replicate {A = ℕ} 5275 0 in (omega arith, omega arith)

pub returns : goal.returns
unfolding held sum reach_of size_of
returns c =
    let w = c.args.w.now in
    let l0 : Leaves c.args.m.now 5275 0 = (ap length c.requires.0 ∙ length-replicate {A = ℕ} 5275 0, ap (λ (l : List ℕ). span l 0 5275) c.requires.0 ∙ span_none 5275 5275) in
    let l1 = added _ _ w 0 2751 5275 _ l0 c.add.ensures in
    let l2 = added _ _ w 0 4508 5275 _ l1 c.add-2.ensures in
    left_by _ 5275 _ (added _ _ w 0 5275 5275 _ l2 c.add-3.ensures)
