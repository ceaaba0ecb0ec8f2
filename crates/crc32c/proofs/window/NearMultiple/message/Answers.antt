-- The registers that the window stands for, added one by one.
use Rattle.std.proofs.Common.{◌∙◌, ap, List, arith, length, ℕ}
use Rattle.std.proofs.lemmas.List.{length-replicate}
use Rattle.crc32c.specs.Sparse.{sum}
use Rattle.crc32c.specs.Span.{span}
use Rattle.crc32c.specs.Window.{held}
use Rattle.crc32c.specs.Start.{reach_of, size_of}
use Rattle.crc32c.proofs.Span.{Leaves, span_none, added, left_by}
use Rattle.crc32c.proofs.window.NearMultiple.message.Goals as goal

pub add-requires : goal.add-requires
unfolding size_of
add-requires c = let long = ap length c.requires.0 ∙ length-replicate {A = ℕ} 299 0 in (omega arith, omega arith)

pub add-requires-2 : goal.add-requires-2
unfolding size_of
add-requires-2 c = let long = ap length c.requires.0 ∙ length-replicate {A = ℕ} 299 0 in (omega arith, omega arith)

pub add-requires-3 : goal.add-requires-3
unfolding size_of
add-requires-3 c = let long = ap length c.requires.0 ∙ length-replicate {A = ℕ} 299 0 in (omega arith, omega arith)

pub add-requires-4 : goal.add-requires-4
unfolding size_of
add-requires-4 c = let long = ap length c.requires.0 ∙ length-replicate {A = ℕ} 299 0 in (omega arith, omega arith)

pub add-requires-5 : goal.add-requires-5
unfolding size_of
add-requires-5 c = let long = ap length c.requires.0 ∙ length-replicate {A = ℕ} 299 0 in (omega arith, omega arith)

pub returns : goal.returns
unfolding held sum reach_of size_of
returns c =
    let w = c.args.w.now in
    let l0 : Leaves c.args.m.now 299 0 = (ap length c.requires.0 ∙ length-replicate {A = ℕ} 299 0, ap (λ (l : List ℕ). span l 0 299) c.requires.0 ∙ span_none 299 299) in
    let l1 = added _ _ w 0 21 299 _ l0 c.add.ensures in
    let l2 = added _ _ w 0 62 299 _ l1 c.add-2.ensures in
    let l3 = added _ _ w 0 134 299 _ l2 c.add-3.ensures in
    let l4 = added _ _ w 0 142 299 _ l3 c.add-4.ensures in
    left_by _ 299 _ (added _ _ w 0 299 299 _ l4 c.add-5.ensures)
