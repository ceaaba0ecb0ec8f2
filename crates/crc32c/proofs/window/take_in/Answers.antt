use Rattle.std.proofs.Common.{◌∙◌, ap, sym, ℕ, List, arith, length, length-drop}
use Rattle.crc32c.specs.Crc.{crc_from}
use Rattle.crc32c.specs.Window.{held}
use Rattle.crc32c.specs.Start.{reach_of}
use Rattle.crc32c.proofs.WindowLaws.{part_taken}
use Rattle.crc32c.proofs.Chunks.{left_first, left_next, left_last}
use Rattle.crc32c.proofs.window.take_in.Goals as goal

pub loop-part-init : goal.loop-part-init
loop-part-init g c = record { left = left_first _ _ 8192 (cc); chunk = cc; same = cc }

pub loop-part-preserved : goal.loop-part-preserved
loop-part-preserved g c =
    let steps = c.in-Some.ensures.steps in
    let long = steps.1.1 ∙ c.loop-part.invariant.chunk in
    record {
      left = left_next _ _ c.in-Some.part.now _ 8192 c.loop-part.invariant.left steps.1.0 long;
      chunk = steps.0 ∙ c.loop-part.invariant.chunk;
      same =
          part_taken _ c.loop-part.w c.run.new.w _ _ c.in-Some.part.now _ 8192 steps.1.0 long c.run.ensures c.bring_down.ensures
          ∙ c.loop-part.invariant.same;
    }

pub returns : goal.returns
returns g c =
    let all = left_last _ _ 8192 c.loop-part.invariant.left (omega (arith, c.in-None.ensures.steps.1.0)) in
    let rest = c.remainder-rest.ensures ∙ c.chunks_exact-parts.ensures.remainder in
    let long = ap length rest in (
      c.run-2.ensures
          ∙ ap (λ (l : List ℕ). crc_from (held (reach_of g.M.Multiple.is_far) c.loop-part.w 0) l) (rest ∙ sym all)
          ∙ c.loop-part.invariant.same,
      omega (arith, length-drop {A = ℕ}),
    )
