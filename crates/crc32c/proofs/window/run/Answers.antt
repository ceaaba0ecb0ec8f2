use Rattle.std.proofs.Common.{◌≡◌, ◌∙◌, sym, ap, ℕ, length, arith, refl}
use Rattle.crc32c.specs.Window.{held}
use Rattle.crc32c.specs.Start.{reach_of}
use Rattle.crc32c.proofs.Words.{crc_from_end}
use Rattle.crc32c.proofs.Start.{turn}
use Rattle.crc32c.proofs.window.run.Goals as goal

pub loop-i-preserved : goal.loop-i-preserved
loop-i-preserved g c =
    let long = c.LONG.ensures ∙ g.met.M.Multiple.is_long in
    rw (long, c.inner.ensures) (turn g.M.Multiple.is_far c.loop-i.w c.args.s.now c.loop-i.i _ (omega arith) (omega arith) (omega arith) refl ∙ c.loop-i.invariant)

pub returns : goal.returns
returns g c =
    let e : length c.args.s.now ≡ c.loop-i.i = omega arith in
    ap (λ (n : ℕ). held (reach_of g.M.Multiple.is_far) c.loop-i.w n) e
    ∙ sym (crc_from_end _ c.args.s.now c.loop-i.i (omega arith))
    ∙ c.loop-i.invariant
