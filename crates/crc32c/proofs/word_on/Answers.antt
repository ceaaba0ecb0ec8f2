-- A byte at a time, from the lowest, each with the factor that takes it on.
use Rattle.std.proofs.Common.{◌∙◌, ◌+◌, ap, ℕ, List, get_or}
use native.Mathlib.Omega.{arith}
use Rattle.crc32c.specs.Ahead.{factors_from}
use Rattle.crc32c.proofs.Ahead.{ahead_byte, ahead_next}
use Rattle.crc32c.proofs.word_on.Goals as goal

pub returns : goal.returns
unfolding factors_from
returns g c =
    let n = g.D.Distance.least in
    let hold = c.FACTORS-factors.ensures ∙ g.D.Distance.hold in
    let at = λ (k : ℕ). ap (λ (l : List ℕ). get_or l k 0) hold in
    ahead_next _ (48 + n) _ c.args.x _ _ (omega arith) (at 0) c.steps-7.ensures
    (ahead_next _ (40 + n) _ _ _ _ (omega arith) (at 1) c.steps-6.ensures
    (ahead_next _ (32 + n) _ _ _ _ (omega arith) (at 2) c.steps-5.ensures
    (ahead_next _ (24 + n) _ _ _ _ (omega arith) (at 3) c.steps-4.ensures
    (ahead_next _ (16 + n) _ _ _ _ (omega arith) (at 4) c.steps-3.ensures
    (ahead_next _ (8 + n) _ _ _ _ (omega arith) (at 5) c.steps-2.ensures
    (ahead_next _ n _ _ _ _ (omega arith) (at 6) c.steps.ensures
    (ahead_byte n _ _ _ (at 7) (omega (arith, c.ranges.x)) c.steps-r7.ensures)))))))
