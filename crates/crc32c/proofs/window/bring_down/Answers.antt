use Rattle.std.proofs.Common.{◌≡◌, ◌-◌, ◌∙◌, arith}
use Rattle.crc32c.proofs.Start.{moved}
use Rattle.crc32c.proofs.window.bring_down.Goals as goal

pub returns : goal.returns
returns g c =
    let long = c.LONG.ensures ∙ g.met.M.Multiple.is_long in
    moved g.M.Multiple.is_far c.args.w.now _ c.args.by
    (λ n h. let e : n - 0 ≡ n = omega arith in rw e at (c.copy_within.ensures.by_index.0 n 0 (omega arith) (omega arith)))
