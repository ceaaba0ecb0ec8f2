use Rattle.std.proofs.Common.{◌≡◌, ◌-◌, ◌<◌, ℕ, refl, sym, ap, ◌∙◌, arith}
use Rattle.crc32c.specs.Crc.{bits}
use Rattle.crc32c.proofs.Linear.{bits_none, step_odd, step_even}
use Rattle.crc32c.proofs.steps.Goals as goal
use Rattle.crc32c.proofs.steps.Goals.{then-register-eq1, else-register-eq1}

pub loop-init : goal.loop-init
loop-init c = let z : c.args.k - 0 ≡ c.args.k = omega arith in ap (λ (n : ℕ). bits c.args.p n c.args.x) z

pub loop-preserved : goal.loop-preserved
loop-preserved c =
    let l = c.loop in
    let a = c.args in
    let h : l.counter < a.k = omega arith in
    elim c.if-register-eq1.branch [
      | then-register-eq1 w ↦ rw w.register-is (step_odd a.p a.k l.counter l.register _ h w.if-register-eq1.true refl ∙ l.invariant)
      | else-register-eq1 w ↦ rw w.register-is (step_even a.p a.k l.counter l.register _ h w.if-register-eq1.false refl ∙ l.invariant)
    ]

pub returns : goal.returns
returns c =
    let z : c.args.k - c.loop.counter ≡ 0 = omega arith in
    sym (bits_none c.args.p c.loop.register) ∙ ap (λ (n : ℕ). bits c.args.p n c.loop.register) (sym z) ∙ c.loop.invariant
