-- `lookup::payload::part_at` meets its contract.
use Rattle.std.proofs.Common.{ap, arith, refl}
use Rattle.std.specs.Prelude.{ℕ, take, drop}
use native.Mathlib.Nat.{add_comm, add-sub_cancel_left}
use Rattle.answers.specs.Answer.{numbered}
use Rattle.reading.proofs.PartLaws.{hands_at, hands_outside, hands_nothing}
use Rattle.lookup.proofs.payload.part_at.Goals as goal

pub returns-in-Err : goal.returns-in-Err
returns-in-Err c = hands_nothing _ _ _ _ (ap numbered c.in-Err.is) refl

pub returns-then-start-file : goal.returns-then-start-file
returns-then-start-file c = hands_outside _ _ _ _ _ (ap numbered c.in-Ok.is) (omega arith) refl

pub returns-then-length-file : goal.returns-then-length-file
returns-then-length-file c = hands_outside _ _ _ _ _ (ap numbered c.in-Ok.is) (omega arith) refl

pub returns-else-length-file : goal.returns-else-length-file
returns-else-length-file c =
    hands_at _ _ _ c.in-Ok.field-0.start c.in-Ok.field-0.length (ap numbered c.in-Ok.is) (omega arith)
    (record {
      bytes = ap (λ (k : ℕ). take k (drop c.in-Ok.field-0.start c.args.file.now)) (add-sub_cancel_left c.in-Ok.field-0.start c.in-Ok.field-0.length);
      block = refl;
      place = add_comm _ _;
    })
