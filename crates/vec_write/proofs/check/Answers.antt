use Rattle.std.proofs.Common.{length, arith}
use Rattle.vecseg.proofs.LineLaws.{width_most, columns_fit}
use Rattle.vec_write.proofs.RefusalLaws.{bad_dtype, bad_low, bad_high, bad_tier, bad_many, bad_columns, bad_map}
use Rattle.vec_write.proofs.check.Goals as goal

pub returns-then-w-eq0-clause-answer : goal.returns-then-w-eq0-clause-answer
returns-then-w-eq0-clause-answer c = bad_dtype _ _ _ _ _ _ _ _ c.width_of-w.ensures c.if-w-eq0.true

pub returns-then-dim-lt1-clause-answer : goal.returns-then-dim-lt1-clause-answer
returns-then-dim-lt1-clause-answer c = bad_low _ _ _ _ _ _ _ _ c.width_of-w.ensures c.if-w-eq0.false (omega arith)

pub returns-then-dim-clause-answer : goal.returns-then-dim-clause-answer
returns-then-dim-clause-answer c = bad_high _ _ _ _ _ _ _ _ c.width_of-w.ensures c.if-w-eq0.false (omega arith) (omega arith)

pub returns-then-tier-gt255-clause-answer : goal.returns-then-tier-gt255-clause-answer
returns-then-tier-gt255-clause-answer c = bad_tier _ _ _ _ _ _ _ _ c.width_of-w.ensures c.if-w-eq0.false (omega arith) (omega arith) (omega arith)

pub returns-then-ids-gt-MAX_VECTORS-clause-answer : goal.returns-then-ids-gt-MAX_VECTORS-clause-answer
returns-then-ids-gt-MAX_VECTORS-clause-answer c =
    bad_many _ _ _ _ _ _ _ _ c.width_of-w.ensures c.if-w-eq0.false (omega arith) (omega arith) (omega arith) (omega arith)

pub overflow_mul-ids : goal.overflow_mul-ids
overflow_mul-ids c =
    omega (
      arith,
      (columns_fit (length c.args.ids.now) c.args.dim c.width_of-w.result (omega arith) (omega arith)
          (omega (arith, c.width_of-w.ensures, width_most c.args.dtype))).0,
    )

pub overflow_mul-ids-2 : goal.overflow_mul-ids-2
overflow_mul-ids-2 c =
    omega (
      arith,
      (columns_fit (length c.args.ids.now) c.args.dim c.width_of-w.result (omega arith) (omega arith)
          (omega (arith, c.width_of-w.ensures, width_most c.args.dtype))).1,
    )

pub returns-then-columns-ids-clause-answer : goal.returns-then-columns-ids-clause-answer
returns-then-columns-ids-clause-answer c =
    bad_columns _ _ _ _ _ _ _ _ c.width_of-w.ensures c.if-w-eq0.false (omega arith) (omega arith) (omega arith) c.if-columns-ids.true

pub returns-clause-answer : goal.returns-clause-answer
returns-clause-answer c =
    bad_map _ _ _ _ _ _ _ _ c.width_of-w.ensures c.if-w-eq0.false (omega arith) (omega arith) (omega arith) _ c.of.ensures.answer c.if-columns-ids.false
