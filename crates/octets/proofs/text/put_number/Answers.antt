-- Three pieces, one right behind the other.
use Rattle.std.proofs.Common.{arith}
use Rattle.octets.proofs.text.TextLaws.{decimal_u64}
use Rattle.octets.proofs.text.Written.{then}
use Rattle.octets.proofs.text.put_number.Goals as goal

pub put_decimal-last-requires : goal.put_decimal-last-requires
put_decimal-last-requires c = let d = decimal_u64 c.args.n (omega (arith, c.ranges.n)) in omega arith

pub put_bytes-requires : goal.put_bytes-requires
put_bytes-requires c = let d = decimal_u64 c.args.n (omega (arith, c.ranges.n)) in omega arith

pub returns-clause-buf : goal.returns-clause-buf
returns-clause-buf c = then c.put_bytes-first.ensures (then c.put_decimal-last.ensures c.put_bytes.ensures)

pub returns-clause-bound : goal.returns-clause-bound
returns-clause-bound c = let d = decimal_u64 c.args.n (omega (arith, c.ranges.n)) in omega arith
