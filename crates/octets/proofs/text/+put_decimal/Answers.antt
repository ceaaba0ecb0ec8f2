-- The digits but the last are written by the call of itself, then the last one.
use Rattle.std.proofs.Common.{arith}
use Rattle.octets.proofs.text.Written.{digit_first, digit_next, digits_room, first_room}
use Rattle.octets.proofs.text.+put_decimal.Goals as goal

pub bounds-buf-at : goal.bounds-buf-at
bounds-buf-at t c = first_room _ _ _ c.if-n-lt10.true c.requires

pub returns-then-n-lt10 : goal.returns-then-n-lt10
returns-then-n-lt10 t c = digit_first _ _ _ c.if-n-lt10.true c.requires

pub put_decimal-last-requires : goal.put_decimal-last-requires
put_decimal-last-requires t c = let h = digits_room _ _ _ c.if-n-lt10.false c.requires in (omega (arith, h.1), omega (arith, h.0))

pub bounds-buf-last : goal.bounds-buf-last
bounds-buf-last t c = let h = digits_room _ _ _ c.if-n-lt10.false c.requires in omega (arith, h.0)

pub returns : goal.returns
returns t c = digit_next _ _ _ _ _ c.if-n-lt10.false c.requires c.put_decimal-last.ensures
