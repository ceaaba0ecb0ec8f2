-- `append_and_cut` meets its contract: the bounds by what an accepted append says of the new end, the vector by the claim.
use Rattle.std.proofs.Common.{arith, sym, refl, length-take-le}
use Rattle.claim_uses.proofs.cut.CutReadLaws.{says_short, says_refused, says_whole, within, start_le, end_room, says_read}
use Rattle.claim_uses.proofs.cut.append_and_cut.Goals as goal

pub returns-then-n-buf-clause-answer : goal.returns-then-n-buf-clause-answer
returns-then-n-buf-clause-answer c = (says_short c.args.buf.now c.args.n c.args.batch.now c.args.ids.now c.args.timestamp c.args.k c.args.id c.args.out.now (omega (arith, c.if-n-buf.true))).0

pub returns-then-n-buf-clause-buf : goal.returns-then-n-buf-clause-buf
returns-then-n-buf-clause-buf c = (says_short c.args.buf.now c.args.n c.args.batch.now c.args.ids.now c.args.timestamp c.args.k c.args.id c.args.out.now (omega (arith, c.if-n-buf.true))).1

pub overflow_sub-end : goal.overflow_sub-end
overflow_sub-end c =
    let s = c.start_of-start.ensures (within c.args.buf.now c.args.n c.args.batch.now c.args.ids.now c.args.timestamp _ _ _ _ (omega (arith, c.if-n-buf.false)) _ refl c.in-Ok.ensures) in
    omega (arith, start_le c.args.buf.now c.args.n c.args.batch.now c.args.ids.now c.args.timestamp _ _ _ _ (omega (arith, c.if-n-buf.false)) _ refl c.in-Ok.ensures, s)

pub returns-then-k-end-clause-answer : goal.returns-then-k-end-clause-answer
returns-then-k-end-clause-answer c = (says_whole c.args.buf.now c.args.n c.args.batch.now c.args.ids.now c.args.timestamp _ _ _ _ (omega (arith, c.if-n-buf.false)) _ refl c.in-Ok.ensures _ _ _ _ c.start_of-start.ensures c.if-k-end.true).0

pub slice_bounds-vector-end : goal.slice_bounds-vector-end
slice_bounds-vector-end c =
    let s = c.start_of-start.ensures (within c.args.buf.now c.args.n c.args.batch.now c.args.ids.now c.args.timestamp _ _ _ _ (omega (arith, c.if-n-buf.false)) _ refl c.in-Ok.ensures) in
    omega (arith, start_le c.args.buf.now c.args.n c.args.batch.now c.args.ids.now c.args.timestamp _ _ _ _ (omega (arith, c.if-n-buf.false)) _ refl c.in-Ok.ensures, end_room c.args.buf.now c.args.n c.args.batch.now c.args.ids.now c.args.timestamp _ _ _ _ (omega (arith, c.if-n-buf.false)) _ refl c.in-Ok.ensures, s, c.append.auto)

pub slice_bounds-vector-end-in-Ok : goal.slice_bounds-vector-end-in-Ok
slice_bounds-vector-end-in-Ok c =
    let s = c.start_of-start.ensures (within c.args.buf.now c.args.n c.args.batch.now c.args.ids.now c.args.timestamp _ _ _ _ (omega (arith, c.if-n-buf.false)) _ refl c.in-Ok.ensures) in
    sym (length-take-le _ _ (omega (arith, start_le c.args.buf.now c.args.n c.args.batch.now c.args.ids.now c.args.timestamp _ _ _ _ (omega (arith, c.if-n-buf.false)) _ refl c.in-Ok.ensures, end_room c.args.buf.now c.args.n c.args.batch.now c.args.ids.now c.args.timestamp _ _ _ _ (omega (arith, c.if-n-buf.false)) _ refl c.in-Ok.ensures, s, c.append.auto)))

pub returns-in-Err-clause-answer : goal.returns-in-Err-clause-answer
returns-in-Err-clause-answer c = (says_refused c.args.buf.now c.args.n c.args.batch.now c.args.ids.now c.args.timestamp c.args.k c.args.id c.args.out.now _ _ _ refl c.in-Err.ensures).0

pub returns-else-k-end-clause-answer : goal.returns-else-k-end-clause-answer
returns-else-k-end-clause-answer c =
    (says_read c.args.buf.now c.args.n c.args.batch.now c.args.ids.now c.args.timestamp _ _ _ _ (omega (arith, c.if-n-buf.false)) _ refl c.in-Ok.ensures c.ranges.timestamp.fits _ _ c.start_of-start.ensures (omega (arith, c.if-k-end.false)) _ _ _ _
    c.vector.ensures.answer c.vector.ensures.buf).0
