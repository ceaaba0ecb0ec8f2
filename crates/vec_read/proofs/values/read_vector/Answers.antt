use Rattle.std.proofs.Common.{◌*◌, ℕ, refl, sym, ap, length, arith}
use Rattle.answers.proofs.WriteLaws.{write_short, write_done}
use Rattle.vecseg.specs.Find.{vector_of}
use Rattle.vec_read.specs.values.Vector.{place_with, Bounds}
use Rattle.vec_read.proofs.values.Vector.{value_room, vector_length, vector_first, vector_next, vector_last}
use Rattle.vec_read.proofs.values.read_vector.Goals as goal

pub returns-then-buf-n : goal.returns-then-buf-n
returns-then-buf-n c =
    let p = c.args.place in
    let n = vector_length c.args.s.now p.offset p.count p.dim p.dtype p.index c.requires in
    let w = write_short (vector_of c.args.s.now (place_with p.offset p.count p.dim p.dtype p.index)) c.args.buf.now 0 refl
    (omega (arith, n, ap (λ (w : ℕ). p.dim * w) c.width_of-w.ensures)) in
    record { answer = w.0; buf = w.1 }

pub loop-d-init : goal.loop-d-init
loop-d-init c = vector_first _ _ _ _ _ _ c.requires _

pub loop-d-preserved : goal.loop-d-preserved
loop-d-preserved c =
    let e = c.width_of-w.ensures in
    rw e
    (vector_next _ _ _ _ _ _ c.requires _ _ _ _ c.loop-d.invariant (omega arith) (omega (arith, ap (λ (w : ℕ). c.args.place.dim * w) e)) (rw e at c.copy.ensures))

pub slice_bounds-copy-end-in-loop-d : goal.slice_bounds-copy-end-in-loop-d
slice_bounds-copy-end-in-loop-d c =
    let b : Bounds (length c.args.s.now) c.args.place.offset c.args.place.count c.args.place.dim c.width_of-w.result c.args.place.index =
    rw (sym c.width_of-w.ensures) at c.requires in
    let r = value_room _ _ _ _ _ _ _ b c.loop-d-test.true in
    omega (arith, r.from)

pub returns : goal.returns
returns c =
    let p = c.args.place in
    let n = vector_length c.args.s.now p.offset p.count p.dim p.dtype p.index c.requires in
    let e = ap (λ (w : ℕ). p.dim * w) c.width_of-w.ensures in
    let w = write_done (vector_of c.args.s.now (place_with p.offset p.count p.dim p.dtype p.index)) c.args.buf.now 0 _ c.loop-d.buf refl (omega arith) (omega arith)
    (vector_last _ _ _ _ _ _ c.requires _ _ _ c.loop-d.invariant (omega arith)) in
    record { answer = w.0; buf = w.1 }
