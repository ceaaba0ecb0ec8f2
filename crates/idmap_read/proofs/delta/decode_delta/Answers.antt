use Rattle.std.proofs.Common.{◌≡◌, ◌+◌, ◌*◌, sym, ◌∙◌, add-one, suc-mul, arith, length-set}
use Rattle.answers.proofs.HandedOn.{handed_on}
use Rattle.idmap.specs.Decode.{groups, delta_map}
use Rattle.idmap.proofs.DecodeLaws.{broken, broken_by, whole}
use Rattle.idmap.proofs.DeltaLaws.{delta_last, delta_short, delta_from, groups_ceil}
use Rattle.idmap_read.proofs.delta.Next.{start_first, start_next, start_last, first_refused, first_next, inside_refused, inside_next}
use Rattle.idmap_read.proofs.delta.decode_delta.Goals as goal

pub returns-then-s-start : goal.returns-then-s-start
returns-then-s-start c =
    let g : c.div_ceil-groups.result ≡ groups c.args.count c.args.r = c.div_ceil-groups.ensures ∙ groups_ceil _ _ (omega arith) in
    let w = broken _ c.args.ids.now (delta_short c.args.r c.args.count c.args.s.now (omega arith)) in
    record { answer = w.0; ids = w.1 }

pub loop-g-init : goal.loop-g-init
loop-g-init c = start_first _ _ _ _ _ (omega arith)

pub returns-in_err-x : goal.returns-in_err-x
returns-in_err-x c =
    let g : c.div_ceil-groups.result ≡ groups c.args.count c.args.r = c.div_ceil-groups.ensures ∙ groups_ceil _ _ (omega arith) in
    let n = start_next _ _ _ _ _ _ _ _ c.loop-g.invariant (omega arith) (omega arith) in
    let b = first_refused _ _ _ _ _ _ _ _ _ n.1 n.0 (omega arith) _ (sym c.in_err-x.ensures) in
    let w = broken_by (delta_map c.args.r c.args.count c.args.s.now) c.loop-g.ids _ b.0 (delta_from c.args.r _ _ c.args.s.now (omega arith) (omega arith) ∙ b.1) in
    record { answer = handed_on _ _ c.from_residual.ensures.1 ∙ w.0; ids = w.1 }

pub overflow_add-pos : goal.overflow_add-pos
overflow_add-pos c =
    let g : c.div_ceil-groups.result ≡ groups c.args.count c.args.r = c.div_ceil-groups.ensures ∙ groups_ceil _ _ (omega arith) in
    let n = start_next _ _ _ _ _ _ _ _ c.loop-g.invariant (omega arith) (omega arith) in
    let m = first_next _ _ _ _ _ _ _ _ _ n.1 n.0 (omega arith) c.in_ok-x.x.id c.in_ok-x.x.length (sym c.in_ok-x.ensures) (omega arith) (omega arith) in
    let fits = m.inside in
    omega arith

pub loop-i-init : goal.loop-i-init
loop-i-init c =
    let g : c.div_ceil-groups.result ≡ groups c.args.count c.args.r = c.div_ceil-groups.ensures ∙ groups_ceil _ _ (omega arith) in
    let n = start_next _ _ _ _ _ _ _ _ c.loop-g.invariant (omega arith) (omega arith) in
    let m = first_next _ _ _ _ _ _ _ _ _ n.1 n.0 (omega arith) c.in_ok-x.x.id c.in_ok-x.x.length (sym c.in_ok-x.ensures) (omega arith) (omega arith) in
    let first = n.0 in
    let more : (c.loop-g.g + 1) * c.args.r ≡ c.loop-g.g * c.args.r + c.args.r = rw add-one (suc-mul _ _) in
    let e = c.min-stop.ensures in
    record {
      at = m;
      inside = omega arith;
      most = omega arith;
      ends = omega arith;
      full = λ h. omega arith;
      room = rw length-set (omega arith);
    }

pub returns-in_err-x-2 : goal.returns-in_err-x-2
returns-in_err-x-2 c =
    let g : c.div_ceil-groups.result ≡ groups c.args.count c.args.r = c.div_ceil-groups.ensures ∙ groups_ceil _ _ (omega arith) in
    let b = inside_refused _ _ _ _ _ _ _ _ _ c.loop-i.invariant.at (omega arith) (omega arith) _ (omega arith) _ (sym c.in_err-x-2.ensures) in
    let w = broken_by (delta_map c.args.r c.args.count c.args.s.now) c.loop-i.ids _ b.0 (delta_from c.args.r _ _ c.args.s.now (omega arith) (omega arith) ∙ b.1) in
    record { answer = handed_on _ _ c.from_residual-in_err-x-2.ensures.1 ∙ w.0; ids = w.1 }

pub overflow_add-pos-in-loop-i : goal.overflow_add-pos-in-loop-i
overflow_add-pos-in-loop-i c =
    let n = inside_next _ _ _ _ _ _ _ _ _ c.loop-i.invariant.at (omega arith) (omega arith) _ (omega arith) c.in_ok-x-2.x.id c.in_ok-x-2.x.length
    (sym c.in_ok-x-2.ensures) (omega arith) (omega arith) in
    let fits = n.inside in
    omega arith

pub loop-i-preserved : goal.loop-i-preserved
loop-i-preserved c =
    let n = inside_next _ _ _ _ _ _ _ _ _ c.loop-i.invariant.at (omega arith) (omega arith) _ (omega arith) c.in_ok-x-2.x.id c.in_ok-x-2.x.length
    (sym c.in_ok-x-2.ensures) (omega arith) (omega arith) in
    record {
      at = n;
      inside = omega arith;
      most = c.loop-i.invariant.most;
      ends = c.loop-i.invariant.ends;
      full = c.loop-i.invariant.full;
      room = rw length-set (omega arith);
    }

pub returns : goal.returns
returns c =
    let g : c.div_ceil-groups.result ≡ groups c.args.count c.args.r = c.div_ceil-groups.ensures ∙ groups_ceil _ _ (omega arith) in
    let st = c.loop-g.invariant in
    let w = whole _ _ c.args.count c.loop-g.ids
    (delta_from c.args.r _ _ c.args.s.now (omega arith) (omega arith) ∙ delta_last _ _ _ _ _ _ _ _ _ _ st.at (start_last _ _ _ _ _ _ _ _ st (omega arith) (omega arith))) (omega arith) in
    record { answer = w.0; ids = w.1 }
