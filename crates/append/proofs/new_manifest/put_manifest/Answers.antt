-- `append::new_manifest::put_manifest` meets its contract.
use Rattle.std.proofs.Common.{arith, sym, ap, ◌∙◌}
use Rattle.std.specs.Prelude.{ℕ, ◌-◌, ◌≡◌, List, length, take, drop}
use Rattle.std.proofs.Common.{length-take, length-drop}
use Rattle.octets.specs.Round.{round64}
use Rattle.manifest.specs.Payload.{payload_length}
use Rattle.manifest.proofs.At.{length_payload_at}
use Rattle.manifest.proofs.PayloadLaws.{payload_most}
use Rattle.confirm.proofs.payload.Sum.{payload_rooted}
use Rattle.octets.proofs.Parts.{laid_front}
use Rattle.append.proofs.bodies.Laid.{manifest_laid}
use Rattle.append.proofs.new_manifest.put_manifest.Goals as goal

pub put_payload-n-requires-clause-offsets_in_bounds : goal.put_payload-n-requires-clause-offsets_in_bounds
put_payload-n-requires-clause-offsets_in_bounds c = (omega (arith, payload_most (length c.args.offsets.now) c.requires.offsets_len_bound.0), c.requires.offsets_len_bound.1)

pub slice_bounds-payload-end : goal.slice_bounds-payload-end
slice_bounds-payload-end c = omega (arith, payload_most (length c.args.offsets.now) c.requires.offsets_len_bound.0, c.put_payload-n.ensures.answer)

pub slice_bounds-payload_sum-end : goal.slice_bounds-payload_sum-end
slice_bounds-payload_sum-end c =
    c.put_payload-n.ensures.answer ∙ sym (length_payload_at _ _ _ _ _ c.requires.inside)
    ∙ sym (ap length (laid_front c.put_payload-n.new.buf _ _ c.put_payload-n.result c.put_payload-n.ensures.buf (length_payload_at _ _ _ _ _ c.requires.inside ∙ sym c.put_payload-n.ensures.answer)))

pub payload_sum-sum-requires : goal.payload_sum-sum-requires
payload_sum-sum-requires c =
    payload_rooted _ _ _ _ _ _
    (laid_front c.put_payload-n.new.buf _ _ c.put_payload-n.result c.put_payload-n.ensures.buf (length_payload_at _ _ _ _ _ c.requires.inside ∙ sym c.put_payload-n.ensures.answer))

pub slice_bounds-payload-end-2 : goal.slice_bounds-payload-end-2
slice_bounds-payload-end-2 c = omega (arith, payload_most (length c.args.offsets.now) c.requires.offsets_len_bound.0, c.put_payload-n.ensures.answer)

pub slice_bounds-put_segment-end-2 : goal.slice_bounds-put_segment-end-2
slice_bounds-put_segment-end-2 c =
    c.put_payload-n.ensures.answer ∙ sym (length_payload_at _ _ _ _ _ c.requires.inside)
    ∙ sym (ap length (laid_front c.put_payload-n.new.buf _ _ c.put_payload-n.result c.put_payload-n.ensures.buf (length_payload_at _ _ _ _ _ c.requires.inside ∙ sym c.put_payload-n.ensures.answer)))

pub put_segment-requires-clause-payload_in_bounds : goal.put_segment-requires-clause-payload_in_bounds
put_segment-requires-clause-payload_in_bounds c =
    let at = c.args.at in
    let buf = c.args.buf.now in
    let r : round64 (length (take c.put_payload-n.result c.put_payload-n.new.buf)) ≡ round64 (payload_length (length c.args.offsets.now)) =
    ap (λ (x : List ℕ). round64 (length x)) (laid_front c.put_payload-n.new.buf _ _ c.put_payload-n.result c.put_payload-n.ensures.buf (length_payload_at _ _ _ _ _ c.requires.inside ∙ sym c.put_payload-n.ensures.answer))
    ∙ ap round64 (length_payload_at _ _ _ _ _ c.requires.inside) in
    omega (arith, r, c.requires.offsets_in_bounds.0, length-take (length buf - at) (drop at buf), length-drop at buf)

pub returns : goal.returns
returns c =
    let r = ap round64 (length_payload_at (take c.args.at c.args.buf.now) c.args.offsets.now c.args.states.now c.args.at c.args.id c.requires.inside) in
    manifest_laid _ _ _ _ _ _ _ _ _
    (laid_front c.put_payload-n.new.buf _ _ c.put_payload-n.result c.put_payload-n.ensures.buf (length_payload_at _ _ _ _ _ c.requires.inside ∙ sym c.put_payload-n.ensures.answer))
    c.put_segment.ensures.buf (omega (arith, r, c.requires.offsets_in_bounds.0))
