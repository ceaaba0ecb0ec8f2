-- The laws of specs/commit/Base.antt.
-- Assumes nothing.
use Rattle.std.specs.Prelude.{Option as Maybe}
use Prim.Native.Nat.{ℕ, ◌+◌, ◌^◌, ◌≤◌, ◌<◌}
use Rattle.std.specs.Prelude.{◌≡◌, refl, take, drop}
use Rattle.std.proofs.Math.Path.{sym, ap, ap₂}
use Rattle.std.proofs.Common.{subst, ◌∙◌, arith, take_all}
use Rattle.std.proofs.Math.Option.{Option}
use mathlib.Core.List.{List, [], ◌++◌, append-nil, append_assoc}
use Rattle.std.proofs.Math.ListN.{length, length-append, length-map}
use Rattle.std.proofs.Math.Seq.{take_at, length-take-le}
use Rattle.octets.specs.Over.{over}
use Rattle.octets.proofs.OverLaws.{over_then}
use Rattle.answers.specs.limits.Limits.{max_file}
use Rattle.octets.specs.le.Le.{Bytes}
use Rattle.segment.proofs.chain.Laws as C
use Rattle.segment.proofs.chain.Last as last
use Rattle.segment.specs.chain.Chain.{All, Found, last_confirmed, open_of, walk}
use Rattle.segment.proofs.chain.Last.{last_up_to}
use Rattle.segment.specs.Header.{Link, start, reader}
use Rattle.segment.proofs.Laws.{segment_format}
use Rattle.segment.specs.Chained.{chain, offsets_of}
use Rattle.segment.proofs.index.Offsets.{offsets_append}
use Rattle.manifest.specs.Payload.{confirmed, manifest_payload}
use Rattle.manifest.specs.Opening.{opened}
use Rattle.manifest.specs.At.{Inside, payload_at}
use Rattle.manifest.proofs.Lying.{Lying, lying_inside, payload_lying, chain_lying}
use Rattle.batch.specs.Form.{Body}
use Rattle.appending.specs.Append.{kept_links, start_of, next_id, body_links, body_bytes, bodies_end, new_links}
use Rattle.appending.proofs.Written.{BodyHeld, bodies_exact, bodies_length, body_links_length}
use Rattle.appending.proofs.Opens.{kept}
use Rattle.appending.proofs.Buffer.{kept_is}
use Rattle.append.specs.commit.Base.{Base}

-- ---- opening what is kept finds the same

pub kept_opens : (f : List ℕ) → opened (take (start_of (opened f)) f) ≡ opened f
unfolding opened open_of
kept_opens f =
    ap (λ (x : List ℕ). open_of reader confirmed start x) (sym (kept_is f))
    ∙ ap (last_confirmed confirmed) (C.walk_all reader segment_format (last.kept_exact reader confirmed start segment_format f))
    ∙ last_up_to confirmed (walk reader start f)

-- ---- the bytes up to the new manifest

module _ (g offsets : List ℕ) (begin kept-count : ℕ) (last-id : Maybe ℕ) (y : Base g offsets begin kept-count last-id)
    (bs : List Body) (t : All BodyHeld bs) (ts : ℕ) (ts-fits : ts < 2 ^ 64) (ids-fit : next_id (opened g) + length bs < 2 ^ 64) (end_fits : bodies_end begin bs ≤ max_file) where
  abbrev o : Option (Found Link)
  o = opened g

  -- what is kept is all of g
  all-kept : last.kept_of reader confirmed start g ≡ g
  all-kept = kept_is g ∙ take_all (start_of o) g (omega (arith, y.whole, y.start_is))

  abbrev front : List ℕ
  front = g ++ body_bytes (next_id o) ts bs

  chain-front : chain front ≡ new_links o bs ts
  unfolding new_links opened
  chain-front =
      ap (λ (x : List ℕ). walk reader start (x ++ body_bytes (next_id o) ts bs)) (sym all-kept)
      ∙ last.walk_append reader confirmed start segment_format g (body_bytes (next_id o) ts bs) (body_links (start_of o) (next_id o) ts bs)
      (rw (kept g).state (bodies_exact ts ts-fits (start_of o) (next_id o) bs t ids-fit (rw y.start_is (omega arith))))

  pub front_lying : All (Lying front) (new_links o bs ts)
  front_lying = chain_lying front (new_links o bs ts) [] (chain-front ∙ sym (append-nil (new_links o bs ts)))

  front_length : length front ≡ bodies_end begin bs
  front_length = length-append g (body_bytes (next_id o) ts bs) ∙ omega (arith, y.whole, bodies_length ts begin (next_id o) bs)

  -- the offsets of all links of the new directory
  module _ (os : List ℕ) (stored : os ≡ over offsets kept-count (offsets_of (body_links begin (next_id o) ts bs))) (room : kept-count + length bs ≤ length offsets) where
    pub new_offsets : take (kept-count + length bs) os ≡ offsets_of (new_links o bs ts)
    unfolding over new_links
    new_offsets =
        let xs = offsets_of (body_links begin (next_id o) ts bs) in
        let n : length (offsets_of (body_links begin (next_id o) ts bs)) ≡ length bs = length-map (body_links begin (next_id o) ts bs) (λ (l : Link). l.offset) ∙ body_links_length begin (next_id o) ts bs in
        let k : length (take kept-count offsets) ≡ kept-count = length-take-le kept-count offsets (omega arith) in
        let p : length (take kept-count offsets ++ offsets_of (body_links begin (next_id o) ts bs))
        ≡ kept-count + length bs = length-append (take kept-count offsets) (offsets_of (body_links begin (next_id o) ts bs)) ∙ ap₂ ◌+◌ k n in
        ap (take (kept-count + length bs)) (stored ∙ sym (append_assoc (take kept-count offsets) (offsets_of (body_links begin (next_id o) ts bs))
        (drop (kept-count + length (offsets_of (body_links begin (next_id o) ts bs))) offsets)))
        ∙ take_at (take kept-count offsets ++ offsets_of (body_links begin (next_id o) ts bs)) (drop (kept-count + length (offsets_of (body_links begin (next_id o) ts bs))) offsets)
        (kept-count + length bs) p
        ∙ ap (λ (x : List ℕ). x ++ offsets_of (body_links begin (next_id o) ts bs)) y.offsets_are
        ∙ ap (λ (b : ℕ). offsets_of (kept_links o) ++ offsets_of (body_links b (next_id o) ts bs)) (sym y.start_is)
        ∙ sym (offsets_append (kept_links o) (body_links (start_of o) (next_id o) ts bs))

    pub new_inside : Inside front (take (kept-count + length bs) os)
    new_inside = subst (Inside front) (sym new_offsets) (lying_inside front (new_links o bs ts) front_lying)

    pub new_payload : Bytes front → (ss : List ℕ) (at id : ℕ) → payload_at front (take (kept-count + length bs) os) ss at id ≡ manifest_payload (new_links o bs ts) ss at id
    new_payload b ss at id = ap (λ (x : List ℕ). payload_at front x ss at id) new_offsets ∙ payload_lying front (new_links o bs ts) ss at id b front_lying

-- ---- on the buffer

-- the front of the buffer with the bodies written
pub buffer_front : (old : List ℕ) (begin : ℕ) (bytes buf : List ℕ) → begin + length bytes ≤ length old → buf ≡ over old begin bytes
    → take (begin + length bytes) buf ≡ take begin old ++ bytes
unfolding over
buffer_front old begin bytes buf h e =
    let k : length (take begin old) ≡ begin = length-take-le begin old (omega arith) in
    let p : length (take begin old ++ bytes) ≡ begin + length bytes = length-append (take begin old) bytes ∙ ap (λ (n : ℕ). n + length bytes) k in
    ap (take (begin + length bytes)) (e ∙ sym (append_assoc (take begin old) bytes (drop (begin + length bytes) old)))
    ∙ take_at (take begin old ++ bytes) (drop (begin + length bytes) old) (begin + length bytes) p

-- the manifest right behind the bodies
pub all_written : (old buf exit : List ℕ) (begin at : ℕ) (bytes seg : List ℕ) → buf ≡ over old begin bytes → begin + length bytes ≡ at → at ≤ length old
    → exit ≡ over buf at seg → exit ≡ over old begin (bytes ++ seg)
all_written old buf exit begin at bytes seg e n h x =
    x ∙ ap (λ (k : ℕ). over buf k seg) (sym n) ∙ over_then old buf begin bytes seg (length bytes) e refl (omega arith)
