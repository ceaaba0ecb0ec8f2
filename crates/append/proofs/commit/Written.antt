-- The end of an append: the bodies are written behind what is kept, then the manifest. What stands in the buffer then, and that no number on the way is
-- too large.
-- Assumes nothing.
use Rattle.std.specs.Prelude.{Option as Maybe}
use Prim.Native.Nat.{ℕ, zero, suc, ◌+◌, ◌-◌, ◌*◌, ◌^◌, ◌≤◌, ◌<◌}
use Rattle.std.specs.Prelude.{◌≡◌, true, ◌&&◌, leb, length, drop}
use Rattle.std.proofs.Common.{sym, ◌∙◌, arith, length-take}
use Rattle.std.proofs.Math.Path.{ap, subst}
use Rattle.std.proofs.Math.Option.{Option}
use mathlib.Core.List.{List, ◌++◌}
use Rattle.std.proofs.Math.ListN.{take}
use Rattle.octets.specs.Zero.{all_zero}
use Rattle.octets.proofs.ZeroLaws.{and_split}
use Rattle.octets.specs.Over.{over}
use Rattle.octets.proofs.OverLaws.{length_over}
use Rattle.octets.specs.Round.{round64}
use Rattle.octets.proofs.RoundLaws.{round64_lt}
use Rattle.answers.specs.limits.Limits.{max_file, max_batch, max_bodies}
use Rattle.octets.specs.le.Le.{Bytes}
use Rattle.octets.proofs.le.Laws.{bytes_take}
use Rattle.segment.specs.chain.Chain.{Found}
use Rattle.segment.specs.Header.{Link}
use Rattle.segment.specs.Written.{segment}
use Rattle.segment.specs.Chained.{offsets_of}
use Rattle.manifest.specs.Payload.{manifest_payload}
use Rattle.manifest.specs.Opening.{opened}
use Rattle.manifest.specs.At.{Inside, payload_at}
use Rattle.batch.specs.Form.{Body, line_size, line_length, line_held, lines_held, body_count, bodies_at, batch_held, bodies_from, bodies_of}
use Rattle.batch.proofs.Lines.{bodies_count, begins_inside, held_bounds}
use Rattle.appending.specs.Append.{start_of, next_id, body_links, body_bytes, bodies_end, manifest_at, manifest_id, new_count, new_links}
use Rattle.appending.proofs.Written.{bodies_held, bodies_length}
use Rattle.append.specs.commit.Commit.{next_id_of, bytes_with}
use Rattle.append.proofs.commit.CommitLaws.{count_number, id_number, at_number}
use Rattle.append.specs.commit.Base.{Base}
use Rattle.append.proofs.commit.Base.{new_inside, new_payload, buffer_front, all_written}

-- ---- the bodies take little more than the batch

lines_small : (n at : ℕ) (lines : List ℕ) (end : ℕ) (s : List ℕ) (start : ℕ) → lines_held n at lines end ≡ true
    → bodies_end start (bodies_from n at lines s) ≤ start + 128 * n + (end - at)
unfolding lines_held bodies_from bodies_end
lines_small zero at lines end s start e = omega arith
lines_small (suc n) at lines end s start e =
    let a = and_split (line_held at lines) (lines_held n (at + line_length lines) (drop line_size lines) end) e in
    let low = begins_inside n (at + line_length lines) (drop line_size lines) end a.1 in
    let body : List ℕ = take (line_length lines) (drop at s) in
    let l = length-take (line_length lines) (drop at s) in
    let r = round64_lt (length (take (line_length lines) (drop at s))) in
    let ih = lines_small n (at + line_length lines) (drop line_size lines) end s (start + (64 + round64 (length (take (line_length lines) (drop at s))))) a.1 in
    omega arith

pub bodies_most : (batch : List ℕ) (start : ℕ) → batch_held batch ≡ true → start ≤ max_file → bodies_end start (bodies_of batch) ≤ 17827840
unfolding bodies_of batch_held
bodies_most batch start e h =
    let q = held_bounds batch e in
    let lines =
    and_split (leb line_size (length batch) && leb (length batch) max_batch && leb (body_count batch) max_bodies && all_zero (take 12 (drop 4 batch)) && leb (bodies_at (body_count batch))
    (length batch)) _ e in
    let s = lines_small (body_count batch) (bodies_at (body_count batch)) (drop line_size batch) (length batch) batch start lines.1 in
    omega arith

-- ---- what is written

module _ (old offsets batch : List ℕ) (begin kept-count : ℕ) (last-id : Maybe ℕ) (y : Base (take begin old) offsets begin kept-count last-id)
    (held : batch_held batch ≡ true) (ts : ℕ) (ts-fits : ts < 2 ^ 64) (next m : ℕ) (n-is : next ≡ next_id_of last-id) (m-is : m ≡ body_count batch) (ids-fit : next + m < 2 ^ 64)
    (at : ℕ) (at_is : at ≡ bodies_end begin (bodies_of batch)) (at-fits : at ≤ max_file) (room : at ≤ length old) (many : kept-count + m ≤ length offsets)
    (buf os : List ℕ) (laid : buf ≡ over old begin (body_bytes next ts (bodies_of batch)))
    (stored : os ≡ over offsets kept-count (offsets_of (body_links begin next ts (bodies_of batch)))) where
  abbrev bs : List Body
  bs = bodies_of batch

  abbrev o : Option (Found Link)
  o = opened (take begin old)

  m-length : length bs ≡ m
  m-length = bodies_count batch ∙ sym m-is

  next_is : next_id o ≡ next
  next_is = y.next_is ∙ sym n-is

  laid_next : buf ≡ over old begin (body_bytes (next_id o) ts bs)
  laid_next = laid ∙ ap (λ (n : ℕ). over old begin (body_bytes n ts bs)) (sym next_is)

  stored_next : os ≡ over offsets kept-count (offsets_of (body_links begin (next_id o) ts bs))
  stored_next = stored ∙ ap (λ (n : ℕ). over offsets kept-count (offsets_of (body_links begin n ts bs))) (sym next_is)

  bytes-end : begin + length (body_bytes (next_id o) ts bs) ≡ at
  bytes-end = bodies_length ts begin (next_id o) bs ∙ sym at_is

  pub front_is : take at buf ≡ take begin old ++ body_bytes (next_id o) ts bs
  front_is =
      ap (λ (n : ℕ). take n buf) (sym bytes-end) ∙ buffer_front old begin (body_bytes (next_id o) ts bs) buf (omega (arith, bytes-end)) laid_next

  fit : next_id o + length bs < 2 ^ 64
  fit = omega (arith, next_is, m-length)

  small : bodies_end begin bs ≤ max_file
  small = omega (arith, at_is)

  count_is : take (kept-count + m) os ≡ take (kept-count + length bs) os
  count_is = ap (λ (n : ℕ). take (kept-count + n) os) (sym m-length)

  pub written_inside : Inside (take at buf) (take (kept-count + m) os)
  written_inside =
      subst (λ (x : List ℕ). Inside x (take (kept-count + m) os)) (sym front_is)
      (subst (Inside (take begin old ++ body_bytes (next_id o) ts bs)) (sym count_is)
      (new_inside (take begin old) offsets begin kept-count last-id y bs (bodies_held batch held) ts ts-fits fit small os stored_next (omega (arith, m-length))))

  pub written_long : length buf ≡ length old
  written_long = ap length laid_next ∙ length_over old begin (body_bytes (next_id o) ts bs) (omega (arith, bytes-end))

  pub written_all : (exit states : List ℕ) (id : ℕ) → id ≡ next + m → Bytes buf
      → exit ≡ over buf at (segment 5 0 id ts (payload_at (take at buf) (take (kept-count + m) os) (take (kept-count + m) states) at id))
      → exit ≡ over old (start_of o) (bytes_with o bs (take (new_count o bs) states) ts)
  unfolding bytes_with
  written_all exit states id i b x =
      let front : List ℕ = take begin old ++ body_bytes (next_id o) ts bs in
      let bf : Bytes (take begin old ++ body_bytes (next_id o) ts bs) = subst Bytes front_is (bytes_take at buf b) in
      let c : kept-count + m ≡ new_count o bs = count_number o bs begin kept-count m next y.start_is y.count_is m-length next_is in
      let d : id ≡ manifest_id o bs = i ∙ id_number o bs begin kept-count m next y.start_is y.count_is m-length next_is in
      let e : at ≡ manifest_at o bs = at_number o bs begin kept-count m next y.start_is y.count_is m-length next_is at at_is in
      let p : payload_at (take at buf) (take (kept-count + m) os) (take (kept-count + m) states) at id
      ≡ manifest_payload (new_links o bs ts) (take (new_count o bs) states) (manifest_at o bs) (manifest_id o bs) =
      ap (λ (z : List ℕ). payload_at z (take (kept-count + m) os) (take (kept-count + m) states) at id) front_is
      ∙ ap (λ (z : List ℕ). payload_at (take begin old ++ body_bytes (next_id o) ts bs) z (take (kept-count + m) states) at id) count_is
      ∙ new_payload (take begin old) offsets begin kept-count last-id y bs (bodies_held batch held) ts ts-fits fit small os stored_next (omega (arith, m-length)) bf
      (take (kept-count + m) states) at id
      ∙ ap (λ (k : ℕ). manifest_payload (new_links o bs ts) (take k states) at id) c
      ∙ ap (λ (k : ℕ). manifest_payload (new_links o bs ts) (take (new_count o bs) states) k id) e
      ∙ ap (manifest_payload (new_links o bs ts) (take (new_count o bs) states) (manifest_at o bs)) d in
      all_written old buf exit begin at (body_bytes (next_id o) ts bs) _ laid_next bytes-end room x
      ∙ ap (λ (z : List ℕ). over old begin (body_bytes (next_id o) ts bs ++ segment 5 0 id ts z)) p
      ∙ ap (λ (k : ℕ). over old begin (body_bytes (next_id o) ts bs ++ segment 5 0 k ts (manifest_payload (new_links o bs ts) (take (new_count o bs) states) (manifest_at o bs) (manifest_id o bs)))) d
      ∙ ap (λ (k : ℕ). over old k (bytes_with o bs (take (new_count o bs) states) ts)) (sym y.start_is)
