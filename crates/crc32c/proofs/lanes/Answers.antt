use Rattle.std.proofs.Common.{◌≡◌, ◌∙◌, ◌+◌, ◌-◌, ◌*◌, ◌/◌, ap, ℕ, List, length, drop, drop-drop, length-append, refl, arith}
use Rattle.std.specs.Int.Bits.{bit_xor}
use Rattle.octets.specs.le.Le.{Bytes}
use Rattle.octets.proofs.Parts.{tail_all}
use Rattle.crc32c.specs.Crc.{crc_from}
use Rattle.crc32c.specs.Words.{eight}
use Rattle.crc32c.proofs.LanesLaws.{Lanes, lane, joined, lanes_first, lanes_next, lanes_last}
use Rattle.crc32c.proofs.Chunks.{At, at_front, at_behind, at_chunk, eight_at, left_first, left_next}
use Rattle.crc32c.proofs.lanes.Goals as goal

pub loop-words-init : goal.loop-words-init
loop-words-init c =
    let n = length c.into_iter-words-iterator.result.rest.now in
    let none : n - n ≡ 0 = omega arith in
    record {
      left = left_first _ _ 32 refl;
      chunk = cc;
      lanes = rw none (lanes_first c.args.c c.args.s.now (λ k. omega (arith, c.type_inv.s k)) (omega arith));
    }

pub loop-words-preserved : goal.loop-words-preserved
loop-words-preserved c =
    let steps = c.in-Some.ensures.steps in
    let long = steps.1.1 ∙ c.loop-words.invariant.chunk in
    let hs : Bytes c.args.s.now = λ k. omega (arith, c.type_inv.s k) in
    let s = c.args.s.now in
    let l = c.loop-words in
    let front = c.into_iter-words-iterator.result.rest.now in
    let rest = l.words-iterator.rest.now in
    let i = length front - length rest in
    let is_front : front ≡ c.split_at.result.0.now = cc in
    let front_long = ap length is_front in
    let short = l.invariant.left.short in
    let more_long = ap length steps.1.0 ∙ length-append c.in-Some.words.now c.next.new.self.rest.now in
    let f : At s 0 front = rw (is_front, c.split_at.ensures.front) (at_front s (length s / 32 * 32 - 32)) in
    let here : At s i c.in-Some.words.now = at_chunk s front rest c.in-Some.words.now _ 32 f l.invariant.left steps.1.0 in
    let zero : i + 0 ≡ i = omega arith in
    let next : length front - length c.next.new.self.rest.now ≡ i + 32 = omega arith in
    let first = eight_at s i c.in-Some.words.now 0 here (omega arith) ∙ ap (λ (n : ℕ). eight s n) zero in
    record {
      left = left_next _ _ c.in-Some.words.now _ 32 l.invariant.left steps.1.0 long;
      chunk = steps.0 ∙ l.invariant.chunk;
      lanes = rw next
          (lanes_next c.args.c s l.a l.b l.d l.e i _ _ _ _ hs l.invariant.lanes (omega arith)
          (lane 256 s i l.a _ _ (c.word_at.ensures ∙ first) c.word_on-a.ensures)
          (lane 256 s (i + 8) l.b _ _ (c.word_at-in-loop-words.ensures ∙ eight_at s i c.in-Some.words.now 8 here (omega arith)) c.word_on-b.ensures)
          (lane 256 s (i + 16) l.d _ _ (c.word_at-in-loop-words-2.ensures ∙ eight_at s i c.in-Some.words.now 16 here (omega arith)) c.word_on-d.ensures)
          (lane 256 s (i + 24) l.e _ _ (c.word_at-in-loop-words-3.ensures ∙ eight_at s i c.in-Some.words.now 24 here (omega arith)) c.word_on-e.ensures));
    }

pub returns : goal.returns
returns c =
    let hs : Bytes c.args.s.now = λ k. omega (arith, c.type_inv.s k) in
    let s = c.args.s.now in
    let l = c.loop-words in
    let m = length s / 32 * 32 - 32 in
    let end = c.split_at.result.1.now in
    let front = c.into_iter-words-iterator.result.rest.now in
    let is_front : front ≡ c.split_at.result.0.now = cc in
    let front_long = ap length is_front in
    let same = l.invariant.left.same in
    let place : length front - length l.words-iterator.rest.now ≡ m = omega (arith, c.in-None.ensures.steps.1.0) in
    let lanes : Lanes c.args.c s l.a l.b l.d l.e m = rw place at l.invariant.lanes in
    let here : At s m end = rw c.split_at.ensures.back (at_behind s m) in
    let zero : m + 0 ≡ m = omega arith in
    let first = eight_at s m end 0 here (omega arith) ∙ ap (λ (n : ℕ). eight s n) zero in
    ap (λ (t : List ℕ). crc_from (bit_xor c.word_on-z.result l.e) t) (tail_all end 24 ∙ ap (drop 24) c.split_at.ensures.back ∙ drop-drop 24 m s)
    ∙
    lanes_last c.args.c s l.a l.b l.d l.e m _ _ _ hs lanes
    (lane 64 s m l.a _ _ (c.word_at-2.ensures ∙ first) c.word_on-x.ensures)
    (joined s (m + 8) c.word_on-x.result l.b _ _ (c.word_at-3.ensures ∙ eight_at s m end 8 here (omega arith)) c.word_on-y.ensures)
    (joined s (m + 16) c.word_on-y.result l.d _ _ (c.word_at-4.ensures ∙ eight_at s m end 16 here (omega arith)) c.word_on-z.ensures)
