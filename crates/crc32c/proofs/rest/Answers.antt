use Rattle.std.proofs.Common.{◌≡◌, ◌∙◌, ◌+◌, sym, ap, ℕ, length, take, drop, arith}
use Rattle.octets.specs.le.Le.{Bytes}
use Rattle.std.specs.Int.Bits.{bit_xor}
use Rattle.crc32c.specs.Crc.{poly, bits, crc_from}
use Rattle.crc32c.proofs.Words.{crc_from_byte, crc_from_end}
use Rattle.crc32c.proofs.Chunks.{left_next}
use Rattle.crc32c.proofs.RestLaws.{front_at, word_taken, word_last}
use Rattle.crc32c.proofs.rest.Goals as goal
use Rattle.crc32c.proofs.rest.Goals.{then-words-ge8+in-None, else-words-ge8}

pub loop-word-preserved : goal.loop-word-preserved
loop-word-preserved c =
    let steps = c.in-Some.ensures.steps in
    let long = steps.1.1 ∙ c.loop-word.invariant.chunk in
    let hs : Bytes c.args.s.now = λ k. omega (arith, c.type_inv.s k) in
    let front : c.into_iter-word-iterator.result.rest.now ≡ c.split_at-then-words-ge8.result.0.now = cc in
    let front_long = ap length front in
    record {
      left = left_next _ _ c.in-Some.word.now _ 8 c.loop-word.invariant.left steps.1.0 long;
      chunk = steps.0 ∙ c.loop-word.invariant.chunk;
      same =
          word_taken c.args.s.now _ _ c.in-Some.word.now _ c.loop-word.x c.word_at.result _ hs
          (front_at _ _ _ _ _ c.split_at.ensures.front (front ∙ c.split_at-then-words-ge8.ensures.front) (omega arith))
          (omega arith) c.loop-word.invariant.left steps.1.0 long c.word_at.ensures c.word_on-x.ensures
          ∙ c.loop-word.invariant.same;
    }

pub loop-b-init : goal.loop-b-init
loop-b-init c =
    let s = c.args.s.now in
    let words = c.split_at.result.0.now in
    let hs : Bytes s = λ k. omega (arith, c.type_inv.s k) in
    let long = c.split_at.ensures.front_len in
    let front : words ≡ take (length words) s = c.split_at.ensures.front ∙ ap (λ (k : ℕ). take k s) (sym long) in
    let behind : c.split_at.result.1.now ≡ drop (length words) s = c.split_at.ensures.back ∙ ap (λ (k : ℕ). drop k s) (sym long) in
    elim c.if-words-ge8.branch [
      | then-words-ge8+in-None w ↦
          let before : w.into_iter-word-iterator.result.rest.now ≡ w.split_at-then-words-ge8.result.0.now = cc in
          let before_long = ap length before in
          rw (w.x-is, behind)
          (word_last s words _ _ _ (length words) w.loop-word.x _ _ _ hs front (omega arith) w.if-words-ge8.true (omega arith) (omega arith)
          w.split_at-then-words-ge8.ensures.back w.loop-word.invariant.left (omega (arith, w.in-None.ensures.steps.1.0))
          w.word_at-then-words-ge8.ensures w.word_on.ensures w.steps-x.ensures
          ∙ w.loop-word.invariant.same)
      | else-words-ge8 w ↦
          let none : length words ≡ 0 = omega arith in
          rw (w.x-is, behind, none)
    ]

pub loop-b-preserved : goal.loop-b-preserved
loop-b-preserved c =
    ap (λ (y : ℕ). crc_from y (drop (c.loop-b.b-index + 1) c.split_at.result.1.now))
    (c.steps-x-in-loop-b.ensures ∙ ap (λ (y : ℕ). bits poly 8 (bit_xor c.loop-b.x y)) c.from.ensures)
    ∙ sym (crc_from_byte c.loop-b.x c.split_at.result.1.now c.loop-b.b-index (omega arith))
    ∙ c.loop-b.invariant

pub returns : goal.returns
returns c = sym (crc_from_end c.loop-b.x c.split_at.result.1.now c.loop-b.b-index (omega arith)) ∙ c.loop-b.invariant
