-- The search from the end, boundary by boundary: t of the b boundaries are tried with the one that the turn is at.
use Rattle.std.proofs.Common.{◌≡◌, ℕ, List, [], ◌∷◌, ◌++◌, ◌+◌, ◌-◌, ◌*◌, ◌/◌, ◌≤◌, ◌<◌, length, take, get_or, true, false, refl, sym, ap, ◌∙◌, arith}
use Rattle.std.proofs.Math.Option.{some}
use Rattle.std.proofs.Math.Seq.{take-length}
use Rattle.octets.specs.Round.{round64}
use Rattle.octets.proofs.RoundLaws.{round64_lt}
use Rattle.segment.specs.chain.Chain.{open_of}
use Rattle.segment.specs.Header.{start, reader, size}
use Rattle.segment.specs.Chained.{chain, offsets_of}
use Rattle.segment.specs.index.Offsets.{link_no}
use Rattle.segment.specs.index.Numbered.{Numbered}
use Rattle.segment.proofs.index.Down.{DownAt, down_first, down_skip, down_not, down_found, down_none, down_link}
use Rattle.manifest.specs.Payload.{confirmed}
use Rattle.manifest.specs.Opening.{opened}
use Rattle.opening.proofs.CandidateLaws.{front_offsets, LastLeft, last_left}
use Rattle.opening.proofs.Opened.{bounded, found_none, found_at}
use Rattle.opening.proofs.find_from_end.Goals as goal

module _ (f offsets left : List ℕ) (b t : ℕ) (l : left ≡ take (length left) offsets) (d : DownAt confirmed f offsets (length offsets) ((b + 1 - t) * 64) (length left)) (h : t ≤ b) where
  below : (b + 1 - t) * 64 - 64 ≡ (b - t) * 64
  below = omega arith

  skipped : (0 < length left → get_or offsets (length left - 1) 0 ≡ (b - t) * 64 → ⊥) → DownAt confirmed f offsets (length offsets) ((b - t) * 64) (length left)
  skipped none-there = rw below at (down_skip confirmed f offsets (length offsets) _ (length left) d (omega arith) bounded (λ j q. none-there j (q ∙ below)))

  -- none is left
  none : length left ≡ 0 → DownAt confirmed f offsets (length offsets) ((b - t) * 64) (length left)
  none e = skipped (λ j. absurd (omega arith))

  module _ (before : List ℕ) (last : ℕ) (s : left ≡ before ++ (last ∷ [])) where
    split : LastLeft offsets before last (length left)
    split = last_left offsets left before last l s d.at_most

    number : length left - 1 ≡ length before
    number = omega (arith, split.count)

    last-is : get_or offsets (length left - 1) 0 ≡ last
    last-is = ap (λ (i : ℕ). get_or offsets i 0) number ∙ split.last_is

    -- the last one left begins elsewhere
    elsewhere : (last ≡ (b - t) * 64 → ⊥) → DownAt confirmed f offsets (length offsets) ((b - t) * 64) (length left)
    elsewhere n = skipped (λ j e. n (sym last-is ∙ e))

    -- it begins here
    module _ (e : last ≡ (b - t) * 64) where
      some-left : 0 < length left
      some-left = omega (arith, split.count)

      there : get_or offsets (length left - 1) 0 ≡ (b + 1 - t) * 64 - 64
      there = last-is ∙ e ∙ sym below

      offsets-before : before ≡ offsets_of (take (length before) (chain f))
      offsets-before = split.before_are ∙ sym (front_offsets f offsets (length offsets) (length before) d.stored (omega (arith, split.count, d.at_most)))

      link : Numbered f ((b - t) * 64) (length before) (link_no f (length before))
      link = rw (below, number) at (down_link confirmed f offsets (length offsets) _ (length left) d some-left there)

      found : confirmed (take (length before) (chain f)) (link_no f (length before)) ≡ true
          → open_of reader confirmed start f ≡ some (record { before = take (length before) (chain f); link = link_no f (length before) })
      found c = rw number at (down_found confirmed f offsets (length offsets) _ (length left) d (omega arith) some-left there (rw number c)).found

      not-it : confirmed (take (length before) (chain f)) (link_no f (length before)) ≡ false → DownAt confirmed f offsets (length offsets) ((b - t) * 64) (length before)
      not-it c = rw (below, number) at (down_not confirmed f offsets (length offsets) _ (length left) d (omega arith) some-left there bounded (rw number c))

next : (b t : ℕ) → (b + 1 - (t + 1)) * 64 ≡ (b - t) * 64
next b t = omega arith

pub loop-tried-init : goal.loop-tried-init
loop-tried-init c =
    let e : (length c.args.file.now / 64 + 1 - 1) * 64 ≡ length c.args.file.now / 64 * 64 = omega arith in
    record { left = sym (take-length c.args.offsets.now); search = rw e (down_first _ _ _ _ c.requires.stored) }

pub loop-tried-preserved-in_default : goal.loop-tried-preserved-in_default
loop-tried-preserved-in_default c =
    let v = c.loop-tried.invariant in
    record { left = v.left; search = rw next (none _ _ _ _ _ v.left v.search c.loop-tried-test.true c.in_default.ensures.cases) }

pub loop-tried-preserved-then-last-p : goal.loop-tried-preserved-then-last-p
loop-tried-preserved-then-last-p c =
    let v = c.loop-tried.invariant in
    record { left = v.left; search = rw next (elsewhere _ _ _ _ _ v.left v.search c.loop-tried-test.true _ _ c.in-Some.ensures.cases.0 c.if-last-p.true) }

pub candidate-requires-clause-before : goal.candidate-requires-clause-before
candidate-requires-clause-before c =
    let v = c.loop-tried.invariant in
    offsets-before _ _ _ _ _ v.left v.search c.loop-tried-test.true _ _ c.in-Some.ensures.cases.0 c.if-last-p.false

pub candidate-requires-clause-numbered : goal.candidate-requires-clause-numbered
candidate-requires-clause-numbered c =
    let v = c.loop-tried.invariant in
    link _ _ _ _ _ v.left v.search c.loop-tried-test.true _ _ c.in-Some.ensures.cases.0 c.if-last-p.false

pub round_up-requires : goal.round_up-requires
round_up-requires c =
    let v = c.loop-tried.invariant in
    let m = link _ _ _ _ _ v.left v.search c.loop-tried-test.true _ _ c.in-Some.ensures.cases.0 c.if-last-p.false in
    omega (arith, m.room, m.length_is, c.u64_at-len.ensures)

pub overflow_add-result-then-candidate : goal.overflow_add-result-then-candidate
overflow_add-result-then-candidate c =
    let v = c.loop-tried.invariant in
    let m = link _ _ _ _ _ v.left v.search c.loop-tried-test.true _ _ c.in-Some.ensures.cases.0 c.if-last-p.false in
    omega (arith, m.room, m.length_is, c.u64_at-len.ensures, c.round_up.ensures, round64_lt c.u64_at-len.result)

pub returns-then-candidate : goal.returns-then-candidate
unfolding opened size
returns-then-candidate c =
    let v = c.loop-tried.invariant in
    let m = link _ _ _ _ _ v.left v.search c.loop-tried-test.true _ _ c.in-Some.ensures.cases.0 c.if-last-p.false in
    let d = found _ _ _ _ _ v.left v.search c.loop-tried-test.true _ _ c.in-Some.ensures.cases.0 c.if-last-p.false (sym c.candidate.ensures ∙ c.if-candidate.true) in
    let l : round64 c.u64_at-len.result ≡ round64 _ = ap round64 (c.u64_at-len.ensures ∙ sym m.length_is) in
    found_at _ _ _ _ _ _ _ _ d (sym m.offset_is)
    (omega (arith, m.offset_is, c.round_up.ensures, l)) (c.u64_at.ensures ∙ sym m.id_is)
    (sym m.before) (omega (arith, m.offset_is))

pub loop-tried-preserved : goal.loop-tried-preserved
loop-tried-preserved c =
    let v = c.loop-tried.invariant in
    let s = c.in-Some.ensures.cases.0 in
    record {
      left = (last_left c.args.offsets.now _ _ _ v.left s v.search.at_most).before_are;
      search = rw next (not-it _ _ _ _ _ v.left v.search c.loop-tried-test.true _ _ s c.if-last-p.false (sym c.candidate.ensures ∙ c.if-candidate.false));
    }

pub returns : goal.returns
unfolding opened
returns c = found_none _ _ (down_none _ _ _ _ _ _ c.loop-tried.invariant.search (omega arith)) refl

pub returns-in_default : goal.returns-in_default
unfolding opened
returns-in_default c =
    let v = c.loop-tried.invariant in
    found_none _ _ (down_none _ _ _ _ _ _ (none _ _ _ _ _ v.left v.search c.loop-tried-test.true c.in_default.ensures.cases) (omega arith)) refl

pub returns-then-last-p : goal.returns-then-last-p
unfolding opened
returns-then-last-p c =
    let v = c.loop-tried.invariant in
    found_none _ _
    (down_none _ _ _ _ _ _ (elsewhere _ _ _ _ _ v.left v.search c.loop-tried-test.true _ _ c.in-Some.ensures.cases.0 c.if-last-p.true) (omega arith))
    refl

pub returns-else-candidate : goal.returns-else-candidate
unfolding opened
returns-else-candidate c =
    let v = c.loop-tried.invariant in
    found_none _ _
    (down_none _ _ _ _ _ _
    (not-it _ _ _ _ _ v.left v.search c.loop-tried-test.true _ _ c.in-Some.ensures.cases.0 c.if-last-p.false (sym c.candidate.ensures ∙ c.if-candidate.false))
    (omega arith))
    refl
