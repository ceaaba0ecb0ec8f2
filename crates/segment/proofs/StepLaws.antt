-- The laws of specs/Step.antt.
-- Assumes nothing.
use Rattle.std.specs.Prelude.{Bool, true, false, cond, ◌&&◌, List, ◌≡◌, ℕ, ◌+◌, ◌-◌, ◌≤◌, ◌<◌, take, Some, None}
use Rattle.std.specs.Prelude.{Option as Maybe}
use Rattle.std.proofs.Math.Option.{none, some}
use Rattle.std.proofs.Math.Path.{sym, ap}
use Rattle.std.proofs.Common.{◌∙◌, take-take, drop-drop, get_or-take}
use native.Mathlib.Omega.{arith}
use Rattle.std.proofs.Math.ListN.{length, drop, get_or, length-drop}
use Rattle.std.proofs.Math.Seq.{length-take-le}
use borrow.Author.Tests.{lt-leb, le-leb}
use Rattle.octets.proofs.OverLaws.{drop_take}
use Rattle.octets.specs.Zero.{same_bytes, all_zero}
use Rattle.octets.specs.Round.{round64}
use Rattle.octets.proofs.RoundLaws.{round64_ge}
use Rattle.octets.specs.le.Le.{le_at}
use Rattle.segment.specs.chain.Chain.{framed}
use Rattle.segment.specs.Header.{Link, State, link_at, size, hash_in, content_hash, read, size_at, sound, head_sound, length_in, id_in, kind_in, flags_in, whole}
use Rattle.segment.specs.Laws.{link_front}
use Rattle.segment.proofs.Laws.{link_in_front, number_front, LinkRead, lies}
use Rattle.segment.specs.Step.{least_id, state_at, step_of, step_at, whole_at}

-- ---- the ways out

-- bytes that have room for the link that their header says: the tests that are left
link_tests : (st : State) (s : List ℕ) (n : ℕ) → length_in (take 64 s) ≡ n → 64 + round64 n ≤ length s
    → link_at st s ≡ cond (head_sound st.least (take 64 s) && all_zero (take (round64 n - n) (drop (64 + n) s))) (some (link_front st.at s)) none
unfolding framed read size_at sound
link_tests st s n e h =
    let r : n ≤ round64 n = round64_ge n in
    let g : length_in s ≡ n = sym (number_front 8 0x10 s (omega arith)) ∙ e in
    let q : 64 + round64 n - (64 + n) ≡ round64 n - n = omega arith in
    let p : drop (64 + n) (take (64 + round64 n) s) ≡ take (round64 n - n) (drop (64 + n) s) =
    drop_take (64 + n) (64 + round64 n) s ∙ ap (λ (k : ℕ). take k (drop (64 + n) s)) q in
    rw (
      e,
      le-leb 64 (length s) (omega arith),
      le-leb (64 + round64 n) (length s) h,
      take-take 64 (64 + round64 n) s (omega arith),
      e,
      p,
      link_in_front st.at s (64 + round64 n) (omega arith),
    )

module _ (f : List ℕ) (at : ℕ) (prev : Maybe ℕ) where
  -- the header as the function is lent it
  abbrev head : List ℕ
  head = take (at + 64 - at) (drop at f)

  head-is : head ≡ take 64 (drop at f)
  head-is = let e : at + 64 - at ≡ 64 = omega arith in ap (λ (n : ℕ). take n (drop at f)) e

  -- no room for a header
  pub step_short : length f - at < 64 → None ≡ step_at f at prev
  unfolding step_at step_of framed
  step_short h = rw (length-drop, lt-leb 64 (length f - at) h)

  -- the end above N
  pub step_cut : (n : ℕ) → n ≡ le_at 8 head 0x10 → 64 ≤ length f - at → length f - at < 64 + round64 n → None ≡ step_at f at prev
  unfolding step_at step_of framed size_at
  step_cut n e h k =
      let g : length_in (take 64 (drop at f)) ≡ n = rw (← head-is) (sym e) in
      rw (g, length-drop, le-leb 64 (length f - at) h, lt-leb (64 + round64 n) (length f - at) k)

  -- the link lies in the file
  module _ (n m : ℕ) (e : n ≡ le_at 8 head 0x10) (z : m ≡ round64 n) (fits : 64 + m ≤ length f - at) where
    abbrev pad : List ℕ
    pad = take (at + 64 + m - (at + 64 + n)) (drop (at + 64 + n) f)

    tests : link_at (state_at at prev) (drop at f) ≡ cond (head_sound (least_id prev) head && all_zero pad) (some (link_front at (drop at f))) none
    tests =
        let g : length_in (take 64 (drop at f)) ≡ n = rw (← head-is) (sym e) in
        let k : 64 + round64 n ≤ length (drop at f) = rw (length-drop, ← z) fits in
        let a : at + 64 + m - (at + 64 + n) ≡ round64 n - n = omega arith in
        let b : at + 64 + n ≡ at + (64 + n) = omega arith in
        link_tests (state_at at prev) (drop at f) n g k ∙ rw (head-is, a, b, drop-drop)

    pub step_unsound : head_sound (least_id prev) head ≡ false → None ≡ step_at f at prev
    unfolding step_at step_of
    step_unsound h = rw (tests, h)

    pub step_padding : head_sound (least_id prev) head ≡ true → all_zero pad ≡ false → None ≡ step_at f at prev
    unfolding step_at step_of
    step_padding h k = rw (tests, h, k)

    pub step_sound : head_sound (least_id prev) head ≡ true → all_zero pad ≡ true → (id flags : ℕ) → id ≡ le_at 8 head 0x08 → flags ≡ le_at 2 head 0x06
        → Some (record { end = at + 64 + m; id = id; length = n; kind = get_or head 0x05 0; flags = flags }) ≡ step_at f at prev
    unfolding step_at step_of link_front size
    step_sound h k id flags p q =
        let s = drop at f in
        let r : n ≤ round64 n = round64_ge n in
        let g : length_in s ≡ n = sym (number_front 8 0x10 s (omega arith)) ∙ rw (← head-is) (sym e) in
        let l : length (take (length_in s) (drop 64 s)) ≡ n = ap (λ (k : ℕ). length (take k (drop 64 s))) g ∙ length-take-le n (drop 64 s) (simp length-drop (omega arith)) in
        let id_is : id ≡ id_in s = p ∙ rw head-is (number_front 8 0x08 s (omega arith)) in
        let kind_is : get_or head 0x05 0 ≡ kind_in s = rw head-is (get_or-take 64 s 0x05 0 (omega arith)) in
        let flags_is : flags ≡ flags_in s = q ∙ rw head-is (number_front 2 0x06 s (omega arith)) in
        let end_is : at + 64 + m ≡ at + (64 + round64 n) = omega arith in
        rw (tests, h, k, l, id_is, kind_is, flags_is, end_is)

-- ---- whether a link is whole

-- the payload, as the code takes it out of the file
pub payload_part : (f : List ℕ) (at len : ℕ) → take (at + 64 + len - (at + 64)) (drop (at + 64) f) ≡ take len (drop (at + 64) f)
payload_part f at len = let e : at + 64 + len - (at + 64) ≡ len = omega arith in ap (λ (n : ℕ). take n (drop (at + 64) f)) e

pub whole_by : (f : List ℕ) (at len : ℕ) (r : Bool) (hash : List ℕ) → r ≡ same_bytes (take (at + 0x38 - (at + 0x28)) (drop (at + 0x28) f)) hash
    → hash ≡ content_hash (take len (drop (at + 64) f)) → r ≡ whole_at f at len
unfolding whole_at
whole_by f at len r hash p q =
    let a : at + 0x38 - (at + 0x28) ≡ 16 = omega arith in
    p ∙ rw (q, a, drop-drop)

-- the test at a link's place is the test of the link
pub whole_link : (f : List ℕ) (st : State) (at : ℕ) (l : Link) → link_at st (drop at f) ≡ some l → whole l ≡ whole_at f at (length l.payload)
unfolding whole whole_at link_front
whole_link f st at l e =
    let y : LinkRead st (drop at f) l = lies st (drop at f) l e in
    let p : l.payload ≡ take (length l.payload) (drop (at + 64) f) =
    ap (λ (l : Link). l.payload) y.link_is ∙ ap (λ (n : ℕ). take n (drop 64 (drop at f))) (sym y.length_is) ∙ rw drop-drop in
    let h : l.hash ≡ hash_in (drop at f) = ap (λ (l : Link). l.hash) y.link_is in
    ap (λ (x : List ℕ). same_bytes x (content_hash l.payload)) h ∙ ap (λ (x : List ℕ). same_bytes (hash_in (drop at f)) (content_hash x)) p
