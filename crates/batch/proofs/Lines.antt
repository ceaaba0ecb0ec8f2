-- Laws of a batch's lines: a line by its 16 bytes, the ways out of the tests on a line and on a batch, where a loop over the lines stands, and what
-- a batch that has the form says of each body.
-- Assumes nothing.
use Prim.Native.Nat.{ℕ, zero, suc, ◌+◌, ◌-◌, ◌*◌, ◌≤◌, ◌<◌}
use Rattle.std.specs.Prelude.{◌≡◌, refl, Bool, true, false, ◌&&◌, List, length, take, drop, get_or}
use Rattle.std.proofs.Common.{sym, ap, ◌∙◌, add-zero, length-drop, length-take-le, get_or-take, get_or-drop}
use Rattle.std.proofs.Math.Bool.{not, and-false}
use native.Mathlib.Omega.{arith}
use Rattle.std.proofs.Math.Dec.{eqb, leb}
use Rattle.std.proofs.Math.Seq.{drop-drop}
use borrow.Author.Tests.{le-leb, lt-leb, eq-eqb, ne_eqb, leb-true, eqb-true}
use Rattle.octets.specs.Zero.{all_zero}
use Rattle.octets.proofs.ZeroLaws.{and_split}
use Rattle.octets.proofs.Parts.{part_front}
use Rattle.octets.specs.le.Le.{le_at}
use Rattle.answers.specs.limits.Limits.{max_bodies, max_batch}
use Rattle.segment.specs.Header.{type_held, type_reserved, flags_held}
use Rattle.batch.specs.Form.{Body, line_length, body_kind_held, line_held, lines_held, body_count, bodies_at, batch_held, bodies_from, bodies_of}
use Rattle.batch.specs.Lines.{no_body}

-- ---- a line at the front of longer bytes is its 16 bytes

pub line_front : (at : ℕ) (x : List ℕ) → line_held at (take 16 x) ≡ line_held at x
unfolding line_held
line_front at x =
    rw (
      get_or-take 16 x 0 0 (omega arith),
      get_or-take 16 x 1 0 (omega arith),
      part_front 2 2 16 x (omega arith),
      part_front 4 4 16 x (omega arith),
      part_front 12 4 16 x (omega arith),
    )

-- ---- the ways out of the tests on a line

module _ (at : ℕ) (x : List ℕ) where
  pub line_kind : type_held (get_or x 0 0) ≡ false → false ≡ line_held at x
  unfolding line_held body_kind_held
  line_kind e = rw e

  pub line_reserved : type_reserved (get_or x 0 0) ≡ true → false ≡ line_held at x
  unfolding line_held body_kind_held
  line_reserved e = rw (e, and-false (type_held (get_or x 0 0)))

  pub line_manifest : get_or x 0 0 ≡ 5 → false ≡ line_held at x
  unfolding line_held body_kind_held
  line_manifest e = rw (eq-eqb (get_or x 0 0) 5 e, and-false (type_held (get_or x 0 0) && not (type_reserved (get_or x 0 0))))

  pub line_zero : (get_or x 1 0 ≡ 0 → ⊥) → false ≡ line_held at x
  unfolding line_held
  line_zero n = rw (ne_eqb (get_or x 1 0) 0 n, and-false (body_kind_held (get_or x 0 0)))

  pub line_flags : flags_held (le_at 2 x 2) ≡ false → false ≡ line_held at x
  unfolding line_held
  line_flags e = rw (e, and-false (body_kind_held (get_or x 0 0) && eqb (get_or x 1 0) 0))

  -- r is the offset as the code has read it
  pub line_offset : (r : ℕ) → r ≡ le_at 4 x 4 → (r ≡ at → ⊥) → false ≡ line_held at x
  unfolding line_held
  line_offset r r-is n =
      rw (ne_eqb (le_at 4 x 4) at (λ e. n (r-is ∙ e)), and-false (body_kind_held (get_or x 0 0) && eqb (get_or x 1 0) 0 && flags_held (le_at 2 x 2)))

  -- all but the last hold, and the last decides
  pub line_holds : (r : Bool) → type_held (get_or x 0 0) ≡ true → type_reserved (get_or x 0 0) ≡ false → (get_or x 0 0 ≡ 5 → ⊥) → get_or x 1 0 ≡ 0
      → flags_held (le_at 2 x 2) ≡ true → le_at 4 x 4 ≡ at → r ≡ all_zero (take 4 (drop 12 x)) → r ≡ line_held at x
  unfolding line_held body_kind_held
  line_holds r kind free other zero_is flags offset last =
      last ∙ rw (kind, free, ne_eqb (get_or x 0 0) 5 other, eq-eqb (get_or x 1 0) 0 zero_is, flags, eq-eqb (le_at 4 x 4) at offset)

  -- a line that has the form says where its body begins
  pub line_begins : line_held at x ≡ true → le_at 4 x 4 ≡ at
  unfolding line_held
  line_begins e =
      let tests = body_kind_held (get_or x 0 0) && eqb (get_or x 1 0) 0 && flags_held (le_at 2 x 2) in
      let a = and_split (tests && eqb (le_at 4 x 4) at) (all_zero (take 4 (drop 12 x))) e in
      let b = and_split tests (eqb (le_at 4 x 4) at) a.0 in
      eqb-true (le_at 4 x 4) at b.1

-- ---- the ways out of the tests on a batch

module _ (s : List ℕ) where
  pub batch_short : length s < 16 → false ≡ batch_held s
  unfolding batch_held
  batch_short h = rw (lt-leb 16 (length s) h)

  pub batch_long : max_batch < length s → false ≡ batch_held s
  unfolding batch_held
  batch_long h = rw (lt-leb (length s) max_batch h, and-false (leb 16 (length s)))

  pub batch_zeros : all_zero (take 12 (drop 4 s)) ≡ false → false ≡ batch_held s
  unfolding batch_held
  batch_zeros e = rw (e, and-false (leb 16 (length s) && leb (length s) max_batch && leb (body_count s) max_bodies))

  -- m is the number of bodies as the code has read it
  module _ (m : ℕ) (m-is : m ≡ le_at 4 s 0) where
    pub count_is : m ≡ body_count s
    unfolding body_count
    count_is = m-is

    pub batch_many : max_bodies < m → false ≡ batch_held s
    unfolding batch_held
    batch_many h = rw (← count_is, lt-leb m max_bodies h, and-false (leb 16 (length s) && leb (length s) max_batch))

    pub batch_room : length s < bodies_at m → false ≡ batch_held s
    unfolding batch_held
    batch_room h =
        rw (
          ← count_is,
          lt-leb (bodies_at m) (length s) h,
          and-false (leb 16 (length s) && leb (length s) max_batch && leb m max_bodies && all_zero (take 12 (drop 4 s))),
        )

    -- the head holds, and the lines decide
    pub batch_lines : 16 ≤ length s → length s ≤ max_batch → m ≤ max_bodies → all_zero (take 12 (drop 4 s)) ≡ true → bodies_at m ≤ length s
        → lines_held m (bodies_at m) (drop 16 s) (length s) ≡ batch_held s
    unfolding batch_held
    batch_lines least most at_most zeros room =
        rw (← count_is, le-leb 16 (length s) least, le-leb (length s) max_batch most, le-leb m max_bodies at_most, zeros, le-leb (bodies_at m) (length s) room)

  module _ (held : batch_held s ≡ true) where
    rest : (leb 16 (length s) && leb (length s) max_batch && leb (body_count s) max_bodies && all_zero (take 12 (drop 4 s))
        && leb (bodies_at (body_count s)) (length s) ≡ true) × (lines_held (body_count s) (bodies_at (body_count s)) (drop 16 s) (length s) ≡ true)
    unfolding batch_held
    rest = and_split _ _ held

    pub held_room : bodies_at (body_count s) ≤ length s
    held_room =
        let head = leb 16 (length s) && leb (length s) max_batch && leb (body_count s) max_bodies && all_zero (take 12 (drop 4 s)) in
        leb-true (bodies_at (body_count s)) (length s) (and_split head (leb (bodies_at (body_count s)) (length s)) rest.0).1

    pub held_bounds : (body_count s ≤ 16) × ((length s ≤ 1048576) × (16 ≤ length s))
    held_bounds =
        let a = and_split _ _ rest.0 in
        let b = and_split _ _ a.0 in
        let c = and_split _ _ b.0 in
        let d = and_split _ _ c.0 in
        (leb-true (body_count s) max_bodies c.1, (leb-true (length s) max_batch d.1, leb-true 16 (length s) d.0))

-- ---- where a loop over n lines stands: i are behind it, and the next body is to begin at `at`

pub record BatchLinesAt (s : List ℕ) (n i at : ℕ) : Type 0 where
  pub at_most : i ≤ n
  pub small : at ≤ 16 + 16 * n + 4294967295 * i
  pub same : lines_held (n - i) at (drop (16 + 16 * i) s) (length s) ≡ lines_held n (bodies_at n) (drop 16 s) (length s)

pub lines_first : (s : List ℕ) (n : ℕ) → BatchLinesAt s n 0 (16 + 16 * n)
lines_first s n = let e : n - 0 ≡ n = omega arith in record { at_most = omega arith; small = omega arith; same = rw e }

module _ (s : List ℕ) (n i at : ℕ) (st : BatchLinesAt s n i at) (h : i < n) where
  -- the line as the code takes it out of the batch
  abbrev line : List ℕ
  line = take (16 + 16 * i + 16 - (16 + 16 * i)) (drop (16 + 16 * i) s)

  line-is : line_held at line ≡ line_held at (drop (16 + 16 * i) s)
  line-is =
      let e : 16 + 16 * i + 16 - (16 + 16 * i) ≡ 16 = omega arith in
      ap (λ (k : ℕ). line_held at (take k (drop (16 + 16 * i) s))) e ∙ line_front at (drop (16 + 16 * i) s)

  turn : lines_held (n - i) at (drop (16 + 16 * i) s) (length s)
      ≡ line_held at (drop (16 + 16 * i) s) && lines_held (n - (i + 1)) (at + le_at 4 s (16 + 16 * i + 8)) (drop (16 + 16 * (i + 1)) s) (length s)
  unfolding lines_held
  turn =
      let fuel : n - i ≡ suc (n - (i + 1)) = omega arith in
      let e : 16 + 16 * i + 16 ≡ 16 + 16 * (i + 1) = omega arith in
      rw (fuel, drop-drop 8 (16 + 16 * i) s, drop-drop 16 (16 + 16 * i) s, e)

  pub lines_stop : line_held at line ≡ false → false ≡ lines_held n (bodies_at n) (drop 16 s) (length s)
  lines_stop e = sym (turn ∙ rw (sym line-is ∙ e)) ∙ st.same

  pub lines_next : (k : ℕ) → k ≡ le_at 4 s (16 + 16 * i + 8) → k ≤ 4294967295 → line_held at line ≡ true → BatchLinesAt s n (i + 1) (at + k)
  lines_next k k-is most e =
      let small = st.small in
      record { at_most = omega arith; small = omega arith; same = rw k-is (sym (turn ∙ rw (sym line-is ∙ e)) ∙ st.same) }

pub lines_last : (s : List ℕ) (n i at : ℕ) → BatchLinesAt s n i at → n ≤ i → eqb at (length s) ≡ lines_held n (bodies_at n) (drop 16 s) (length s)
unfolding lines_held
lines_last s n i at st h =
    let at_most = st.at_most in
    let e : n - i ≡ 0 = omega arith in
    let one : lines_held (n - i) at (drop (16 + 16 * i) s) (length s) ≡ eqb at (length s) = rw e in
    sym one ∙ st.same

-- ---- the bodies of a batch that has the form

from_count : (n at : ℕ) (xs s : List ℕ) → length (bodies_from n at xs s) ≡ n
unfolding bodies_from
from_count zero at xs s = refl
from_count (suc n) at xs s = ap suc (from_count n (at + line_length xs) (drop 16 xs) s)

pub bodies_count : (s : List ℕ) → length (bodies_of s) ≡ body_count s
unfolding bodies_of
bodies_count s = from_count (body_count s) (bodies_at (body_count s)) (drop 16 s) s

-- the body of the line at the front of x, by the offset that the line has
abbrev body_in : List ℕ → List ℕ → Body
body_in x s = record { kind = get_or x 0 0; flags = le_at 2 x 2; payload = take (line_length x) (drop (le_at 4 x 4) s) }

-- bodies end where the batch does, so none begins behind it
pub begins_inside : (n at : ℕ) (xs : List ℕ) (end : ℕ) → lines_held n at xs end ≡ true → at ≤ end
unfolding lines_held
begins_inside zero at xs end e = omega (arith, eqb-true at end e)
begins_inside (suc n) at xs end e =
    let p = and_split (line_held at xs) (lines_held n (at + line_length xs) (drop 16 xs) end) e in
    omega (arith, begins_inside n (at + line_length xs) (drop 16 xs) end p.1)

from_at : (n at : ℕ) (xs s : List ℕ) (end j : ℕ) → lines_held n at xs end ≡ true → j < n
    → (get_or (bodies_from n at xs s) j no_body ≡ body_in (drop (16 * j) xs) s) × (le_at 4 (drop (16 * j) xs) 4 + le_at 4 (drop (16 * j) xs) 8 ≤ end)
unfolding lines_held bodies_from
from_at zero at xs s end j e h = absurd (omega arith)
from_at (suc n) at xs s end zero e h =
    let p = and_split (line_held at xs) (lines_held n (at + line_length xs) (drop 16 xs) end) e in
    let o : le_at 4 xs 4 ≡ at = line_begins at xs p.0 in
    let i = begins_inside n (at + line_length xs) (drop 16 xs) end p.1 in
    (rw o, omega (arith, o, i))
from_at (suc n) at xs s end (suc j) e h =
    let d : 16 + 16 * j ≡ 16 * suc j = omega arith in
    let q : drop (16 * j) (drop 16 xs) ≡ drop (16 * suc j) xs = drop-drop (16 * j) 16 xs ∙ ap (λ (k : ℕ). drop k xs) d in
    let p = and_split (line_held at xs) (lines_held n (at + line_length xs) (drop 16 xs) end) e in
    let r = from_at n (at + line_length xs) (drop 16 xs) s end j p.1 (omega arith) in
    (r.0 ∙ ap (λ (x : List ℕ). body_in x s) q, rw q at r.1)

-- body j of a batch, by the batch's bytes
pub record BodyAt (s : List ℕ) (j : ℕ) : Type 0 where
  pub line_room : 16 + 16 * j + 16 ≤ length s
  pub kind_is : (get_or (bodies_of s) j no_body).kind ≡ get_or s (16 + 16 * j) 0
  pub flags_is : (get_or (bodies_of s) j no_body).flags ≡ le_at 2 s (16 + 16 * j + 2)
  pub payload_is : (get_or (bodies_of s) j no_body).payload ≡ take (le_at 4 s (16 + 16 * j + 8)) (drop (le_at 4 s (16 + 16 * j + 4)) s)
  pub payload_length_is : length (get_or (bodies_of s) j no_body).payload ≡ le_at 4 s (16 + 16 * j + 8)
  pub room : le_at 4 s (16 + 16 * j + 4) + le_at 4 s (16 + 16 * j + 8) ≤ length s

pub body_at : (s : List ℕ) → batch_held s ≡ true → (j : ℕ) → j < body_count s → BodyAt s j
unfolding bodies_of
body_at s held j h =
    let r = from_at (body_count s) (bodies_at (body_count s)) (drop 16 s) s (length s) j (rest s held).1 h in
    let q : drop (16 * j) (drop 16 s) ≡ drop (16 + 16 * j) s = drop-drop (16 * j) 16 s in
    let b : get_or (bodies_of s) j no_body ≡ body_in (drop (16 + 16 * j) s) s = r.0 ∙ ap (λ (x : List ℕ). body_in x s) q in
    let room : le_at 4 s (16 + 16 * j + 4) + le_at 4 s (16 + 16 * j + 8) ≤ length s = rw (q, drop-drop 4 (16 + 16 * j) s, drop-drop 8 (16 + 16 * j) s) at r.1 in
    let bytes : (get_or (bodies_of s) j no_body).payload ≡ take (le_at 4 s (16 + 16 * j + 8)) (drop (le_at 4 s (16 + 16 * j + 4)) s) =
    ap (λ (x : Body). x.payload) b ∙ rw (drop-drop 4 (16 + 16 * j) s, drop-drop 8 (16 + 16 * j) s) in
    record {
      line_room = omega (arith, held_room s held);
      kind_is = ap (λ (x : Body). x.kind) b ∙ get_or-drop (16 + 16 * j) s 0 0 ∙ rw add-zero;
      flags_is = ap (λ (x : Body). x.flags) b ∙ rw (drop-drop 2 (16 + 16 * j) s);
      payload_is = bytes;
      payload_length_is =
          ap length bytes
          ∙ length-take-le (le_at 4 s (16 + 16 * j + 8)) (drop (le_at 4 s (16 + 16 * j + 4)) s) (omega (arith, length-drop (le_at 4 s (16 + 16 * j + 4)) s));
      room = room;
    }
