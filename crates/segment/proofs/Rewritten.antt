-- What was read, written anew: the fields of a link are those that a segment may have, and they and the payload say all the bytes that it was read
-- from.
-- Assumes nothing.
use Rattle.std.specs.Prelude.{◌≡◌}
use Rattle.std.proofs.Math.Path.{refl, sym, ap}
use Rattle.std.proofs.Common.{◌∙◌, arith, lit<, take-take, take-add, drop-drop, drop-cons, get_or-take}
use Rattle.std.proofs.Math.Bool.{true}
use Rattle.std.proofs.Math.Option.{some}
use mathlib.Core.List.{List, [], ◌∷◌, ◌++◌, append_assoc}
use Prim.Native.Nat.{ℕ, ◌+◌, ◌-◌, ◌^◌, ◌≤◌, ◌<◌}
use Rattle.std.proofs.Math.ListN.{length, take, drop, get_or, replicate, length-drop, take-append-drop}
use Rattle.std.proofs.Math.Seq.{length-take-le}
use borrow.Author.Tests.{eqb-true}
use Rattle.octets.specs.Round.{round64, padding}
use Rattle.octets.proofs.Parts.{part_front}
use Rattle.octets.specs.Zero.{all_zero}
use Rattle.octets.proofs.ZeroLaws.{all_zeros, same_equal, and_split}
use Rattle.octets.specs.le.Le.{le_bytes, Bytes}
use Rattle.octets.proofs.le.Laws.{le_back, le_fits}
use Rattle.segment.specs.Header.{Link, State, link_at, size, sound, head_sound, head_tests, type_held, flags_held, magic, whole, content_hash, length_in, id_in, kind_in, flags_in, timestamp_in, hash_in}
use Rattle.segment.proofs.Tests.{all_at}
use Rattle.segment.specs.Laws.{link_front}
use Rattle.segment.proofs.Laws.{LinkRead, lies, read_sound, number_front, size_least}
use Rattle.segment.specs.Written.{header_of, header, segment}

-- ---- the parts of a list

part : (s : List ℕ) (a n m : ℕ) → take (n + m) (drop a s) ≡ take n (drop a s) ++ take m (drop (a + n) s)
part s a n m = take-add n m (drop a s) ∙ ap (λ (x : List ℕ). take n (drop a s) ++ take m x) (drop-drop n a s)

one : (s : List ℕ) (a : ℕ) → a < length s → take 1 (drop a s) ≡ get_or s a 0 ∷ []
one s a h = ap (take 1) (drop-cons s a 0 h)

zeros : (s : List ℕ) (a n : ℕ) → a + n ≤ length s → all_zero (take n (drop a s)) ≡ true → take n (drop a s) ≡ replicate n 0
zeros s a n h e =
    all_zeros (take n (drop a s)) e
    ∙ ap (λ (k : ℕ). replicate k 0) (length-take-le n (drop a s) (omega (arith, length-drop a s)))

-- the fields of a header, one behind the other
head_parts : (s : List ℕ)
    → take 64 s
    ≡ take 4 s
    ++ (take 1 (drop 4 s)
    ++ (take 1 (drop 5 s)
    ++ (take 2 (drop 6 s)
    ++ (take 8 (drop 8 s) ++ (take 8 (drop 16 s) ++ (take 8 (drop 24 s) ++ (take 1 (drop 32 s) ++ (take 7 (drop 33 s) ++ (take 16 (drop 40 s) ++ take 8 (drop 56 s))))))))))
head_parts s =
    part s 0 4 60
    ∙ rw (part s 4 1 59, part s 5 1 58, part s 6 2 56, part s 8 8 48, part s 16 8 40, part s 24 8 32, part s 32 1 31, part s 33 7 24, part s 40 16 8)

head_of : (s name version kind flags id len timestamp algo middle hash last : List ℕ) → take 4 s ≡ name → take 1 (drop 4 s) ≡ version → take 1 (drop 5 s) ≡ kind
    → take 2 (drop 6 s) ≡ flags → take 8 (drop 8 s) ≡ id → take 8 (drop 16 s) ≡ len → take 8 (drop 24 s) ≡ timestamp → take 1 (drop 32 s) ≡ algo
    → take 7 (drop 33 s) ≡ middle → take 16 (drop 40 s) ≡ hash → take 8 (drop 56 s) ≡ last
    → take 64 s ≡ name ++ (version ++ (kind ++ (flags ++ (id ++ (len ++ (timestamp ++ (algo ++ (middle ++ (hash ++ last)))))))))
head_of s name version kind flags id len timestamp algo middle hash last e₁ e₂ e₃ e₄ e₅ e₆ e₇ e₈ e₉ e₁₀ e₁₁ =
    head_parts s ∙ rw (e₁, e₂, e₃, e₄, e₅, e₆, e₇, e₈, e₉, e₁₀, e₁₁)

grouped : (front flags id len timestamp middle hash last : List ℕ)
    → front ++ (flags ++ (id ++ (len ++ (timestamp ++ (middle ++ (hash ++ last)))))) ≡ front ++ flags ++ id ++ len ++ timestamp ++ middle ++ hash ++ last
grouped front flags id len timestamp middle hash last = simp append_assoc

-- ---- a link that was read

module _ (st : State) (s : List ℕ) (l : Link) (t : Bytes s) (e : link_at st s ≡ some l) where
  y : LinkRead st s l
  y = lies st s l e

  long : 64 ≤ length s
  long = omega (arith, y.fits, size_least l)

  -- a test of the header holds
  test : (i : ℕ) → get_or (head_tests st.least (take 64 s)) i true ≡ true
  unfolding head_sound
  test i = all_at (head_tests st.least (take 64 s)) i y.head_is_sound

  pub kind_held : type_held l.kind ≡ true
  unfolding link_front
  kind_held = rw y.link_is (rw (get_or-take 64 s 0x05 0 (lit< tt)) at (test 2))

  pub flags_are_held : flags_held l.flags ≡ true
  unfolding link_front
  flags_are_held = rw y.link_is (rw (number_front 2 0x06 s (omega arith)) at (test 3))

  pub id_fits : l.id < 2 ^ 64
  unfolding link_front
  id_fits = rw y.link_is (le_fits s 8 0x08 t (omega (arith, long)))

  pub timestamp_fits : l.timestamp < 2 ^ 64
  unfolding link_front
  timestamp_fits = rw y.link_is (le_fits s 8 0x18 t (omega (arith, long)))

  pub length_fits : length l.payload < 2 ^ 64
  length_fits = rw y.length_is (le_fits s 8 0x10 t (omega (arith, long)))

  -- the header's bytes
  header-bytes : take 64 s ≡ header_of (kind_in s) (flags_in s) (id_in s) (timestamp_in s) (length_in s) (hash_in s)
  unfolding header_of
  header-bytes =
      let h = long in
      let name : take 4 s ≡ magic = sym (take-take 4 64 s (omega arith)) ∙ same_equal (take 4 (take 64 s)) magic (test 0) in
      let version : get_or s 0x04 0 ≡ 1 = sym (get_or-take 64 s 0x04 0 (lit< tt)) ∙ eqb-true (get_or (take 64 s) 0x04 0) 1 (test 1) in
      let algo : get_or s 0x20 0 ≡ 0 = sym (get_or-take 64 s 0x20 0 (lit< tt)) ∙ eqb-true (get_or (take 64 s) 0x20 0) 0 (test 4) in
      let middle : take 7 (drop 0x21 s) ≡ replicate 7 0 = zeros s 0x21 7 (omega arith) (rw (part_front 0x21 7 64 s (omega arith)) at (test 5)) in
      let last : take 8 (drop 0x38 s) ≡ replicate 8 0 = zeros s 0x38 8 (omega arith) (rw (part_front 0x38 8 64 s (omega arith)) at (test 6)) in
      head_of s magic (1 ∷ []) (kind_in s ∷ []) (le_bytes 2 (flags_in s)) (le_bytes 8 (id_in s)) (le_bytes 8 (length_in s)) (le_bytes 8 (timestamp_in s)) (0 ∷ []) (replicate 7 0)
      (hash_in s) (replicate 8 0)
      name
      (one s 4 (omega arith) ∙ ap (λ (b : ℕ). b ∷ []) version)
      (one s 5 (omega arith))
      (sym (le_back s 2 6 t (omega arith)))
      (sym (le_back s 8 8 t (omega arith)))
      (sym (le_back s 8 16 t (omega arith)))
      (sym (le_back s 8 24 t (omega arith)))
      (one s 32 (omega arith) ∙ ap (λ (b : ℕ). b ∷ []) algo)
      middle
      refl
      last
      ∙ grouped (magic ++ (1 ∷ kind_in s ∷ [])) (le_bytes 2 (flags_in s)) (le_bytes 8 (id_in s)) (le_bytes 8 (length_in s)) (le_bytes 8 (timestamp_in s)) (replicate 8 0)
      (hash_in s) (replicate 8 0)

  -- the padding behind the payload
  padding-bytes : drop (64 + length l.payload) (take (size l) s) ≡ padding (length l.payload)
  unfolding sound size padding
  padding-bytes =
      let n = y.length_is in
      let g : length_in (take 64 (take (size l) s)) ≡ length l.payload =
      ap length_in (take-take 64 (size l) s (size_least l)) ∙ number_front 8 0x10 s (omega arith) ∙ sym y.length_is in
      let z : all_zero (drop (64 + length_in (take 64 (take (size l) s))) (take (size l) s)) ≡ true =
      (and_split (head_sound st.least (take 64 (take (size l) s))) (all_zero (drop (64 + length_in (take 64 (take (size l) s))) (take (size l) s)))
      (read_sound st (take (size l) s) l y.reads)).1 in
      let k : length (drop (64 + length l.payload) (take (size l) s)) ≡ round64 (length l.payload) - length l.payload =
      length-drop (64 + length l.payload) (take (size l) s) ∙ omega (arith, length-take-le (size l) s y.fits) in
      all_zeros (drop (64 + length l.payload) (take (size l) s)) (rw g at z) ∙ ap (λ (m : ℕ). replicate m 0) k

  -- the fields and the payload say all its bytes
  pub link_bytes : header_of l.kind l.flags l.id l.timestamp (length l.payload) l.hash ++ l.payload ++ padding (length l.payload) ≡ take (size l) s
  unfolding link_front
  link_bytes =
      let n : ℕ = length l.payload in
      let x : List ℕ = take (size l) s in
      let head : header_of l.kind l.flags l.id l.timestamp n l.hash ≡ take 64 x =
      ap (λ (k : ℕ). header_of l.kind l.flags l.id l.timestamp k l.hash) y.length_is
      ∙ ap (λ (m : Link). header_of m.kind m.flags m.id m.timestamp (length_in s) m.hash) y.link_is
      ∙ sym header-bytes
      ∙ sym (take-take 64 (size l) s (size_least l)) in
      let body : l.payload ≡ take n (drop 64 x) =
      ap (λ (m : Link). m.payload) y.link_is ∙ ap (λ (k : ℕ). take k (drop 64 s)) (sym y.length_is) ∙ sym (part_front 64 n (size l) s y.room) in
      let rest : padding n ≡ drop n (drop 64 x) = sym (drop-drop n 64 x ∙ padding-bytes) in
      append_assoc (header_of l.kind l.flags l.id l.timestamp n l.hash) l.payload (padding n)
      ∙ rw (head, rest) (ap (λ (p : List ℕ). take 64 x ++ (p ++ drop n (drop 64 x))) body ∙ ap (λ (p : List ℕ). take 64 x ++ p) (take-append-drop n (drop 64 x)))
      ∙ take-append-drop 64 x

  -- where the link is whole, they are the segment that would be written
  pub segment_bytes : whole l ≡ true → segment l.kind l.flags l.id l.timestamp l.payload ≡ take (size l) s
  unfolding segment header whole
  segment_bytes w =
      ap (λ (hash : List ℕ). header_of l.kind l.flags l.id l.timestamp (length l.payload) hash ++ l.payload ++ padding (length l.payload))
      (sym (same_equal l.hash (content_hash l.payload) w))
      ∙ link_bytes
