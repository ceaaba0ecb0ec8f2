-- The laws that a chain asks of segments, and what is known of a link that was read.
-- Assumes nothing.
use Rattle.std.specs.Prelude.{◌≡◌, true, List, [], ◌∷◌, ℕ, ◌+◌, ◌%◌, ◌^◌, ◌≤◌, ◌<◌, length, take, drop}
use Rattle.std.proofs.Common.{sym, ap, ◌∙◌, arith, lit<, length-drop, take-take, length-take-le, get_or-take, leb-true, eqb-true}
use Rattle.std.proofs.Math.Option.{some, some-injective}
use Rattle.std.specs.Int.Bits.{bit_and}
use Rattle.std.proofs.lemmas.Nat.{and_le_r}
use Rattle.octets.specs.Round.{round64}
use Rattle.octets.proofs.RoundLaws.{round64_ge, round64_mod}
use Rattle.octets.proofs.Parts.{part_front}
use Rattle.octets.specs.le.Le.{le_of, le_at}
use Rattle.segment.specs.chain.Chain.{walk}
use Rattle.segment.specs.chain.Laws.{afters, sizes}
use Rattle.segment.proofs.chain.Laws.{Format}
use Rattle.segment.proofs.chain.Framed.{framed_format, framed_is, cond_some}
use Rattle.segment.proofs.chain.Walk.{walk_each}
use Rattle.segment.proofs.chain.Search.{Aligned}
use Rattle.segment.proofs.Tests.{all_at}
use Rattle.octets.proofs.ZeroLaws.{and_split}
use Rattle.segment.specs.Header.{Link, State, reader, read, link_at, link_in, size_at, size, after, sound, head_sound, head_tests, flags_held, length_in, id_in}
use Rattle.segment.specs.Laws.{link_front}

at_least : (h : List ℕ) → 64 ≤ size_at h
unfolding size_at
at_least h = omega arith

read_is : (st : State) (x : List ℕ) (l : Link) → read st x ≡ some l → link_in st.at x ≡ l
unfolding read
read_is st x l e = some-injective _ _ (cond_some (sound st.least x) _ l e).1

pub read_sound : (st : State) (x : List ℕ) (l : Link) → read st x ≡ some l → sound st.least x ≡ true
unfolding read
read_sound st x l e = (cond_some (sound st.least x) _ l e).0

size_is : (st : State) (x : List ℕ) (l : Link) → length x ≡ size_at (take 64 x) → read st x ≡ some l → size l ≡ size_at (take 64 x)
unfolding size_at size link_in
size_is st x l n e =
    let r : length_in (take 64 x) ≤ round64 (length_in (take 64 x)) = round64_ge (length_in (take 64 x)) in
    ap size (sym (read_is st x l e))
    ∙ ap (λ (n : ℕ). 64 + round64 n) (length-take-le (length_in (take 64 x)) (drop 64 x) (simp length-drop (omega arith)))

-- segments are links of a chain
pub segment_format : Format reader
segment_format = framed_format 64 size_at read size after (lit< tt) at_least size_is

-- every link takes a multiple of 64 bytes, and at least 64
pub size_least : (l : Link) → 64 ≤ size l
unfolding size
size_least l = omega arith

pub size_aligned : (l : Link) → size l % 64 ≡ 0
unfolding size
size_aligned l = let r = round64_mod (length l.payload) in omega arith

pub chain_aligned : (st : State) (f : List ℕ) → Aligned reader (walk reader st f)
chain_aligned st f = walk_each reader segment_format (λ l. (0 < size l) × (size l % 64 ≡ 0)) (λ st s l e. (let q = size_least l in omega arith, size_aligned l)) st f

-- the next link's place is where those before it end
pub afters_at : (st : State) (ls : List Link) → (afters reader st ls).at ≡ st.at + sizes reader ls
unfolding afters sizes
afters_at st [] = omega arith
afters_at st (l ∷ ls) = afters_at (after st l) ls ∙ omega arith

-- ---- a link that was read, by the bytes that it was read from

pub record LinkRead (st : State) (s : List ℕ) (l : Link) : Type 0 where
  pub fits : size l ≤ length s
  pub room : 64 + length l.payload ≤ size l
  pub length_is : length l.payload ≡ length_in s
  pub link_is : l ≡ link_front st.at s
  pub id_above : st.least ≤ l.id
  pub reads : read st (take (size l) s) ≡ some l
  pub head_is_sound : head_sound st.least (take 64 s) ≡ true

-- a header's numbers are those of the bytes that it begins
pub number_front : (k i : ℕ) (s : List ℕ) → i + k ≤ 64 → le_at k (take 64 s) i ≡ le_at k s i
number_front k i s h = ap le_of (part_front i k 64 s h)

-- the id is above the one before
id_held : (least : ℕ) (h : List ℕ) → head_sound least h ≡ true → least ≤ id_in h
unfolding head_sound
id_held least h e = leb-true least (id_in h) (all_at (head_tests least h) 7 e)

-- a front that has the whole payload has the same link
pub link_in_front : (at : ℕ) (s : List ℕ) (n : ℕ) → 64 + length_in s ≤ n → link_in at (take n s) ≡ link_front at s
unfolding link_in link_front
link_in_front at s n h =
    rw (
      take-take 64 n s (omega arith),
      number_front 8 0x08 s (omega arith),
      get_or-take 64 s 0x05 0 (lit< tt),
      number_front 2 0x06 s (omega arith),
      number_front 8 0x18 s (omega arith),
      part_front 0x28 16 64 s (omega arith),
      number_front 8 0x10 s (omega arith),
      part_front 64 (length_in s) n s h,
    )

pub lies : (st : State) (s : List ℕ) (l : Link) → link_at st s ≡ some l → LinkRead st s l
unfolding size_at size sound link_front
lies st s l e =
    let p = framed_is 64 size_at read size after (lit< tt) at_least size_is e in
    let g : length_in (take 64 s) ≡ length_in s = number_front 8 0x10 s (omega arith) in
    let z : size l ≡ 64 + round64 (length_in s) = p.size_at_is ∙ ap (λ (n : ℕ). 64 + round64 n) g in
    let f : size l ≤ length s = p.fits in
    let r : length_in s ≤ round64 (length_in s) = round64_ge (length_in s) in
    let is : l ≡ link_front st.at s = sym (read_is st (take (size l) s) l p.reads) ∙ link_in_front st.at s (size l) (omega arith) in
    let n : length l.payload ≡ length_in s =
    ap (λ (l : Link). length l.payload) is ∙ length-take-le (length_in s) (drop 64 s) (simp length-drop (omega arith)) in
    let a : head_sound st.least (take 64 (take (size l) s)) ≡ true = (and_split _ _ (read_sound st (take (size l) s) l p.reads)).0 in
    let b : head_sound st.least (take 64 s) ≡ true = rw (take-take 64 (size l) s (omega arith)) at a in
    record {
      fits = f;
      room = omega arith;
      length_is = n;
      link_is = is;
      id_above = rw is (rw (number_front 8 0x08 s (omega arith)) at (id_held st.least (take 64 s) b));
      reads = p.reads;
      head_is_sound = b;
    }

-- ---- flags fit their two bytes

pub flags_fit : (g : ℕ) → flags_held g ≡ true → g < 2 ^ 16
unfolding flags_held
flags_fit g e =
    let p : bit_and g 0x03C8 ≡ g = eqb-true (bit_and g 0x03C8) g e in
    let q = and_le_r g 0x03C8 in
    omega arith
