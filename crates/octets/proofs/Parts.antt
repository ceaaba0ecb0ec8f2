-- Parts of a list: a part to the end, a part of a front, and a part of a buffer that was lent to a writer and has come back, said of the whole.
-- Assumes nothing.
use Rattle.std.specs.Prelude.{ℕ, zero, suc, ◌+◌, ◌-◌, ◌≤◌, ◌≡◌, refl, List, [], ◌∷◌, ◌++◌, length, take, drop, get_or, replicate}
use Rattle.std.proofs.Common.{sym, ap, ◌∙◌, append-nil, zero-add, arith, length-drop, drop_of_length-le, take_all, take-take, drop-drop, length-take-le, get_or-drop}
use Rattle.std.proofs.lemmas.List.{length-replicate}
use borrow.Rule.Slice.PartMut.{put_mid}
use Rattle.octets.specs.Over.{over}
use Rattle.octets.proofs.OverLaws.{length_over, over_next, over_at}

-- a part to the end
pub tail_all : (s : List ℕ) (a : ℕ) → take (length s - a) (drop a s) ≡ drop a s
tail_all s a = take_all (length s - a) (drop a s) (omega (arith, length-drop a s))

-- lists that agree from a place on agree at it
pub same_at : (xs ys : List ℕ) (i : ℕ) → drop i xs ≡ drop i ys → get_or xs i 0 ≡ get_or ys i 0
same_at xs ys i e =
    let z : i + 0 ≡ i = omega arith in
    rw z at (sym (get_or-drop i xs 0 0) ∙ ap (λ (s : List ℕ). get_or s 0 0) e ∙ get_or-drop i ys 0 0)

-- a part of a front of a list is that part of the list
pub part_front : (i k n : ℕ) (x : List ℕ) → i + k ≤ n → take k (drop i (take n x)) ≡ take k (drop i x)
part_front zero k n x h = take-take k n x (omega arith)
part_front (suc i) k zero x h = absurd (omega arith)
part_front (suc i) k (suc n) [] h = refl
part_front (suc i) k (suc n) (b ∷ x) h = part_front i k n x (omega arith)

-- what was laid at the front of a list, by its length
pub laid_front : (s s₀ xs : List ℕ) (n : ℕ) → s ≡ over s₀ 0 xs → length xs ≡ n → take n s ≡ xs
laid_front s s₀ xs n e l = ap (λ (k : ℕ). take k s) (sym l) ∙ ap (take (length xs)) e ∙ over_at s₀ 0 xs (omega arith)

-- a list at the front of the part from a place on is that list at that place of the whole
pub over_part : (xs : List ℕ) (a : ℕ) (b : List ℕ) → a + length b ≤ length xs
    → take a xs ++ (over (take (length xs - a) (drop a xs)) 0 b ++ drop (length xs - a) (drop a xs)) ≡ over xs a b
unfolding over
over_part xs a b h =
    let e : drop (length xs - a) (drop a xs) ≡ [] = drop_of_length-le (drop a xs) {i = length xs - a} (omega (arith, length-drop a xs)) in
    rw (e, tail_all xs a, zero-add, append-nil, drop-drop)

-- a part to the end that came back with a list at its front; and the next such part, right behind it
pub back : (xs : List ℕ) (a : ℕ) (ys b : List ℕ) → ys ≡ over (take (length xs - a) (drop a xs)) 0 b → a + length b ≤ length xs
    → put_mid a (length xs - a) xs ys ≡ over xs a b
back xs a ys b p h = rw p (over_part xs a b h)

pub back_next : (xs xs' : List ℕ) (a : ℕ) (ys b c : List ℕ) → xs' ≡ over xs a b → ys ≡ over (take (length xs' - (a + length b)) (drop (a + length b) xs')) 0 c
    → a + length b + length c ≤ length xs → put_mid (a + length b) (length xs' - (a + length b)) xs' ys ≡ over xs a (b ++ c)
back_next xs xs' a ys b c p q h =
    let n : length xs' ≡ length xs = rw p (length_over xs a b (omega arith)) in
    back xs' (a + length b) ys c q (omega arith) ∙ rw p (over_next xs a b c (omega arith))

-- a part that came back as zeros
pub cleared : (buf ys : List ℕ) (from to : ℕ) → from ≤ to → to ≤ length buf → ys ≡ replicate (length (take (to - from) (drop from buf))) 0
    → put_mid from (to - from) buf ys ≡ over buf from (replicate (to - from) 0)
unfolding over
cleared buf ys from to h k p =
    let n : length (take (to - from) (drop from buf)) ≡ to - from = length-take-le (to - from) (drop from buf) (omega (arith, length-drop from buf)) in
    rw (p, n, length-replicate, drop-drop)

-- a part that came back with a list over all of it
pub back_whole : (xs : List ℕ) (a k n : ℕ) (ys b : List ℕ) → ys ≡ over (take n (drop a xs)) 0 b → length b ≡ k → n ≡ k → a + k ≤ length xs
    → put_mid a n xs ys ≡ over xs a b
unfolding over
back_whole xs a k n ys b p l e h =
    let whole : length (take n (drop a xs)) ≡ n = length-take-le n (drop a xs) (omega (arith, length-drop a xs)) in
    let none : drop (0 + length b) (take n (drop a xs)) ≡ [] = drop_of_length-le (take n (drop a xs)) {i = 0 + length b} (omega arith) in
    let n_is : n ≡ length b = omega arith in
    rw (p, none, append-nil, n_is, drop-drop)
