-- Laws of bytes laid over a list: one behind the other, their length, what stays.
-- Assumes nothing.
use Rattle.octets.specs.Over.{over}
use Rattle.std.specs.Prelude.{ℕ, ◌+◌, ◌≤◌, suc, ◌<◌, zero, ◌-◌, ◌≡◌, refl, List, [], ◌∷◌, ◌++◌, length, take, drop, get_or, set}
use Rattle.std.proofs.Common.{sym, ap, ◌∙◌, append_assoc, add-zero, zero-add, add_assoc, take-append-drop, length-append, length-take, length-drop, arith, drop-cons, take_at, drop-drop, length-take-le, drop_at, take-take}
use Rattle.std.proofs.lemmas.List.{set_at, drop-append-le, take-append-le}
use Rattle.std.proofs.Math.Seq.{drop-append-add, take-nil, take-append-add}

-- nothing written
pub over_none : (s : List ℕ) (at : ℕ) → over s at [] ≡ s
unfolding over
over_none s at = ap (λ (n : ℕ). take at s ++ drop n s) (add-zero at) ∙ take-append-drop at s

pub length_over : (s : List ℕ) (at : ℕ) (xs : List ℕ) → at + length xs ≤ length s → length (over s at xs) ≡ length s
unfolding over
length_over s at xs h = simp (length-append, length-take, length-drop) (omega arith)

-- a store right behind what was written writes one element more
pub over_more : (s : List ℕ) (at : ℕ) (xs : List ℕ) (b : ℕ) → at + length xs < length s
    → set (over s at xs) (at + length xs) b ≡ over s at (xs ++ (b ∷ []))
unfolding over
over_more s at xs b h =
    let hp : length (take at s ++ xs) ≡ at + length xs = simp (length-append, length-take) (omega arith) in
    let he : at + length (xs ++ (b ∷ [])) ≡ suc (at + length xs) = simp length-append (omega arith) in
    ap (λ (l : List ℕ). set (take at s ++ (xs ++ l)) (at + length xs) b) (drop-cons s (at + length xs) 0 h)
    ∙ ap (λ (l : List ℕ). set l (at + length xs) b) (sym (append_assoc (take at s) xs (get_or s (at + length xs) 0 ∷ drop (suc (at + length xs)) s)))
    ∙ set_at (take at s ++ xs) (get_or s (at + length xs) 0) (drop (suc (at + length xs)) s) b (at + length xs) hp
    ∙ simp (append_assoc, he)

-- a turn of a loop that writes one element a turn; and such a turn at the front
pub over_turn : (s₀ s : List ℕ) (at : ℕ) (xs : List ℕ) (i b : ℕ) → s ≡ over s₀ at xs → length xs ≡ i → at + i < length s₀
    → set s (at + i) b ≡ over s₀ at (xs ++ (b ∷ []))
over_turn s₀ s at xs i b p e h =
    let h2 : at + length xs < length s₀ = omega arith in
    rw (p, ← e) (over_more s₀ at xs b h2)

pub over_front : (s₀ s xs : List ℕ) (i b : ℕ) → s ≡ over s₀ 0 xs → length xs ≡ i → i < length s₀ → set s i b ≡ over s₀ 0 (xs ++ (b ∷ []))
over_front s₀ s xs i b p e h = rw (zero-add i) at (over_turn s₀ s 0 xs i b p e (omega arith))

-- the buffer keeps its length
pub over_long : (s₀ s : List ℕ) (at : ℕ) (xs : List ℕ) (i : ℕ) → s ≡ over s₀ at xs → length xs ≡ i → at + i ≤ length s₀ → length s ≡ length s₀
over_long s₀ s at xs i p e h =
    let h2 : at + length xs ≤ length s₀ = omega arith in
    rw p (length_over s₀ at xs h2)

-- a second list right behind the first
pub over_next : (xs : List ℕ) (a : ℕ) (b c : List ℕ) → a + length b ≤ length xs → over (over xs a b) (a + length b) c ≡ over xs a (b ++ c)
unfolding over
over_next xs a b c h =
    let hp : length (take a xs ++ b) ≡ a + length b = simp (length-append, length-take) (omega arith) in
    let g : drop (a + length b + length c) ((take a xs ++ b) ++ drop (a + length b) xs) ≡ drop (a + length b + length c) xs =
    ap (λ (m : ℕ). drop (m + length c) ((take a xs ++ b) ++ drop (a + length b) xs)) (sym hp)
    ∙ drop-append-add (take a xs ++ b) (drop (a + length b) xs) (length c)
    ∙ drop-drop (length c) (a + length b) xs in
    ap (λ (l : List ℕ). take (a + length b) l ++ (c ++ drop (a + length b + length c) l)) (sym (append_assoc (take a xs) b (drop (a + length b) xs)))
    ∙ rw (take_at (take a xs ++ b) (drop (a + length b) xs) (a + length b) hp, g) (simp (append_assoc, length-append, add_assoc))

-- the same as a step of a writer: what it has written so far is xs, n long, and c comes right behind
pub over_then : (s₀ s : List ℕ) (at : ℕ) (xs c : List ℕ) (n : ℕ) → s ≡ over s₀ at xs → length xs ≡ n → at + n ≤ length s₀
    → over s (at + n) c ≡ over s₀ at (xs ++ c)
over_then s₀ s at xs c n p e h =
    let h2 : at + length xs ≤ length s₀ = omega arith in
    rw (p, ← e) (over_next s₀ at xs c h2)

-- what is read where it was written, before it and behind it
pub over_before : (s : List ℕ) (at : ℕ) (xs : List ℕ) → at ≤ length s → take at (over s at xs) ≡ take at s
unfolding over
over_before s at xs h = take_at (take at s) (xs ++ drop (at + length xs) s) at (length-take-le at s h)

pub over_behind : (s : List ℕ) (at : ℕ) (xs : List ℕ) → at ≤ length s → drop (at + length xs) (over s at xs) ≡ drop (at + length xs) s
unfolding over
over_behind s at xs h =
    let hp : length (take at s ++ xs) ≡ at + length xs = simp (length-append, length-take) (omega arith) in
    ap (λ (l : List ℕ). drop (at + length xs) l) (sym (append_assoc (take at s) xs (drop (at + length xs) s)))
    ∙ drop_at (take at s ++ xs) (drop (at + length xs) s) (at + length xs) hp

pub over_at : (s : List ℕ) (at : ℕ) (xs : List ℕ) → at ≤ length s → take (length xs) (drop at (over s at xs)) ≡ xs
unfolding over
over_at s at xs h =
    rw (drop_at (take at s) (xs ++ drop (at + length xs) s) at (length-take-le at s h)) (take_at xs (drop (at + length xs) s) (length xs) refl)

-- ---- two places that do not touch

-- a front less a part at its start
pub drop_take : (k c : ℕ) (b : List ℕ) → drop k (take c b) ≡ take (c - k) (drop k b)
drop_take zero c b = let e : c - 0 ≡ c = omega arith in rw e
drop_take (suc k) zero b =
    let e : 0 - suc k ≡ 0 = omega arith in
    rw e
drop_take (suc k) (suc c) [] = sym (take-nil (suc c - suc k))
drop_take (suc k) (suc c) (x ∷ b) =
    let e : suc c - suc k ≡ c - k = omega arith in
    rw e (drop_take k c b)

take_over : (b : List ℕ) (a : ℕ) (xs : List ℕ) (c : ℕ) → a + length xs ≤ c → a ≤ length b
    → take c (over b a xs) ≡ take a b ++ (xs ++ take (c - (a + length xs)) (drop (a + length xs) b))
unfolding over
take_over b a xs c h k =
    let hp : length (take a b ++ xs) ≡ a + length xs = simp (length-append, length-take) (omega arith) in
    let e : c ≡ length (take a b ++ xs) + (c - (a + length xs)) = omega arith in
    ap (take c) (sym (append_assoc (take a b) xs (drop (a + length xs) b)))
    ∙ ap (λ (n : ℕ). take n ((take a b ++ xs) ++ drop (a + length xs) b)) e
    ∙ take-append-add (take a b ++ xs) (drop (a + length xs) b) (c - (a + length xs))
    ∙ append_assoc (take a b) xs (take (c - (a + length xs)) (drop (a + length xs) b))

drop_over : (b : List ℕ) (a : ℕ) (xs : List ℕ) (n : ℕ) → a + length xs ≤ n → a ≤ length b → drop n (over b a xs) ≡ drop n b
drop_over b a xs n h k =
    let e : n ≡ a + length xs + (n - (a + length xs)) = omega arith in
    ap (λ (m : ℕ). drop m (over b a xs)) e
    ∙ sym (drop-drop (n - (a + length xs)) (a + length xs) (over b a xs))
    ∙ ap (drop (n - (a + length xs))) (over_behind b a xs k)
    ∙ drop-drop (n - (a + length xs)) (a + length xs) b
    ∙ ap (λ (m : ℕ). drop m b) (sym e)

-- what is written at two places may be written in either order
pub over_swap : (b : List ℕ) (a : ℕ) (xs : List ℕ) (c : ℕ) (ys : List ℕ) → a + length xs ≤ c → c ≤ length b → over (over b c ys) a xs ≡ over (over b a xs) c ys
unfolding over
over_swap b a xs c ys h k =
    let left : drop (a + length xs) (over b c ys) ≡ take (c - (a + length xs)) (drop (a + length xs) b) ++ (ys ++ drop (c + length ys) b) =
    drop-append-le (a + length xs) (take c b) (ys ++ drop (c + length ys) b) (simp length-take (omega arith))
    ∙ ap (λ (l : List ℕ). l ++ (ys ++ drop (c + length ys) b)) (drop_take (a + length xs) c b) in
    let front : take a (over b c ys) ≡ take a b =
    take-append-le a (take c b) (ys ++ drop (c + length ys) b) (simp length-take (omega arith)) ∙ take-take a c b (omega arith) in
    ap (λ (l : List ℕ). l ++ (xs ++ drop (a + length xs) (over b c ys))) front
    ∙ ap (λ (l : List ℕ). take a b ++ (xs ++ l)) left
    ∙ sym (ap (λ (l : List ℕ). l ++ (ys ++ drop (c + length ys) (over b a xs))) (take_over b a xs c h (omega arith))
    ∙ ap (λ (l : List ℕ). (take a b ++ (xs ++ take (c - (a + length xs)) (drop (a + length xs) b))) ++ (ys ++ l)) (drop_over b a xs (c + length ys) (omega arith) (omega arith))
    ∙ simp append_assoc)

-- what is written over as many bytes takes their place; and over the first of some
over_again : (s : List ℕ) (at : ℕ) (xs ys : List ℕ) → at ≤ length s → length ys ≡ length xs → over (over s at xs) at ys ≡ over s at ys
unfolding over
over_again s at xs ys h e =
    let front : take at (over s at xs) ≡ take at s = over_before s at xs h in
    let rest : drop (at + length ys) (over s at xs) ≡ drop (at + length ys) s = rw e (over_behind s at xs h) in
    ap (λ (l : List ℕ). l ++ (ys ++ drop (at + length ys) (over s at xs))) front ∙ ap (λ (l : List ℕ). take at s ++ (ys ++ l)) rest

pub over_first : (s : List ℕ) (at : ℕ) (xs ys zs : List ℕ) → at + length xs ≤ length s → length zs ≡ length xs
    → over (over s at (xs ++ ys)) at zs ≡ over s at (zs ++ ys)
over_first s at xs ys zs h e =
    let n : length (over s at xs) ≡ length s = length_over s at xs h in
    ap (λ (l : List ℕ). over l at zs) (sym (over_next s at xs ys h))
    ∙ over_swap (over s at xs) at zs (at + length xs) ys (omega arith) (omega arith)
    ∙ ap (λ (l : List ℕ). over l (at + length xs) ys) (over_again s at xs zs (omega arith) e)
    ∙ ap (λ (k : ℕ). over (over s at zs) (at + k) ys) (sym e)
    ∙ over_next s at zs ys (omega arith)
