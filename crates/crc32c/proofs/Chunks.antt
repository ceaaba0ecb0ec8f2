-- A loop over the chunks of a list that are whole: where it stands, by what it has left, and what is left in the end.
-- Assumes nothing.
use Rattle.std.specs.Prelude.{ℕ, ◌+◌, ◌-◌, ◌%◌, ◌≤◌, ◌<◌, ◌≡◌, refl, List, ◌++◌, length, take, drop, get_or}
use Rattle.std.proofs.Common.{sym, ap, ◌∙◌, arith, drop_at, drop-drop, length-append, get_or-drop, length-take, length-drop, zero-add, add_assoc}
use Rattle.std.proofs.lemmas.List.{get_or-take, get_or_append_left}
use Rattle.crc32c.specs.Words.{eight}
use Rattle.std.proofs.Math.Nat.{add-mod_left, mod-eq_of_lt}

-- what is left of a list of which chunks of n elements were taken
pub record Left (s rest : List ℕ) (n : ℕ) : Type 0 where
  pub short : length rest ≤ length s
  pub same : length rest % n ≡ length s % n
  pub behind : rest ≡ drop (length s - length rest) s

pub left_first : (s rest : List ℕ) (n : ℕ) → rest ≡ s → Left s rest n
left_first s rest n e =
    let z : length s - length s ≡ 0 = omega arith in
    rw e record { short = omega arith; same = refl; behind = ap (λ (k : ℕ). drop k s) (sym z) }

pub left_next : (s rest part more : List ℕ) (n : ℕ) → Left s rest n → rest ≡ part ++ more → length part ≡ n → Left s more n
left_next s rest part more n st e l =
    let long : length rest ≡ length part + length more = rw e (length-append part more) in
    let short = st.short in
    let place : length s - length rest + length part ≡ length s - length more = omega arith in
    record {
      short = omega arith;
      same = sym (ap (λ (k : ℕ). k % n) (rw l at long) ∙ add-mod_left n (length more)) ∙ st.same;
      behind =
          sym (drop_at part more (length part) refl)
          ∙ ap (drop (length part)) (sym e ∙ st.behind)
          ∙ drop-drop (length part) (length s - length rest) s
          ∙ ap (λ (k : ℕ). drop k s) place;
    }

pub left_last : (s rest : List ℕ) (n : ℕ) → Left s rest n → length rest < n → rest ≡ drop (length s - length s % n) s
left_last s rest n st h = st.behind ∙ ap (λ (k : ℕ). drop (length s - k) s) (sym (mod-eq_of_lt h) ∙ st.same)

-- ---- a part that stands at a place of a list

abbrev pub At : List ℕ → ℕ → List ℕ → Type 0
At s i part = (j : ℕ) → j < length part → get_or part j 0 ≡ get_or s (i + j) 0

pub at_front : (s : List ℕ) (k : ℕ) → At s 0 (take k s)
at_front s k j h = get_or-take k s j 0 (omega (arith, length-take k s)) ∙ ap (λ (n : ℕ). get_or s n 0) (sym (zero-add j))

pub at_behind : (s : List ℕ) (i : ℕ) → At s i (drop i s)
at_behind s i j h = get_or-drop i s j 0

pub at_drop : (s : List ℕ) (i : ℕ) (part : List ℕ) (k : ℕ) → At s i part → At s (i + k) (drop k part)
at_drop s i part k f j h =
    get_or-drop k part j 0 ∙ f (k + j) (omega (arith, length-drop k part)) ∙ ap (λ (n : ℕ). get_or s n 0) (sym (add_assoc i k j))

-- a chunk of a front of a list
pub at_chunk : (s front rest part more : List ℕ) (n : ℕ) → At s 0 front → Left front rest n → rest ≡ part ++ more → At s (length front - length rest) part
at_chunk s front rest part more n f st e j h =
    let i : ℕ = length front - length rest in
    let short = st.short in
    let long : length rest ≡ length part + length more = rw e (length-append part more) in
    sym (get_or_append_left part more 0 j h)
    ∙ ap (λ (l : List ℕ). get_or l j 0) (sym e ∙ st.behind)
    ∙ get_or-drop i front j 0
    ∙ f (i + j) (omega arith)
    ∙ ap (λ (n : ℕ). get_or s n 0) (zero-add (i + j))

-- the number of eight bytes of it
pub eight_at : (s : List ℕ) (i : ℕ) (part : List ℕ) (j : ℕ) → At s i part → j + 8 ≤ length part → eight part j ≡ eight s (i + j)
eight_at s i part j f h =
    let g : (k : ℕ) → k < 8 → get_or part (j + k) 0 ≡ get_or s (i + j + k) 0 =
    λ (k : ℕ). λ (hk : k < 8). f (j + k) (omega arith) ∙ ap (λ (n : ℕ). get_or s n 0) (sym (add_assoc i j k)) in
    let g0 : get_or part j 0 ≡ get_or s (i + j) 0 = f j (omega arith) in
    let g1 = g 1 (omega arith) in
    let g2 = g 2 (omega arith) in
    let g3 = g 3 (omega arith) in
    let g4 = g 4 (omega arith) in
    let g5 = g 5 (omega arith) in
    let g6 = g 6 (omega arith) in
    let g7 = g 7 (omega arith) in
    omega arith
