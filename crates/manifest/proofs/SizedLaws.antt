-- Laws of a directory for entries of any size and form.
-- Assumes nothing.
use Rattle.segment.specs.chain.Chain.{All}
use Rattle.manifest.specs.Sized.{entries_of, states_by, record_by}
use Prim.Native.Nat.{ℕ, zero, suc, ◌*◌, ◌<◌, ◌+◌, ◌≤◌}
use Rattle.std.specs.Prelude.{◌≡◌, take}
use Rattle.std.proofs.Math.Path.{sym, ap, refl}
use Rattle.std.proofs.Common.{◌∙◌, mul-zero}
use mathlib.Core.List.{List, [], ◌∷◌, ◌++◌, append-nil, append_assoc, map}
use native.Mathlib.Omega.{arith}
use Rattle.std.proofs.Math.Nat.{mul-suc}
use Rattle.std.proofs.Math.ListN.{length, drop, get_or, length-append, get_or-append}
use Rattle.std.proofs.Math.Seq.{get_or-drop, drop_at}
use Rattle.octets.proofs.RoundLaws.{round64_ge}

-- ---- entries

module _ {X : Type 0} (g : X → ℕ → List ℕ) where
  pub length_entries_of : (size : ℕ) (xs : List X) (ss : List ℕ) → All (λ x. (s : ℕ) → length (g x s) ≡ size) xs
      → length (entries_of g xs ss) ≡ size * length xs
  unfolding entries_of All
  length_entries_of size [] ss h = sym (mul-zero size)
  length_entries_of size (x ∷ xs) ss h =
      let a : length (g x (get_or ss 0 0)) ≡ size = h.0 (get_or ss 0 0) in
      let b : length (entries_of g xs (drop 1 ss)) ≡ size * length xs = length_entries_of size xs (drop 1 ss) h.1 in
      let c = length-append (g x (get_or ss 0 0)) (entries_of g xs (drop 1 ss)) in
      let d = mul-suc size (length xs) in
      omega arith

  -- one entry more
  pub entries_of_more : (xs : List X) (ss : List ℕ) (i : ℕ) (none : X) → i < length xs
      → entries_of g (take (suc i) xs) ss ≡ entries_of g (take i xs) ss ++ g (get_or xs i none) (get_or ss i 0)
  unfolding entries_of
  entries_of_more [] ss i none h = absurd (omega arith)
  entries_of_more (x ∷ xs) ss zero none h = append-nil (g x (get_or ss 0 0))
  entries_of_more (x ∷ xs) ss (suc i) none h =
      let e : get_or (drop 1 ss) i 0 ≡ get_or ss (suc i) 0 = get_or-drop 1 ss i 0 ∙ ap (λ (k : ℕ). get_or ss k 0) (omega arith) in
      ap (λ (l : List ℕ). g x (get_or ss 0 0) ++ l) (entries_of_more xs (drop 1 ss) i none (omega arith))
      ∙ sym (append_assoc (g x (get_or ss 0 0)) (entries_of g (take i xs) (drop 1 ss)) (g (get_or xs i none) (get_or (drop 1 ss) i 0)))
      ∙ ap (λ (s : ℕ). (g x (get_or ss 0 0) ++ entries_of g (take i xs) (drop 1 ss)) ++ g (get_or xs i none) s) e

-- two forms that give the same bytes
pub entries_of_same : {X Y : Type 0} (g : X → ℕ → List ℕ) (h : Y → ℕ → List ℕ) (r : Y → X) (ys : List Y) (ss : List ℕ)
    → All (λ y. (s : ℕ) → g (r y) s ≡ h y s) ys → entries_of g (map r ys) ss ≡ entries_of h ys ss
unfolding entries_of All
entries_of_same g h r [] ss t = refl
entries_of_same g h r (y ∷ ys) ss t =
    ap (λ (x : List ℕ). x ++ entries_of g (map r ys) (drop 1 ss)) (t.0 (get_or ss 0 0))
    ∙ ap (λ (x : List ℕ). h y (get_or ss 0 0) ++ x) (entries_of_same g h r ys (drop 1 ss) t.1)

-- ---- states

module _ (size : ℕ) where
  pub length_states_by : (n : ℕ) (e : List ℕ) → length (states_by size n e) ≡ n
  unfolding states_by
  length_states_by zero e = refl
  length_states_by (suc n) e = ap suc (length_states_by n (drop size e))

  -- byte 41 of the next entry
  next : (e : List ℕ) (i : ℕ) → get_or (drop size e) (size * i + 41) 0 ≡ get_or e (size * suc i + 41) 0
  next e i = get_or-drop size e (size * i + 41) 0 ∙ ap (λ (k : ℕ). get_or e k 0) (let d = mul-suc size i in omega arith)

  first : (e : List ℕ) → get_or e 41 0 ≡ get_or e (size * 0 + 41) 0
  first e = ap (λ (k : ℕ). get_or e (k + 41) 0) (sym (mul-zero size))

  pub states_by_more : (i : ℕ) (e : List ℕ) → states_by size (suc i) e ≡ states_by size i e ++ (get_or e (size * i + 41) 0 ∷ [])
  unfolding states_by
  states_by_more zero e = ap (λ (b : ℕ). b ∷ []) (first e)
  states_by_more (suc i) e =
      ap (λ (x : List ℕ). get_or e 41 0 ∷ x) (states_by_more i (drop size e))
      ∙ ap (λ (b : ℕ). get_or e 41 0 ∷ (states_by size i (drop size e) ++ (b ∷ []))) (next e i)

  pub states_by_at : (n : ℕ) (e : List ℕ) (i : ℕ) → i < n → get_or (states_by size n e) i 0 ≡ get_or e (size * i + 41) 0
  unfolding states_by
  states_by_at zero e i h = absurd (omega arith)
  states_by_at (suc n) e zero h = first e
  states_by_at (suc n) e (suc i) h = states_by_at n (drop size e) i (omega arith) ∙ next e i

  -- the states of entries that were written are read back
  pub states_by_entries : {X : Type 0} (g : X → ℕ → List ℕ) (xs : List X) (ss rest : List ℕ) → 41 < size
      → All (λ x. (s : ℕ) → (length (g x s) ≡ size) × (get_or (g x s) 41 0 ≡ s)) xs → length ss ≡ length xs
      → states_by size (length xs) (entries_of g xs ss ++ rest) ≡ ss
  unfolding states_by entries_of All
  states_by_entries g [] [] rest h t e = refl
  states_by_entries g [] (s ∷ ss) rest h t e = absurd (omega arith)
  states_by_entries g (x ∷ xs) [] rest h t e = absurd (omega arith)
  states_by_entries g (x ∷ xs) (s ∷ ss) rest h t e =
      let n : length (g x s) ≡ size = (t.0 s).0 in
      let k : 41 < length (g x s) = omega arith in
      let a : (g x s ++ entries_of g xs ss) ++ rest ≡ g x s ++ (entries_of g xs ss ++ rest) = append_assoc (g x s) (entries_of g xs ss) rest in
      let b : get_or (g x s ++ (entries_of g xs ss ++ rest)) 41 0 ≡ s = get_or-append (g x s) (entries_of g xs ss ++ rest) 0 41 k ∙ (t.0 s).1 in
      let d : drop size (g x s ++ (entries_of g xs ss ++ rest)) ≡ entries_of g xs ss ++ rest = drop_at (g x s) (entries_of g xs ss ++ rest) size n in
      rw (a, b, d) (ap (λ (r : List ℕ). s ∷ r) (states_by_entries g xs ss rest h t.1 (omega arith)))

  pub record_by_ge : (c : ℕ) → 8 + size * c ≤ record_by size c
  unfolding record_by
  record_by_ge c = round64_ge (8 + size * c)
