-- The laws of specs/vectors/Vectors.antt.
-- Assumes nothing.
use Rattle.std.specs.Prelude.{ℕ, zero, suc, ◌+◌, ◌≤◌, ◌<◌, Bool, List, [], ◌∷◌, ◌++◌, length, take, drop, get_or, set}
use Rattle.std.proofs.Math.Path.{◌≡◌, refl, ap}
use Rattle.std.proofs.Common.{sym, ◌∙◌, add-one, arith, drop_of_length-le, length-set, length-take, take-suc, take-suc-set, get_or-take}
use Rattle.std.proofs.Math.Bool.{true, false, cond}
use Rattle.std.proofs.lemmas.List.{map-append, length-map}
use Rattle.std.proofs.Math.Dec.{eqb}
use Rattle.std.proofs.Math.Seq.{drop-cons, take-length}
use borrow.Author.Tests.{eq-eqb, ne_eqb, eqb-true, eqb-false}
use Rattle.crc32c.specs.Crc.{crc_of}
use Rattle.vecseg.specs.Payload.{vec_kind, check_of, first_of}
use Rattle.vecseg.proofs.LineLaws.{first_none, first_bad}
use Rattle.vec_read.specs.walk.Walk.{summed_of}
use Rattle.std.specs.Prelude.{Result, Ok, Err}
use Rattle.batch.specs.Form.{Body}
use Rattle.batch.specs.Lines.{no_body}
use Rattle.appending.specs.Append.{vectors_bad}
use Rattle.append.specs.vectors.Vectors.{body_summed, body_sums}

-- the number that refuses a body, 0 where none does
unfoldable pub body_number : Body → ℕ
body_number b = cond (eqb b.kind vec_kind) (check_of b.payload) 0

-- ---- the ways out of the check of a body, by its type and its bytes as the code has them

module _ (b : Body) (kind : ℕ) (payload : List ℕ) (k : kind ≡ b.kind) (p : payload ≡ b.payload) where
  pub body_other : (kind ≡ vec_kind → ⊥) → (sum : ℕ) → sum ≡ crc_of payload → Ok sum ≡ body_summed b
  unfolding body_summed
  body_other n sum c = rw (ne_eqb b.kind vec_kind (λ e. n (k ∙ e))) (ap Ok (c ∙ ap crc_of p))

  pub body_checked : kind ≡ vec_kind → (r : Result ℕ ℕ) → r ≡ summed_of payload → r ≡ body_summed b
  unfolding body_summed
  body_checked e r c = rw (eq-eqb b.kind vec_kind (sym k ∙ e)) (c ∙ ap summed_of p)

-- ---- what the check of a body says of it

module _ (b : Body) where
  pub was_sound : (sum : ℕ) → body_summed b ≡ Ok sum → (body_number b ≡ 0) × (sum ≡ crc_of b.payload)
  unfolding body_summed body_number summed_of
  was_sound sum e = go (eqb b.kind vec_kind) (eqb (check_of b.payload) 0) refl e
    where
      go : (t u : Bool) → eqb (check_of b.payload) 0 ≡ u
          → cond t (cond u (Ok (crc_of b.payload)) (Err (check_of b.payload))) (Ok (crc_of b.payload)) ≡ Ok sum
          → (cond t (check_of b.payload) 0 ≡ 0) × (sum ≡ crc_of b.payload)
      go false u q z = (refl, cc)
      go true true q z = (eqb-true (check_of b.payload) 0 q, cc)
      go true false q z = absurd (let w : ◌≡◌ {A = ℕ} 0 1 = cc in omega arith)

  pub was_refused : (n : ℕ) → body_summed b ≡ Err n → (n ≡ body_number b) × (n ≡ 0 → ⊥)
  unfolding body_summed body_number summed_of
  was_refused n e = go (eqb b.kind vec_kind) (eqb (check_of b.payload) 0) refl e
    where
      go : (t u : Bool) → eqb (check_of b.payload) 0 ≡ u
          → cond t (cond u (Ok (crc_of b.payload)) (Err (check_of b.payload))) (Ok (crc_of b.payload)) ≡ Err n
          → (n ≡ cond t (check_of b.payload) 0) × (n ≡ 0 → ⊥)
      go false u q z = absurd (let w : ◌≡◌ {A = ℕ} 0 1 = cc in omega arith)
      go true true q z = absurd (let w : ◌≡◌ {A = ℕ} 0 1 = cc in omega arith)
      go true false q z =
          let p : n ≡ check_of b.payload = cc in
          (p, λ w. eqb-false (check_of b.payload) 0 q (sym p ∙ w))

-- ---- the checksums, body by body

sums_more : (bs : List Body) (i : ℕ) → i < length bs → body_sums (take (i + 1) bs) ≡ body_sums (take i bs) ++ (crc_of (get_or bs i no_body).payload ∷ [])
unfolding body_sums
sums_more bs i h =
    ap (λ (n : ℕ). body_sums (take n bs)) (add-one i)
    ∙ ap body_sums (take-suc bs i no_body h)
    ∙ map-append (λ (b : Body). crc_of b.payload) (take i bs) (get_or bs i no_body ∷ [])

sums_get : (bs : List Body) (i : ℕ) → i < length bs → get_or (body_sums bs) i 0 ≡ crc_of (get_or bs i no_body).payload
unfolding body_sums
sums_get [] i h = absurd (omega arith)
sums_get (b ∷ bs) zero h = refl
sums_get (b ∷ bs) (suc i) h = sums_get bs i (omega arith)

-- where they stand at the front of a list
pub sum_at : (bs : List Body) (n : ℕ) (sums : List ℕ) → length bs ≡ n → take n sums ≡ body_sums bs → (i : ℕ) → i < n
    → (i < length sums) × (get_or sums i 0 ≡ crc_of (get_or bs i no_body).payload)
unfolding body_sums
sum_at bs n sums e front i h =
    let k : length (take n sums) ≡ length bs = ap length front ∙ length-map bs (λ (b : Body). crc_of b.payload) in (
      omega (arith, k, length-take n sums),
      sym (get_or-take n sums i 0 h) ∙ ap (λ (x : List ℕ). get_or x i 0) front ∙ sums_get bs i (omega arith),
    )

-- ---- where the loop over the bodies stands: i are sound, and their checksums are stored

pub record SumsAt (bs : List Body) (sums₀ sums : List ℕ) (i : ℕ) : Type 0 where
  pub at_most : i ≤ length bs
  pub same : vectors_bad (drop i bs) ≡ vectors_bad bs
  pub many : length sums ≡ length sums₀
  pub stored : take i sums ≡ body_sums (take i bs)

pub sums_first : (bs : List Body) (sums : List ℕ) → SumsAt bs sums sums 0
unfolding body_sums
sums_first bs sums = record { at_most = omega arith; same = refl; many = refl; stored = refl }

module _ (bs : List Body) (sums₀ sums : List ℕ) (i : ℕ) (st : SumsAt bs sums₀ sums i) (h : i < length bs) where
  turn : vectors_bad (drop i bs) ≡ first_of (body_number (get_or bs i no_body)) (vectors_bad (drop (i + 1) bs))
  unfolding vectors_bad body_number
  turn = rw (add-one, drop-cons bs i no_body h)

  pub sums_next : length bs ≤ length sums₀ → (sum : ℕ) → body_summed (get_or bs i no_body) ≡ Ok sum → SumsAt bs sums₀ (set sums i sum) (i + 1)
  sums_next room sum e =
      let w = was_sound (get_or bs i no_body) sum e in
      let many = st.many in
      record {
        at_most = omega arith;
        same = sym (first_none _ _ w.0) ∙ sym turn ∙ st.same;
        many = length-set sums i sum ∙ many;
        stored =
            ap (λ (n : ℕ). take n (set sums i sum)) (add-one i)
            ∙ take-suc-set sums i sum (omega arith)
            ∙ ap (λ (x : List ℕ). x ++ (sum ∷ [])) st.stored
            ∙ ap (λ (x : ℕ). body_sums (take i bs) ++ (x ∷ [])) w.1
            ∙ sym (sums_more bs i h);
      }

  pub sums_stop : (r n : ℕ) → body_summed (get_or bs i no_body) ≡ Err r → (r ≡ vectors_bad bs) × (r ≡ 0 → take n sums ≡ body_sums bs)
  sums_stop r n e =
      let w = was_refused (get_or bs i no_body) r e in
      (w.0 ∙ sym (first_bad _ _ (λ z. w.1 (w.0 ∙ z))) ∙ sym turn ∙ st.same, λ z. absurd (w.1 z))

pub sums_last : (bs : List Body) (sums₀ sums : List ℕ) (i n : ℕ) → SumsAt bs sums₀ sums i → length bs ≡ n → n ≤ i
    → (0 ≡ vectors_bad bs) × (◌≡◌ {A = ℕ} 0 0 → take n sums ≡ body_sums bs)
unfolding vectors_bad
sums_last bs sums₀ sums i n st e h =
    let at_most = st.at_most in
    let none_left : vectors_bad (drop i bs) ≡ 0 = rw (drop_of_length-le bs {i = i} (omega arith)) in
    let i-is : i ≡ n = omega arith in
    let all : take i bs ≡ bs = ap (λ (k : ℕ). take k bs) (i-is ∙ sym e) ∙ take-length bs in
    (sym none_left ∙ st.same, λ _. ap (λ (k : ℕ). take k sums) (sym i-is) ∙ st.stored ∙ ap body_sums all)
