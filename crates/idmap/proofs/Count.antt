-- A whole map has just as many ids as were asked for, and lies in the bytes it was read from.
-- Assumes nothing.
use Rattle.std.specs.Prelude.{ℕ, zero, suc, ◌+◌, ◌*◌, ◌≤◌, ◌≡◌, refl, Bool, true, false, cond, ◌&&◌, List, [], ◌∷◌, ◌++◌, eqb, leb, ltb, length, get_or, take, drop, Result, Ok, Err}
use Rattle.std.proofs.Common.{sym, ◌∙◌, arith, length-append, length-drop, leb-true}
use Rattle.octets.specs.le.Le.{le_of, le_at}
use Rattle.answers.specs.limits.Limits.{max_vectors}
use Rattle.varint.specs.declared.Varint.{Varint}
use Rattle.varint.specs.Varint.{read_varint}
use Rattle.varint.proofs.Trip.{read_fits}
use Rattle.idmap.specs.Encode.{left_after}
use Rattle.idmap.specs.Decode.{MapRead, Whole, Broken, read_raw, raw_map, id_of, id_held, offs_behind, read_deltas, groups, delta_map, map_body, map_of}

-- what passed a test
pub passed : (t : Bool) (m : MapRead) (e : ℕ) (ids : List ℕ) → cond t m Broken ≡ Whole e ids → (t ≡ true) × (m ≡ Whole e ids)
passed true m e ids p = (refl, p)
passed false m e ids p = absurd (let z : ◌≡◌ {A = ℕ} 0 1 = cc in omega arith)

one_more : (acc : List ℕ) (x n : ℕ) → length (acc ++ (x ∷ [])) + n ≡ length acc + suc n
one_more acc x n = simp length-append (omega arith)

raw_count : (end n low : ℕ) (acc s : List ℕ) (e : ℕ) (ids : List ℕ) → read_raw end n low acc s ≡ Whole e ids → (length ids ≡ length acc + n) × (e ≡ end)
unfolding read_raw
raw_count end zero low acc s e ids p =
    let q : acc ≡ ids = cc in
    let f : end ≡ e = cc in
    (rw q (omega arith), sym f)
raw_count end (suc n) low acc s e ids p =
    let x : ℕ = le_of (take 8 s) in
    let ih = raw_count end n (suc x) (acc ++ (x ∷ [])) (drop 8 s) e ids (passed (leb low x) _ e ids p).1 in
    (ih.0 ∙ one_more acc x n, ih.1)

deltas_count : (start r n left low at : ℕ) (offs acc s : List ℕ) (e : ℕ) (ids : List ℕ) → read_deltas start r n left low at offs acc s ≡ Whole e ids
    → (length ids ≡ length acc + n) × (e ≤ start + at + length s)
unfolding read_deltas
deltas_count start r zero left low at offs acc s e ids p =
    let q : acc ≡ ids = cc in
    let f : start + at ≡ e = cc in
    (rw q (omega arith), omega arith)
deltas_count start r (suc n) left low at offs acc s e ids p = go (read_varint s) refl (λ l w a o c t. deltas_count start r n l w a o c t e ids) p
  where
    go : (v : Result Varint ℕ) → read_varint s ≡ v
        → ((l w a : ℕ) (o c t : List ℕ) → read_deltas start r n l w a o c t ≡ Whole e ids → (length ids ≡ length c + n) × (e ≤ start + a + length t))
        → elim v [
          | Err x ↦ Broken
          | Ok x ↦ cond (id_held left low at offs x.value)
              (read_deltas start r n (left_after r left) (suc (id_of left low x.value)) (at + x.length) (offs_behind left offs) (acc ++ (id_of left low x.value ∷ [])) (drop x.length s)) Broken
        ]
        ≡ Whole e ids
        → (length ids ≡ length acc + suc n) × (e ≤ start + at + length s)
    go (Err x) h ih q = absurd (let z : ◌≡◌ {A = ℕ} 0 1 = cc in omega arith)
    go (Ok x) h ih q =
        let w = ih _ _ _ _ _ _ (passed (id_held left low at offs x.value) _ e ids q).1 in
        (w.0 ∙ one_more acc (id_of left low x.value) n, omega (arith, w.1, length-drop x.length s, (read_fits s x.value x.length h).0))

body_count : (encoding r count : ℕ) (s : List ℕ) (e : ℕ) (ids : List ℕ) → map_body encoding r count s ≡ Whole e ids → (length ids ≡ count) × (e ≤ length s)
unfolding map_body raw_map delta_map
body_count encoding r count s e ids p = go (eqb encoding 0) (eqb encoding 1) p
  where
    go : (t u : Bool)
        → cond t (cond (eqb r 0) (raw_map count s) Broken) (cond u (cond (ltb 0 r) (delta_map r count s) Broken) Broken) ≡ Whole e ids
        → (length ids ≡ count) × (e ≤ length s)
    go true u q =
        let a = passed (leb (7 + 8 * count) (length s)) _ e ids (passed (eqb r 0) (raw_map count s) e ids q).1 in
        let w = raw_count (7 + 8 * count) count 0 [] (drop 7 s) e ids a.1 in
        (w.0 ∙ omega arith, omega (arith, w.1, leb-true (7 + 8 * count) (length s) a.0))
    go false true q =
        let start : ℕ = 7 + 4 * groups count r in
        let a = passed (leb start (length s)) _ e ids (passed (ltb 0 r) (delta_map r count s) e ids q).1 in
        let w = deltas_count start r count 0 0 0 (drop 7 s) [] (drop start s) e ids a.1 in
        (w.0 ∙ omega arith, omega (arith, w.1, length-drop start s, leb-true start (length s) a.0))
    go false false q = absurd (let z : ◌≡◌ {A = ℕ} 0 1 = cc in omega arith)

-- as many ids as were asked for, in bytes that are there
pub whole_count : (count : ℕ) (s : List ℕ) (e : ℕ) (ids : List ℕ) → map_of count s ≡ Whole e ids → (length ids ≡ count) × (e ≤ length s)
unfolding map_of
whole_count count s e ids p =
    let a = (passed (leb 1 count && leb count max_vectors) _ e ids p).1 in
    body_count (get_or s 0 0) (le_at 2 s 1) count s e ids (passed (leb 7 (length s) && eqb (le_at 4 s 3) count) _ e ids a).1
