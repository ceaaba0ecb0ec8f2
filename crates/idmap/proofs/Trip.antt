-- What the id-map writer writes is read back as the ids, for every list that it accepts and whatever bytes follow.
-- Assumes nothing.
use Rattle.std.specs.Prelude.{ℕ, zero, suc, ◌+◌, ◌-◌, ◌*◌, ◌^◌, ◌≤◌, ◌<◌, ◌≡◌, refl, Bool, true, false, cond, ◌&&◌, List, [], ◌∷◌, ◌++◌, eqb, leb, length, get_or, take, drop}
use Rattle.std.proofs.Common.{sym, ap, ap₂, ◌∙◌, append_assoc, append-nil, arith, length-append, take_at, drop_at, drop-drop, le-leb, lt-ltb, eq-eqb, leb-true, eqb-true}
use Rattle.std.proofs.lemmas.Bool.{eqb-false}
use Rattle.octets.specs.le.Le.{le_of, le_bytes}
use Rattle.octets.proofs.le.Laws.{length_le_bytes, le_of_le_bytes}
use Rattle.varint.specs.Varint.{varint_of, read_as, read_varint}
use Rattle.varint.proofs.Trip.{read_varint_of, varint_short}
use Rattle.idmap.specs.Encode.{map_head, raw_ids, delta_of, left_after, deltas, restart_of, restarts, interval_of, map_bytes, rises_from, map_bad}
use Rattle.idmap.specs.Decode.{Whole, read_raw, raw_map, id_of, id_held, offs_behind, read_deltas, groups, delta_map, map_body, map_of}
use Rattle.idmap.proofs.DeltaLaws.{deltas_next}
use Rattle.idmap.proofs.EncodeLaws.{length_head, length_raw_ids, length_restarts}
use Rattle.octets.proofs.ZeroLaws.{and_split}
use Rattle.idmap.proofs.Accepted.{GoodInput, good, bytes_raw, bytes_delta, interval_pos}

-- every element fits 64 bits
abbrev pub Words : List ℕ → Type 0
Words ids = (i : ℕ) → get_or ids i 0 < 2 ^ 64

words_tail : (x : ℕ) (xs : List ℕ) → Words (x ∷ xs) → Words xs
words_tail x xs w i = w (suc i)

-- a list in front of what follows, taken and dropped
front : (p q r : List ℕ) (n : ℕ) → length p ≡ n → take n ((p ++ q) ++ r) ≡ p
front p q r n e = rw (append_assoc p q r) (take_at p (q ++ r) n e)

behind : (p q r : List ℕ) (n : ℕ) → length p ≡ n → drop n ((p ++ q) ++ r) ≡ q ++ r
behind p q r n e = rw (append_assoc p q r) (drop_at p (q ++ r) n e)

-- ---- raw

raw_trip : (end low : ℕ) (acc xs r : List ℕ) → rises_from low xs ≡ true → Words xs → read_raw end (length xs) low acc (raw_ids xs ++ r) ≡ Whole end (acc ++ xs)
unfolding read_raw raw_ids rises_from
raw_trip end low acc [] r up w = ap (Whole end) (sym (append-nil acc))
raw_trip end low acc (x ∷ xs) r up w =
    let u = and_split (leb low x) (rises_from (suc x) xs) up in
    let e : le_of (take 8 ((le_bytes 8 x ++ raw_ids xs) ++ r)) ≡ x = rw (front (le_bytes 8 x) (raw_ids xs) r 8 (length_le_bytes 8 x)) (le_of_le_bytes 8 x (w 0)) in
    let f : drop 8 ((le_bytes 8 x ++ raw_ids xs) ++ r) ≡ raw_ids xs ++ r = behind (le_bytes 8 x) (raw_ids xs) r 8 (length_le_bytes 8 x) in
    rw (e, f, u.0) (raw_trip end (suc x) (acc ++ (x ∷ [])) xs r u.1 (words_tail x xs w) ∙ ap (Whole end) (append_assoc acc (x ∷ []) xs))

-- ---- delta

pub deltas_short : (r left prev : ℕ) (xs : List ℕ) → length (deltas r left prev xs) ≤ 10 * length xs
unfolding deltas
deltas_short r left prev [] = omega arith
deltas_short r left prev (x ∷ xs) =
    omega (arith, length-append (varint_of (delta_of left prev x)) (deltas r (left_after r left) x xs), varint_short (delta_of left prev x), deltas_short r (left_after r left) x xs)

-- one id: the varint's value is accepted, and gives the id
one_held : (left low prev at x : ℕ) (offs : List ℕ) → (0 < left → low ≡ suc prev) → low ≤ x → x < 2 ^ 64 → (left ≡ 0 → le_of (take 4 offs) ≡ at)
    → (id_held left low at offs (delta_of left prev x) ≡ true) × (id_of left low (delta_of left prev x) ≡ x)
unfolding id_held id_of delta_of
one_held zero low prev at x offs k up w o = (ap₂ ◌&&◌ (eq-eqb (le_of (take 4 offs)) at (o refl)) (le-leb low x up), refl)
one_held (suc left) low prev at x offs k up w o =
    let e : low ≡ suc prev = k (omega arith) in
    (rw (lt-ltb 0 (x - prev) (omega arith), le-leb (low + (x - prev)) (2 ^ 64) (omega arith)), omega arith)

delta_lt : (left prev x : ℕ) → x < 2 ^ 64 → delta_of left prev x < 2 ^ 64
unfolding delta_of
delta_lt zero prev x w = w
delta_lt (suc left) prev x w = omega arith

restart_front : (left at : ℕ) (q r : List ℕ) → at < 2 ^ 32 → left ≡ 0 → le_of (take 4 ((restart_of left at ++ q) ++ r)) ≡ at
unfolding restart_of
restart_front left at q r h z = rw z (rw (front (le_bytes 4 at) q r 4 (length_le_bytes 4 at)) (le_of_le_bytes 4 at h))

restart_behind : (left at : ℕ) (q r : List ℕ) → offs_behind left ((restart_of left at ++ q) ++ r) ≡ q ++ r
unfolding restart_of offs_behind
restart_behind zero at q r = behind (le_bytes 4 at) q r 4 (length_le_bytes 4 at)
restart_behind (suc left) at q r = refl

delta_trip : (start r left low prev at : ℕ) (acc xs o s : List ℕ) → rises_from low xs ≡ true → Words xs → (0 < left → low ≡ suc prev) → at + 10 * length xs < 2 ^ 32
    → read_deltas start r (length xs) left low at (restarts r left prev at xs ++ o) acc (deltas r left prev xs ++ s)
    ≡ Whole (start + at + length (deltas r left prev xs)) (acc ++ xs)
unfolding read_deltas deltas restarts rises_from
delta_trip start r left low prev at acc [] o s up w k small =
    let e : start + at ≡ start + at + 0 = omega arith in
    rw (append-nil acc, ← e)
delta_trip start r left low prev at acc (x ∷ xs) o s up w k small =
    let u = and_split (leb low x) (rises_from (suc x) xs) up in
    let d : ℕ = delta_of left prev x in
    let n : ℕ = length (varint_of (delta_of left prev x)) in
    let tail : List ℕ = deltas r (left_after r left) x xs in
    let offs : List ℕ = restarts r (left_after r left) x (at + length (varint_of (delta_of left prev x))) xs in
    let v : read_varint ((varint_of d ++ tail) ++ s) ≡ read_as d n = rw (append_assoc (varint_of d) tail s) (read_varint_of d (tail ++ s) (delta_lt left prev x (w 0))) in
    let h = one_held left low prev at x ((restart_of left at ++ offs) ++ o) k (leb-true low x u.0) (w 0) (restart_front left at offs o (omega arith)) in
    let short = varint_short d in
    let e : start + (at + n) + length tail ≡ start + at + length (varint_of d ++ tail) = simp length-append (omega arith) in
    deltas_next start r (length xs) left low at ((restart_of left at ++ offs) ++ o) acc ((varint_of d ++ tail) ++ s) d n v h.0
    ∙ rw (h.1, restart_behind left at offs o, behind (varint_of d) tail s n refl)
    (delta_trip start r (left_after r left) (suc x) x (at + n) (acc ++ (x ∷ [])) xs o s u.1 (words_tail x xs w) (λ q. refl) (omega arith)
    ∙ rw (e, append_assoc acc (x ∷ []) xs))

-- ---- the whole map

-- a raw map, and what follows it
raw_back : (ids rest : List ℕ) → 1 ≤ length ids → length ids ≤ 4096 → rises_from 0 ids ≡ true → Words ids
    → map_of (length ids) ((map_head 0 0 (length ids) ++ raw_ids ids) ++ rest) ≡ Whole (7 + 8 * length ids) ids
unfolding map_of map_body raw_map map_head le_bytes le_of
raw_back ids rest one most up w =
    let n : ℕ = length ids in
    let c : le_of (le_bytes 4 n) ≡ n = le_of_le_bytes 4 n (omega arith) in
    let l : length ((map_head 0 0 n ++ raw_ids ids) ++ rest) ≡ 7 + 8 * n + length rest =
    length-append (map_head 0 0 n ++ raw_ids ids) rest ∙ ap (λ (m : ℕ). m + length rest) (length-append (map_head 0 0 n) (raw_ids ids) ∙ rw (length_head 0 0 n, length_raw_ids ids)) in
    rw (
      le-leb 1 n one,
      le-leb n 4096 most,
      le-leb 7 (length ((map_head 0 0 n ++ raw_ids ids) ++ rest)) (omega arith),
      eq-eqb (le_of (le_bytes 4 n)) n c,
      le-leb (7 + 8 * n)
          (length ((map_head 0 0 n ++ raw_ids ids) ++ rest)) (omega arith),
    )
    (raw_trip (7 + 8 * n) 0 [] ids rest up w)

-- a delta map, and what follows it
delta_back : (ids rest : List ℕ) (r : ℕ) → 1 ≤ length ids → length ids ≤ 4096 → rises_from 0 ids ≡ true → Words ids → 0 < r → r < 65536
    → map_of (length ids) ((map_head 1 r (length ids) ++ (restarts r 0 0 0 ids ++ deltas r 0 0 ids)) ++ rest)
    ≡ Whole (7 + 4 * groups (length ids) r + length (deltas r 0 0 ids)) ids
unfolding map_of map_body delta_map map_head le_bytes le_of
delta_back ids rest r one most up w pos small =
    let n : ℕ = length ids in
    let R : List ℕ = restarts r 0 0 0 ids in
    let D : List ℕ = deltas r 0 0 ids in
    let s : List ℕ = (map_head 1 r n ++ (R ++ D)) ++ rest in
    let c : le_of (le_bytes 4 n) ≡ n = le_of_le_bytes 4 n (omega arith) in
    let i : le_of (le_bytes 2 r) ≡ r = le_of_le_bytes 2 r (omega arith) in
    let lr = length_restarts r ids pos in
    let l : length s ≡ 7 + 4 * groups n r + length D + length rest =
    length-append (map_head 1 r n ++ (R ++ D)) rest
    ∙ ap (λ (m : ℕ). m + length rest) (length-append (map_head 1 r n) (R ++ D) ∙ rw (length_head 1 r n, length-append R D, lr) (omega arith)) in
    let offs : (R ++ D) ++ rest ≡ R ++ (D ++ rest) = append_assoc R D rest in
    let body : drop (7 + 4 * groups n r) s ≡ D ++ rest =
    sym (drop-drop (4 * groups n r) 7 s) ∙ rw (behind R D rest (4 * groups n r) lr) in
    let trip = delta_trip (7 + 4 * groups n r) r 0 0 0 0 [] ids (D ++ rest) rest up w (λ q. absurd (omega arith)) (omega arith) in
    let e : 7 + 4 * groups n r + 0 + length D ≡ 7 + 4 * groups n r + length D = omega arith in
    rw (le-leb 1 n one, le-leb n 4096 most, le-leb 7 (length s) (omega arith), eq-eqb (le_of (le_bytes 4 n)) n c, i, lt-ltb 0 r pos, le-leb (7 + 4 * groups n r) (length s) (omega arith), body, offs)
    (rw e at trip)

interval_fits : (interval : ℕ) → interval < 65536 → interval_of interval < 65536
unfolding interval_of
interval_fits interval h = pick (eqb interval 0)
  where
    pick : (t : Bool) → cond t 64 interval < 65536
    pick true = omega arith
    pick false = h

-- what the writer writes reads back as the ids
pub read_back : (ids rest : List ℕ) (encoding interval : ℕ) → map_bad ids encoding interval ≡ 0 → Words ids
    → map_of (length ids) (map_bytes ids encoding interval ++ rest) ≡ Whole (length (map_bytes ids encoding interval)) ids
read_back ids rest encoding interval ok w = pick (eqb encoding 0) refl
  where
    g : GoodInput ids encoding interval
    g = good ids encoding interval ok

    pick : (t : Bool) → eqb encoding 0 ≡ t → map_of (length ids) (map_bytes ids encoding interval ++ rest) ≡ Whole (length (map_bytes ids encoding interval)) ids
    pick true p =
        let b = bytes_raw ids encoding interval (eqb-true encoding 0 p) in
        let l : length (map_head 0 0 (length ids) ++ raw_ids ids) ≡ 7 + 8 * length ids = length-append (map_head 0 0 (length ids)) (raw_ids ids) ∙ rw (length_head 0 0 (length ids), length_raw_ids ids) in
        rw (b, l) (raw_back ids rest g.one g.most g.up w)
    pick false p =
        let r : ℕ = interval_of interval in
        let d = g.delta (eqb-false encoding 0 p) in
        let pos = (interval_pos interval).0 in
        let b = bytes_delta ids encoding interval r (eqb-false encoding 0 p) refl in
        let l : length (map_head 1 r (length ids) ++ (restarts r 0 0 0 ids ++ deltas r 0 0 ids)) ≡ 7 + 4 * groups (length ids) r + length (deltas r 0 0 ids) =
        length-append (map_head 1 r (length ids)) (restarts r 0 0 0 ids ++ deltas r 0 0 ids)
        ∙ rw (length_head 1 r (length ids), length-append (restarts r 0 0 0 ids) (deltas r 0 0 ids), length_restarts r ids pos) (omega arith) in
        rw (b, l) (delta_back ids rest r g.one g.most g.up w pos (interval_fits interval d.1))
