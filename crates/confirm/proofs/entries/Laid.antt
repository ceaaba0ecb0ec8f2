-- What the steps of writing a manifest's payload leave in the buffer: a part of the file, an entry, the entries, the root, the payload.
-- Assumes nothing.
use Prim.Native.Nat.{ℕ, suc, ◌+◌, ◌-◌, ◌*◌, ◌≤◌, ◌<◌}
use Rattle.std.specs.Prelude.{◌≡◌, take, drop, get_or, set}
use Rattle.std.proofs.Math.Path.{refl, ap}
use Rattle.std.proofs.Common.{sym, ap₂, ◌∙◌, add-one, arith, length-append, length-drop, length-take-le, take_all, take-add, drop-cons, drop-drop, get_or-take}
use mathlib.Core.List.{List, [], ◌∷◌, ◌++◌, append_assoc}
use Rattle.std.proofs.Math.Nat.{zero-add}
use Rattle.std.proofs.Math.ListN.{length, replicate}
use borrow.Rule.Slice.PartMut.{put_mid}
use Rattle.octets.specs.Over.{over}
use Rattle.octets.proofs.OverLaws.{over_none, over_turn, over_then, length_over}
use Rattle.octets.proofs.Parts.{back}
use Rattle.octets.specs.Round.{round64}
use Rattle.octets.specs.le.Le.{Bytes, le_at, le_bytes}
use Rattle.octets.proofs.le.Laws.{length_le_bytes, le_back}
use Rattle.manifest.specs.Sized.{entries_of}
use Rattle.manifest.proofs.SizedLaws.{entries_of_more}
use Rattle.manifest.specs.Payload.{entry_size, record_end, payload_length, root_bytes, root, entries_end}
use Rattle.manifest.specs.At.{Inside, entry_at, entries_at, record_head, fill, payload_at}
use Rattle.manifest.proofs.At.{length_entries_at, length_record_head, length_fill, length_root, record_ge}
use Rattle.segment.specs.Header.{kind_at}

-- ---- pieces

-- a part of the file that was copied into the part of a buffer from a place on
pub copied : (buf ys f : List ℕ) (at from n : ℕ) → ys ≡ over (take (length buf - at) (drop at buf)) 0 (take (from + n - from) (drop from f))
    → at + n ≤ length buf → from + n ≤ length f → put_mid at (length buf - at) buf ys ≡ over buf at (take n (drop from f))
copied buf ys f at from n p h k =
    let e : from + n - from ≡ n = omega arith in
    let l : length (take n (drop from f)) ≡ n = length-take-le n (drop from f) (omega (arith, length-drop from f)) in
    back buf at ys (take n (drop from f)) (rw e at p) (omega arith)

-- a part of a buffer that came back as a part of the file
pub copied_over : (buf ys f : List ℕ) (at from n : ℕ) → ys ≡ take (from + n - from) (drop from f) → from + n ≤ length f
    → put_mid at (at + n - at) buf ys ≡ over buf at (take n (drop from f))
unfolding over
copied_over buf ys f at from n p k =
    let e : from + n - from ≡ n = omega arith in
    let g : at + n - at ≡ n = omega arith in
    let l : length (take n (drop from f)) ≡ n = length-take-le n (drop from f) (omega (arith, length-drop from f)) in
    rw (p, e, g, l, drop-drop)

-- two words of the file, read as numbers and written
pub words_copied : (buf b₁ b₂ f : List ℕ) (at from low high : ℕ) → Bytes f → at + 16 ≤ length buf → from + 16 ≤ length f → low ≡ le_at 8 f from
    → high ≡ le_at 8 f (from + 8) → b₁ ≡ over buf at (le_bytes 8 low) → b₂ ≡ over b₁ (at + 8) (le_bytes 8 high) → b₂ ≡ over buf at (take 16 (drop from f))
words_copied buf b₁ b₂ f at from low high t h k el eh p q =
    let first : le_bytes 8 low ≡ take 8 (drop from f) = ap (le_bytes 8) el ∙ le_back f 8 from t (omega arith) in
    let second : le_bytes 8 high ≡ take 8 (drop 8 (drop from f)) =
    ap (le_bytes 8) eh ∙ le_back f 8 (from + 8) t (omega arith) ∙ ap (take 8) (sym (drop-drop 8 from f)) in
    q
    ∙ over_then buf b₁ at (le_bytes 8 low) (le_bytes 8 high) 8 p (length_le_bytes 8 low) (omega arith)
    ∙ ap (over buf at) (ap₂ (λ (x y : List ℕ). x ++ y) first second ∙ sym (take-add 8 8 (drop from f)))

pub stored : (buf : List ℕ) (at b : ℕ) → at < length buf → set buf at b ≡ over buf at (b ∷ [])
stored buf at b h =
    let e : at + 0 ≡ at = omega arith in
    rw e at (over_turn buf buf at [] 0 b (sym (over_none buf at)) refl (omega arith))

-- ---- an entry, field by field

pub entry_laid : (buf f b₁ b₂ b₃ b₄ b₅ b₆ b₇ : List ℕ) (at o state held : ℕ) → Bytes f → held ≡ le_at 2 f (o + 0x06) → at + 48 ≤ length buf → o + 64 ≤ length f → b₁ ≡ over buf at (le_bytes 8 o)
    → b₂ ≡ over b₁ (at + 8) (take 16 (drop (o + 0x08) f)) → b₃ ≡ over b₂ (at + 24) (take 16 (drop (o + 0x28) f)) → b₄ ≡ over b₃ (at + 40) (kind_at f o ∷ [])
    → b₅ ≡ over b₄ (at + 41) (state ∷ []) → b₆ ≡ over b₅ (at + 42) (le_bytes 2 held) → b₇ ≡ over b₆ (at + 44) (le_bytes 4 0) → b₇ ≡ over buf at (entry_at f o state)
unfolding entry_at
entry_laid buf f b₁ b₂ b₃ b₄ b₅ b₆ b₇ at o state held t e h k p₁ p₂ p₃ p₄ p₅ p₆ p₇ =
    let ids : List ℕ = take 16 (drop (o + 0x08) f) in
    let hash : List ℕ = take 16 (drop (o + 0x28) f) in
    let flags : List ℕ = take 2 (drop (o + 0x06) f) in
    let n₂ : length ids ≡ 16 = length-take-le 16 (drop (o + 0x08) f) (omega (arith, length-drop (o + 0x08) f)) in
    let n₃ : length hash ≡ 16 = length-take-le 16 (drop (o + 0x28) f) (omega (arith, length-drop (o + 0x28) f)) in
    let n₆ : length flags ≡ 2 = length-take-le 2 (drop (o + 0x06) f) (omega (arith, length-drop (o + 0x06) f)) in
    let q₂ = p₂ ∙ over_then buf b₁ at (le_bytes 8 o) ids 8 p₁ (length_le_bytes 8 o) (omega arith) in
    let q₃ = p₃ ∙ over_then buf b₂ at (le_bytes 8 o ++ ids) hash 24 q₂ (simp (length-append, length_le_bytes, n₂)) (omega arith) in
    let q₄ = p₄ ∙ over_then buf b₃ at ((le_bytes 8 o ++ ids) ++ hash) (kind_at f o ∷ []) 40 q₃ (simp (length-append, length_le_bytes, n₂, n₃)) (omega arith) in
    let q₅ = p₅ ∙ over_then buf b₄ at (((le_bytes 8 o ++ ids) ++ hash) ++ (kind_at f o ∷ [])) (state ∷ []) 41 q₄ (simp (length-append, length_le_bytes, n₂, n₃)) (omega arith) in
    let l₆ : le_bytes 2 held ≡ flags = ap (le_bytes 2) e ∙ le_back f 2 (o + 0x06) t (omega arith) in
    let q₆ = p₆ ∙ ap (over b₅ (at + 42)) l₆ ∙ over_then buf b₅ at ((((le_bytes 8 o ++ ids) ++ hash) ++ (kind_at f o ∷ [])) ++ (state ∷ [])) flags 42 q₅
    (simp (length-append, length_le_bytes, n₂, n₃)) (omega arith) in
    let q₇ = p₇ ∙ over_then buf b₆ at (((((le_bytes 8 o ++ ids) ++ hash) ++ (kind_at f o ∷ [])) ++ (state ∷ [])) ++ flags) (le_bytes 4 0) 44 q₆
    (simp (length-append, length_le_bytes, n₂, n₃, n₆)) (omega arith) in
    q₇ ∙ ap (over buf at) (simp append_assoc)

-- ---- the loop over the links: i entries are written, right behind the record's head

pub record EntriesPut (buf₀ buf f os ss : List ℕ) (i : ℕ) : Type 0 where
  pub at_most : i ≤ length os
  pub same_length : length buf ≡ length buf₀
  pub laid : buf ≡ over buf₀ 8 (entries_at f (take i os) ss)

pub entries_first : (buf f os ss : List ℕ) → EntriesPut buf buf f os ss 0
unfolding entries_of
entries_first buf f os ss = record { at_most = omega arith; same_length = refl; laid = sym (over_none buf 8) }

inside_take : (f os : List ℕ) (i : ℕ) → i ≤ length os → Inside f os → Inside f (take i os)
inside_take f os i h t j k =
    let n : length (take i os) ≡ i = length-take-le i os h in
    let e : get_or (take i os) j 0 ≡ get_or os j 0 = get_or-take i os j 0 (omega arith) in
    rw e (t j (omega arith))

pub entries_next : (buf₀ buf buf' f os ss : List ℕ) (i : ℕ) → EntriesPut buf₀ buf f os ss i → i < length os → Inside f os → 8 + entry_size * length os ≤ length buf₀
    → buf' ≡ over buf (entries_end i) (entry_at f (get_or os i 0) (get_or ss i 0)) → length buf' ≡ length buf → EntriesPut buf₀ buf' f os ss (i + 1)
entries_next buf₀ buf buf' f os ss i st h t room p q =
    let n : length (entries_at f (take i os) ss) ≡ entry_size * i =
    length_entries_at f (take i os) ss (inside_take f os i (omega arith) t) ∙ ap (λ (m : ℕ). entry_size * m) (length-take-le i os (omega arith)) in
    let same_length = st.same_length in
    record {
      at_most = omega arith;
      same_length = omega arith;
      laid =
          rw (add-one, entries_of_more (entry_at f) os ss i 0 h)
          (p ∙ over_then buf₀ buf 8 (entries_at f (take i os) ss) (entry_at f (get_or os i 0) (get_or ss i 0)) (entry_size * i) st.laid n (omega arith));
    }

pub entries_last : (buf₀ buf f os ss : List ℕ) (i : ℕ) → EntriesPut buf₀ buf f os ss i → length os ≤ i → buf ≡ over buf₀ 8 (entries_at f os ss)
entries_last buf₀ buf f os ss i st h = rw (take_all i os h) at st.laid

-- what is left of a list behind its first i numbers begins with the next one
pub next_left : (xs left rest : List ℕ) (i x : ℕ) → left ≡ drop i xs → left ≡ x ∷ rest → (i < length xs) × ((x ≡ get_or xs i 0) × (rest ≡ drop (i + 1) xs))
next_left xs left rest i x p q =
    let h : i < length xs = omega (arith, ap length p, ap length q, length-drop i xs) in
    let e : x ∷ rest ≡ get_or xs i 0 ∷ drop (suc i) xs = sym q ∙ p ∙ drop-cons xs i 0 h in
    (h, (cc, rw add-one cc))

-- ---- the root's fields, one by one, and its zeros

abbrev name : List ℕ
name = 0x52 ∷ 0x56 ∷ 0x4D ∷ 0x30 ∷ []

in_line : (a b c d e f g h : List ℕ) → ((((((a ++ b) ++ c) ++ d) ++ e) ++ f) ++ g) ++ h ≡ a ++ (b ++ (c ++ (d ++ (e ++ (f ++ (g ++ h))))))
in_line a b c d e f g h = simp append_assoc

module _ (buf : List ℕ) (c offset id : ℕ) (room : 4096 ≤ length buf) where
  pub fields_laid : (b₁ b₂ b₃ b₄ b₅ b₆ b₇ b₈ : List ℕ) (ends end : ℕ) → ends ≡ entries_end c → end ≡ offset + 64 + round64 (payload_length c)
      → b₁ ≡ over buf 0 name → b₂ ≡ over b₁ 4 (le_bytes 2 1) → b₃ ≡ over b₂ 6 (le_bytes 2 c) → b₄ ≡ over b₃ 8 (le_bytes 8 offset)
      → b₅ ≡ over b₄ 16 (le_bytes 8 id) → b₆ ≡ over b₅ 24 (le_bytes 8 ends) → b₇ ≡ over b₆ 32 (le_bytes 8 end) → b₈ ≡ over b₇ 40 (replicate (4092 - 40) 0)
      → b₈ ≡ over buf 0 (root_bytes c offset id)
  unfolding root_bytes
  fields_laid b₁ b₂ b₃ b₄ b₅ b₆ b₇ b₈ ends end el ee p₁ p₂ p₃ p₄ p₅ p₆ p₇ p₈ =
      let x₂ : List ℕ = name ++ le_bytes 2 1 in
      let x₃ : List ℕ = x₂ ++ le_bytes 2 c in
      let x₄ : List ℕ = x₃ ++ le_bytes 8 offset in
      let x₅ : List ℕ = x₄ ++ le_bytes 8 id in
      let x₆ : List ℕ = x₅ ++ le_bytes 8 ends in
      let x₇ : List ℕ = x₆ ++ le_bytes 8 end in
      let q₂ : b₂ ≡ over buf 0 x₂ = p₂ ∙ over_then buf b₁ 0 name (le_bytes 2 1) 4 p₁ refl (omega arith) in
      let q₃ : b₃ ≡ over buf 0 x₃ = p₃ ∙ over_then buf b₂ 0 x₂ (le_bytes 2 c) 6 q₂ (simp length_le_bytes) (omega arith) in
      let q₄ : b₄ ≡ over buf 0 x₄ = p₄ ∙ over_then buf b₃ 0 x₃ (le_bytes 8 offset) 8 q₃ (simp (length-append, length_le_bytes)) (omega arith) in
      let q₅ : b₅ ≡ over buf 0 x₅ = p₅ ∙ over_then buf b₄ 0 x₄ (le_bytes 8 id) 16 q₄ (simp (length-append, length_le_bytes)) (omega arith) in
      let q₆ : b₆ ≡ over buf 0 x₆ = p₆ ∙ over_then buf b₅ 0 x₅ (le_bytes 8 ends) 24 q₅ (simp (length-append, length_le_bytes)) (omega arith) in
      let q₇ : b₇ ≡ over buf 0 x₇ = p₇ ∙ over_then buf b₆ 0 x₆ (le_bytes 8 end) 32 q₆ (simp (length-append, length_le_bytes)) (omega arith) in
      let q₈ : b₈ ≡ over buf 0 (x₇ ++ replicate (4092 - 40) 0) =
      p₈ ∙ over_then buf b₇ 0 x₇ (replicate (4092 - 40) 0) 40 q₇ (simp (length-append, length_le_bytes)) (omega arith) in
      q₈ ∙ rw (el, ee) (ap (over buf 0) (in_line name (le_bytes 2 1) (le_bytes 2 c) (le_bytes 8 offset) (le_bytes 8 id) (le_bytes 8 (entries_end c))
      (le_bytes 8 (offset + 64 + round64 (payload_length c))) (replicate (4092 - 40) 0)))

-- ---- the payload: the record's head, entries, fill, and the root in a part of the buffer

module _ (buf f os ss : List ℕ) (offset id : ℕ) (t : Inside f os) (room : payload_length (length os) ≤ length buf) where
  abbrev c : ℕ
  c = length os

  abbrev written : List ℕ
  written = (record_head c ++ entries_at f os ss) ++ fill c

  room-record : record_end c + 4096 ≤ length buf
  unfolding payload_length
  room-record = room

  written-length : length written ≡ record_end c
  written-length = simp (length-append, length_record_head, length_entries_at f os ss t, length_fill) (omega (arith, record_ge (length os)))

  pub head_laid : (b₁ b₂ b₃ : List ℕ) → b₁ ≡ over buf 0 (le_bytes 2 1) → b₂ ≡ over b₁ 2 (le_bytes 4 (entry_size * length os)) → b₃ ≡ over b₂ 6 (le_bytes 2 0)
      → b₃ ≡ over buf 0 (record_head (length os))
  unfolding record_head
  head_laid b₁ b₂ b₃ p₁ p₂ p₃ =
      let r = room-record in
      let g = record_ge (length os) in
      let q₂ : b₂ ≡ over buf 0 (le_bytes 2 1 ++ le_bytes 4 (entry_size * length os)) =
      p₂ ∙ over_then buf b₁ 0 (le_bytes 2 1) (le_bytes 4 (entry_size * length os)) 2 p₁ (length_le_bytes 2 1) (omega arith) in
      p₃ ∙ over_then buf b₂ 0 (le_bytes 2 1 ++ le_bytes 4 (entry_size * length os)) (le_bytes 2 0) 6 q₂ (simp (length-append, length_le_bytes)) (omega arith)
      ∙ ap (over buf 0) (simp append_assoc)

  pub filled : (b₃ b₄ b₅ : List ℕ) (end : ℕ) → end ≡ record_end (length os) → b₃ ≡ over buf 0 (record_head (length os)) → b₄ ≡ over b₃ 8 (entries_at f os ss)
      → b₅ ≡ over b₄ (8 + entry_size * length os) (replicate (end - (8 + entry_size * length os)) 0) → b₅ ≡ over buf 0 written
  unfolding fill
  filled b₃ b₄ b₅ end e p₃ p₄ p₅ =
      let r = room-record in
      let g = record_ge (length os) in
      let q₄ : b₄ ≡ over buf 0 (record_head (length os) ++ entries_at f os ss) =
      p₄ ∙ over_then buf b₃ 0 (record_head (length os)) (entries_at f os ss) 8 p₃ (length_record_head (length os)) (omega arith) in
      p₅
      ∙ ap (λ (k : ℕ). over b₄ (8 + entry_size * length os) (replicate (k - (8 + entry_size * length os)) 0)) e
      ∙ (rw zero-add at (over_then buf b₄ 0 (record_head (length os) ++ entries_at f os ss) (fill (length os)) (8 + entry_size * length os) q₄
      (simp (length-append, length_record_head, length_entries_at f os ss t)) (omega arith)))

  pub payload_laid : (b₅ ys : List ℕ) (end : ℕ) → end ≡ record_end (length os) → b₅ ≡ over buf 0 written
      → ys ≡ over (take (length b₅ - end) (drop end b₅)) 0 (root (length os) offset id)
      → put_mid end (length b₅ - end) b₅ ys ≡ over buf 0 (payload_at f os ss offset id)
  unfolding payload_at
  payload_laid b₅ ys end e p q =
      let r = room-record in
      let w = written-length in
      let n = length_root (length os) offset id in
      let l : length b₅ ≡ length buf = rw p (length_over buf 0 written (omega arith)) in
      back b₅ end ys (root (length os) offset id) q (omega arith)
      ∙ (rw zero-add at (over_then buf b₅ 0 written (root (length os) offset id) end p (omega arith) (omega arith)))
