-- One body more: what the bodies up to an index are as links, as bytes and by their end; and where the loops over them stand.
-- Assumes nothing.
use Rattle.std.specs.Prelude.{ℕ, suc, ◌+◌, ◌-◌, ◌*◌, ◌≤◌, ◌<◌, ◌≡◌, length, take, drop, get_or, set}
use Rattle.std.proofs.Math.Path.{refl}
use Rattle.std.proofs.Common.{sym, ap, ◌∙◌, arith, add-zero, add-one, length-set, take-append-drop, take-suc, length-take-le}
use mathlib.Core.List.{List, [], ◌∷◌, ◌++◌, append_assoc, append-nil}
use Rattle.std.proofs.lemmas.List.{length-map}
use Rattle.std.proofs.Math.Seq.{take-length}
use Rattle.octets.specs.Over.{over}
use Rattle.octets.proofs.OverLaws.{over_none, over_then, over_turn, length_over}
use Rattle.octets.specs.Round.{round64}
use Rattle.segment.specs.Header.{Link}
use Rattle.segment.specs.Written.{segment, link_of}
use Rattle.segment.proofs.WrittenLaws.{segment_length}
use Rattle.segment.specs.Chained.{offsets_of}
use Rattle.batch.specs.Form.{Body}
use Rattle.appending.specs.Append.{body_size, body_links, body_bytes, bodies_end}
use Rattle.appending.proofs.Written.{bodies_end_ge, body_links_length, bodies_length}

-- ---- one body behind others

pub bytes_more : (id ts : ℕ) (bs : List Body) (b : Body)
    → body_bytes id ts (bs ++ b ∷ []) ≡ body_bytes id ts bs ++ segment b.kind b.flags (id + length bs) ts b.payload
unfolding body_bytes
bytes_more id ts [] b = append-nil (segment b.kind b.flags id ts b.payload) ∙ ap (λ (i : ℕ). segment b.kind b.flags i ts b.payload) (sym (add-zero id))
bytes_more id ts (x ∷ xs) b =
    let e : id + 1 + length xs ≡ id + suc (length xs) = omega arith in
    ap (λ (l : List ℕ). segment x.kind x.flags id ts x.payload ++ l) (bytes_more (id + 1) ts xs b)
    ∙ sym (append_assoc (segment x.kind x.flags id ts x.payload) (body_bytes (id + 1) ts xs) (segment b.kind b.flags (id + 1 + length xs) ts b.payload))
    ∙ ap (λ (i : ℕ). (segment x.kind x.flags id ts x.payload ++ body_bytes (id + 1) ts xs) ++ segment b.kind b.flags i ts b.payload) e

pub end_more : (at : ℕ) (bs : List Body) (b : Body) → bodies_end at (bs ++ b ∷ []) ≡ bodies_end at bs + body_size b
unfolding bodies_end
end_more at [] b = refl
end_more at (x ∷ xs) b = end_more (at + body_size x) xs b

pub offsets_more : (at id ts : ℕ) (bs : List Body) (b : Body)
    → offsets_of (body_links at id ts (bs ++ b ∷ [])) ≡ offsets_of (body_links at id ts bs) ++ (bodies_end at bs ∷ [])
unfolding body_links bodies_end link_of
offsets_more at id ts [] b = refl
offsets_more at id ts (x ∷ xs) b = ap (λ (l : List ℕ). at ∷ l) (offsets_more (at + body_size x) (id + 1) ts xs b)

-- ---- where the loop stands that adds up the sizes: j bodies are passed

pub record EndAt (bs : List Body) (start at j : ℕ) : Type 0 where
  pub at_most : j ≤ length bs
  pub at_is : bodies_end start (take j bs) ≡ at
  pub small : at ≤ start + 4294967424 * j

pub end_first : (bs : List Body) (start : ℕ) → EndAt bs start start 0
unfolding bodies_end
end_first bs start = record { at_most = omega arith; at_is = refl; small = omega arith }

pub end_next : (bs : List Body) (start at j : ℕ) (none : Body) → EndAt bs start at j → j < length bs → length (get_or bs j none).payload < 4294967296
    → (m : ℕ) → m ≡ round64 (length (get_or bs j none).payload) → m < length (get_or bs j none).payload + 64 → EndAt bs start (at + (64 + m)) (j + 1)
end_next bs start at j none st h k m e l =
    let small = st.small in
    record {
      at_most = omega arith;
      at_is =
          ap (λ (n : ℕ). bodies_end start (take n bs)) (add-one j)
          ∙ ap (bodies_end start) (take-suc bs j none h)
          ∙ end_more start (take j bs) (get_or bs j none)
          ∙ ap (λ (n : ℕ). n + body_size (get_or bs j none)) st.at_is
          ∙ ap (λ (n : ℕ). at + (64 + n)) (sym e);
      small = omega arith;
    }

pub end_last : (bs : List Body) (start at j : ℕ) → EndAt bs start at j → length bs ≤ j → at ≡ bodies_end start bs
end_last bs start at j st h =
    let at_most = st.at_most in
    let e : j ≡ length bs = omega arith in
    sym st.at_is ∙ ap (λ (n : ℕ). bodies_end start (take n bs)) e ∙ ap (bodies_end start) (take-length bs)

-- ---- where the loop stands that writes: j bodies are written, and their offsets stored

pub record BodiesPut (bs : List Body) (start id ts kept : ℕ) (buf₀ buf os₀ os : List ℕ) (at j : ℕ) : Type 0 where
  pub at_most : j ≤ length bs
  pub at_is : bodies_end start (take j bs) ≡ at
  pub same_length : length buf ≡ length buf₀
  pub laid : buf ≡ over buf₀ start (body_bytes id ts (take j bs))
  pub many : length os ≡ length os₀
  pub stored : os ≡ over os₀ kept (offsets_of (body_links start id ts (take j bs)))

pub put_first : (bs : List Body) (start id ts kept : ℕ) (buf os : List ℕ) → BodiesPut bs start id ts kept buf buf os os start 0
unfolding bodies_end body_bytes body_links
put_first bs start id ts kept buf os =
    record { at_most = omega arith; at_is = refl; same_length = refl; laid = sym (over_none buf start); many = refl; stored = sym (over_none os kept) }

module _ (bs : List Body) (start id ts kept : ℕ) (buf₀ buf os₀ os : List ℕ) (at j : ℕ) (st : BodiesPut bs start id ts kept buf₀ buf os₀ os at j) (h : j < length bs) (none : Body)
    (room : bodies_end start bs ≤ length buf₀) where
  abbrev b : Body
  b = get_or bs j none

  taken : length (take j bs) ≡ j
  taken = length-take-le j bs (omega arith)

  more : take (j + 1) bs ≡ take j bs ++ b ∷ []
  more = ap (λ (n : ℕ). take n bs) (add-one j) ∙ take-suc bs j none h

  -- the segment's end, and that it lies in the buffer
  end_is : bodies_end start (take (j + 1) bs) ≡ at + body_size b
  end_is = ap (bodies_end start) more ∙ end_more start (take j bs) b ∙ ap (λ (n : ℕ). n + body_size b) st.at_is

  end-split : (xs ys : List Body) (n : ℕ) → bodies_end n (xs ++ ys) ≡ bodies_end (bodies_end n xs) ys
  unfolding bodies_end
  end-split [] ys n = refl
  end-split (x ∷ xs) ys n = end-split xs ys (n + body_size x)

  pub put_room : at + body_size b ≤ length buf
  put_room =
      let e : bodies_end start bs ≡ bodies_end (at + body_size b) (drop (j + 1) bs) =
      ap (bodies_end start) (sym (take-append-drop (j + 1) bs)) ∙ end-split (take (j + 1) bs) (drop (j + 1) bs) start ∙ ap (λ (n : ℕ). bodies_end n (drop (j + 1) bs)) end_is in
      omega (arith, bodies_end_ge (at + body_size b) (drop (j + 1) bs), st.same_length)

  bytes-long : length (body_bytes id ts (take j bs)) ≡ at - start
  bytes-long = omega (arith, bodies_length ts start id (take j bs), st.at_is)

  start-low : start ≤ at
  start-low = omega (arith, bodies_end_ge start (take j bs), st.at_is)

  pub put_next : (size : ℕ) (seg buf' : List ℕ) → seg ≡ segment b.kind b.flags (id + j) ts b.payload → size ≡ length seg → buf' ≡ over buf at seg
      → kept + length bs ≤ length os₀ → BodiesPut bs start id ts kept buf₀ buf' os₀ (set os (kept + j) at) (at + size) (j + 1)
  put_next size seg buf' e n p o =
      let sl : length seg ≡ body_size b = ap length e ∙ segment_length b.kind b.flags (id + j) ts b.payload in
      let r = put_room in
      let low = start-low in
      let bl = bytes-long in
      let at-eq : start + (at - start) ≡ at = omega arith in
      let bytes : body_bytes id ts (take (j + 1) bs) ≡ body_bytes id ts (take j bs) ++ seg =
      ap (body_bytes id ts) more ∙ bytes_more id ts (take j bs) b ∙ ap (λ (i : ℕ). body_bytes id ts (take j bs) ++ segment b.kind b.flags (id + i) ts b.payload) taken
      ∙ ap (λ (s : List ℕ). body_bytes id ts (take j bs) ++ s) (sym e) in
      let two : over buf (start + (at - start)) seg ≡ over buf₀ start (body_bytes id ts (take j bs) ++ seg) =
      over_then buf₀ buf start (body_bytes id ts (take j bs)) seg (at - start) st.laid bl (omega (arith, st.same_length)) in
      let laid : buf' ≡ over buf₀ start (body_bytes id ts (take (j + 1) bs)) = p ∙ ap (λ (n : ℕ). over buf n seg) (sym at-eq) ∙ two ∙ ap (over buf₀ start) (sym bytes) in
      let ol : length (offsets_of (body_links start id ts (take j bs))) ≡ j = length-map (body_links start id ts (take j bs)) (λ (l : Link). l.offset)
      ∙ body_links_length start id ts (take j bs) ∙ taken in
      let stored : set os (kept + j) at ≡ over os₀ kept (offsets_of (body_links start id ts (take (j + 1) bs))) =
      over_turn os₀ os kept (offsets_of (body_links start id ts (take j bs))) j at st.stored ol (omega arith)
      ∙ ap (λ (n : ℕ). over os₀ kept (offsets_of (body_links start id ts (take j bs)) ++ (n ∷ []))) (sym st.at_is)
      ∙ ap (over os₀ kept) (sym (ap (λ (x : List Body). offsets_of (body_links start id ts x)) more ∙ offsets_more start id ts (take j bs) b)) in
      record {
        at_most = omega arith;
        at_is = end_is ∙ omega arith;
        same_length = ap length p ∙ length_over buf at seg (omega arith) ∙ st.same_length;
        laid = laid;
        many = length-set os (kept + j) at ∙ st.many;
        stored = stored;
      }

pub put_last : (bs : List Body) (start id ts kept : ℕ) (buf₀ buf os₀ os : List ℕ) (at j : ℕ) → BodiesPut bs start id ts kept buf₀ buf os₀ os at j → length bs ≤ j
    → (buf ≡ over buf₀ start (body_bytes id ts bs)) × (os ≡ over os₀ kept (offsets_of (body_links start id ts bs)))
put_last bs start id ts kept buf₀ buf os₀ os at j st h =
    let at_most = st.at_most in
    let e : j ≡ length bs = omega arith in
    let t : take j bs ≡ bs = ap (λ (n : ℕ). take n bs) e ∙ take-length bs in
    (st.laid ∙ ap (λ (x : List Body). over buf₀ start (body_bytes id ts x)) t, st.stored ∙ ap (λ (x : List Body). over os₀ kept (offsets_of (body_links start id ts x))) t)
