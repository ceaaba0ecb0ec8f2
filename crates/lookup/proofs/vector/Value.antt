-- The laws of specs/vector/Value.antt.
-- Assumes nothing.
use Prim.Native.Nat.{ℕ, ◌+◌, ◌-◌, ◌*◌, ◌≤◌, ◌<◌}
use Rattle.std.proofs.Math.Path.{◌≡◌, refl, sym, ap, subst}
use Rattle.std.proofs.Common.{◌∙◌, length-drop, drop-drop, drop-cons, length-take-le, lt-ltb, le-ltb}
use Rattle.std.specs.Prelude.{cond, ltb, drop, Result, Ok, Err, Some, None}
use Rattle.std.specs.Prelude.{Option as Maybe}
use Rattle.std.proofs.Math.Option.{some}
use mathlib.Core.List.{List, [], ◌∷◌}
use native.Mathlib.Omega.{arith}
use Rattle.std.proofs.Math.ListN.{length, take, get_or}
use Rattle.octets.proofs.Parts.{part_front}
use Rattle.octets.specs.le.Le.{le_of, le_at}
use Rattle.segment.specs.Header.{Link}
use Rattle.vecseg.specs.Payload.{check_of, width, columns_length}
use Rattle.vecseg.proofs.LineLaws.{width_f32, width_most}
use Rattle.vecseg.specs.Find.{Place, find_in, value_at, vector_of}
use Rattle.vecseg.proofs.FindLaws.{found_good}
use Rattle.vecseg.specs.Component.{component_of}
use Rattle.vec_read.proofs.values.Component.{byte_wide}
use Rattle.vecseg.specs.declared.Component.{Component}
use Rattle.vec_read.specs.values.Vector.{place_with, Bounds}
use Rattle.vec_read.proofs.values.Vector.{vector_with, ValueRoom, value_room}
use Rattle.vecseg.specs.Vector.{read_of}
use Rattle.answers.specs.Write.{write_answer, write_buffer}
use Rattle.answers.specs.Answer.{refusal_number}
use Rattle.std.specs.Result.{IsErrAnd}
use Rattle.std.proofs.lemmas.Result.{err_from_is_err_and}
use Rattle.answers.specs.declared.Refusal.{Refusal}
use Rattle.answers.specs.declared.Refusal.TheVariants.{NoVector}
use Rattle.reading.specs.Answers.{Hit, Held, Missing, Bad, hit_in, vector_hit, buffer_hit, vector_case, vector_after, Value, Stored, NoValue, value_hit, value_in}
use Rattle.reading.proofs.Placed.{HeldIn, hit_in_held}
use Rattle.lookup.specs.in_segment.Located.{located_of}
use Rattle.lookup.specs.declared.in_segment.Located.{Located}
use Rattle.reading.specs.Component.{component_case, bits_case}
use Rattle.reading.specs.declared.ComponentBits.{ComponentBits}
use Rattle.lookup.specs.declared.vector.ValuePlace.{ValuePlace}
use Rattle.lookup.specs.vector.Value.{PlacedValue}

-- ---- nothing found

module _ (f : List ℕ) (id : ℕ) where
  was-refused : (h : Hit) (n : ℕ) → located_of h ≡ Err n → h ≡ Bad n
  unfolding located_of
  was-refused (Held l p) n e = absurd (let z : ◌≡◌ {A = ℕ} 0 1 = cc in omega arith)
  was-refused Missing n e = absurd (let z : ◌≡◌ {A = ℕ} 0 1 = cc in omega arith)
  was-refused (Bad m) n e = let q : m ≡ n = cc in ap Bad q

  was-nowhere : (h : Hit) → located_of h ≡ Ok None → h ≡ Missing
  unfolding located_of
  was-nowhere (Held l p) e = absurd (let z : ◌≡◌ {A = ℕ} 0 1 = cc in omega arith)
  was-nowhere Missing e = refl
  was-nowhere (Bad m) e = absurd (let z : ◌≡◌ {A = ℕ} 0 1 = cc in omega arith)

  pub vector_refused : (buf : List ℕ) (n : ℕ) → located_of (hit_in f id) ≡ Err n → (Err n ≡ vector_case f id buf) × (buf ≡ vector_after f id buf)
  unfolding vector_case vector_after vector_hit buffer_hit
  vector_refused buf n e = let h = was-refused (hit_in f id) n e in (sym (ap (vector_hit buf) h), sym (ap (buffer_hit buf) h))

  pub vector_nowhere : (buf : List ℕ) → located_of (hit_in f id) ≡ Ok None → (Err 8 ≡ vector_case f id buf) × (buf ≡ vector_after f id buf)
  unfolding vector_case vector_after vector_hit buffer_hit
  vector_nowhere buf e = let h = was-nowhere (hit_in f id) e in (sym (ap (vector_hit buf) h), sym (ap (buffer_hit buf) h))

  pub value_refused : (i : ℕ) (e : Refusal) → located_of (hit_in f id) ≡ Err (refusal_number e) → PlacedValue f (value_in f id i) (Err e)
  unfolding PlacedValue value_in value_hit
  value_refused i r e = ap (value_hit i) (was-refused (hit_in f id) (refusal_number r) e)

  pub value_nowhere : (i : ℕ) → located_of (hit_in f id) ≡ Ok None → PlacedValue f (value_in f id i) (Err NoVector)
  unfolding PlacedValue value_in value_hit
  value_nowhere i e = ap (value_hit i) (was-nowhere (hit_in f id) e)

-- a refusal that is handed on
pub value_handed_on : (f : List ℕ) (v : Value) (r : Result ValuePlace Refusal) (e : Refusal) → IsErrAnd r (λ x. x ≡ e) → PlacedValue f v (Err e) → PlacedValue f v r
value_handed_on f v r e h y =
    let p = err_from_is_err_and r h in
    subst (PlacedValue f v) (sym (p.1 ∙ ap (λ (x : Refusal). Err x) p.2)) y

-- ---- what is found

module _ (f : List ℕ) (id : ℕ) (w : Located) (e : located_of (hit_in f id) ≡ Ok (Some w)) where
  abbrev body : ℕ
  body = w.body

  abbrev len : ℕ
  len = w.length

  abbrev offset : ℕ
  offset = w.place.offset

  abbrev count : ℕ
  count = w.place.count

  abbrev dim : ℕ
  dim = w.place.dim

  abbrev dtype : ℕ
  dtype = w.place.dtype

  abbrev index : ℕ
  index = w.place.index

  -- what is found, where it is
  abbrev located_or : Result (Maybe Located) ℕ → Located
  located_or (Ok (Some x)) = x
  located_or (Ok None) = w
  located_or (Err n) = w

  record Found : Type 0 where
    link : Link
    place : Place
    hit : hit_in f id ≡ Held link place
    body_is : link.offset + 64 ≡ body
    length_is : length link.payload ≡ len
    offset_is : place.line.offset ≡ offset
    count_is : place.line.count ≡ count
    dim-is : place.line.dim ≡ dim
    dtype-is : place.line.dtype ≡ dtype
    index_is : place.index ≡ index

  found : Found
  unfolding located_of
  found = pick (hit_in f id) refl e
    where
      pick : (h : Hit) → hit_in f id ≡ h → located_of h ≡ Ok (Some w) → Found
      pick Missing p q = absurd (let z : ◌≡◌ {A = ℕ} 0 1 = cc in omega arith)
      pick (Bad n) p q = absurd (let z : ◌≡◌ {A = ℕ} 0 1 = cc in omega arith)
      pick (Held l p) h q =
          let is = ap located_or q in
          record {
            link = l;
            place = p;
            hit = h;
            body_is = ap (λ (x : Located). x.body) is;
            length_is = ap (λ (x : Located). x.length) is;
            offset_is = ap (λ (x : Located). x.place.offset) is;
            count_is = ap (λ (x : Located). x.place.count) is;
            dim-is = ap (λ (x : Located). x.place.dim) is;
            dtype-is = ap (λ (x : Located). x.place.dtype) is;
            index_is = ap (λ (x : Located). x.place.index) is;
          }

  held : HeldIn f id found.link found.place
  held = hit_in_held f id found.link found.place found.hit

  -- the payload, as the code takes it out of the file
  abbrev part : List ℕ
  part = take (body + len - body) (drop body f)

  pub part_room : body + len ≤ length f
  part_room = omega (arith, held.lies.room, found.body_is, found.length_is)

  part-is : part ≡ found.link.payload
  part-is =
      let n : body + len - body ≡ length found.link.payload = omega (arith, found.length_is) in
      ap (λ (k : ℕ). take k (drop body f)) n ∙ ap (λ (k : ℕ). take (length found.link.payload) (drop k f)) (sym found.body_is) ∙ sym held.lies.bytes

  part_sound : check_of part ≡ 0
  part_sound = ap check_of part-is ∙ held.good.checked

  place_is : find_in part id ≡ some found.place
  place_is = ap (λ (s : List ℕ). find_in s id) part-is ∙ held.place

  pub part_bounds : Bounds (length part) offset count dim (width dtype) index
  unfolding columns_length
  part_bounds =
      let it = found in
      let g = found_good part part_sound id it.place place_is in
      let c : it.place.line.count * it.place.line.dim * width it.place.line.dtype ≡ count * dim * width dtype = rw (it.count_is, it.dim-is, it.dtype-is) in
      record {
        most = omega (arith, g.line.most, it.count_is);
        at_most = omega (arith, g.line.at_most, it.dim-is);
        small = width_most dtype;
        room = omega (arith, g.room, it.offset_is, c);
        index_in = omega (arith, g.index_in, it.index_is, it.count_is);
      }

  -- the vector, as the code writes it by the numbers that it was told
  abbrev told : List ℕ
  told = vector_of part (place_with offset count dim dtype index)

  told_is : vector_of found.link.payload found.place ≡ told
  told_is =
      let it = found in
      ap (λ (s : List ℕ). vector_of s it.place) (sym part-is) ∙ vector_with part it.place ∙ rw (it.offset_is, it.count_is, it.dim-is, it.dtype-is, it.index_is)

  module _ (buf : List ℕ) (n : ℕ) (exit : List ℕ) (x : exit ≡ write_buffer 0 told buf) where
    after : exit ≡ vector_after f id buf
    unfolding vector_after buffer_hit
    after = x ∙ sym (ap (buffer_hit buf) found.hit ∙ ap (λ (v : List ℕ). write_buffer 0 v buf) told_is)

    wrote : (o : Result ℕ ℕ) → write_answer 0 told buf ≡ o → vector_case f id buf ≡ read_of found.place o
    unfolding vector_case vector_hit
    wrote o a = ap (vector_hit buf) found.hit ∙ ap (read_of found.place) (ap (λ (v : List ℕ). write_answer 0 v buf) told_is ∙ a)

    pub vector_short : write_answer 0 told buf ≡ Err n → (Err n ≡ vector_case f id buf) × (exit ≡ vector_after f id buf)
    unfolding read_of
    vector_short a = (sym (wrote (Err n) a), after)

    pub vector_read : write_answer 0 told buf ≡ Ok n → (Ok (record { dim = dim; dtype = dtype; length = n }) ≡ vector_case f id buf) × (exit ≡ vector_after f id buf)
    unfolding read_of
    vector_read a = (sym (wrote (Ok n) a ∙ rw (found.dim-is, found.dtype-is)), after)

  part_length : length part ≡ len
  part_length =
      let r = part_room in
      let n = length-drop body f in
      length-take-le (body + len - body) (drop body f) (omega arith) ∙ omega arith

  held-width : 0 < width dtype
  held-width =
      let g : 0 < width found.place.line.dtype = (found_good part part_sound id found.place place_is).line.held in
      subst (λ (t : ℕ). 0 < width t) found.dtype-is g

  -- a component's value
  module _ (i : ℕ) where
    value_found : value_in f id i ≡ cond (ltb i dim) (Stored dtype (value_at found.link.payload found.place i)) (NoValue 8)
    unfolding value_in value_hit
    value_found = ap (value_hit i) found.hit ∙ rw (found.dim-is, found.dtype-is)

    pub value_past : dim ≤ i → PlacedValue f (value_in f id i) (Err NoVector)
    unfolding PlacedValue
    value_past h = value_found ∙ rw (le-ltb i dim h)

    module _ (h : i < dim) where
      room : ValueRoom (length part) offset count dim (width dtype) index i
      room = value_room (length part) offset count dim (width dtype) index i part_bounds h

      pub value_inside : (n : ℕ) → n ≡ width dtype → (i * count ≤ 4194304) × ((index < 4096) × (body + (offset + (i * count + index) * n) + n ≤ length f))
      value_inside n q =
          let r = room in
          let b = part_bounds in
          rw q (r.row, (omega (arith, b.index_in, b.most), omega (arith, r.from, part_length, part_room)))

      value-bytes : value_at found.link.payload found.place i ≡ take (width dtype) (drop (body + (offset + (i * count + index) * width dtype)) f)
      unfolding value_at
      value-bytes =
          let k : ℕ = offset + (i * count + index) * width dtype in
          let r : offset + (i * count + index) * width dtype + width dtype ≤ length part = room.from in
          let n : body + len - body ≡ len = omega arith in
          rw (found.offset_is, found.count_is, found.dtype-is, found.index_is, ← part-is)
          (part_front (offset + (i * count + index) * width dtype) (width dtype) (body + len - body) (drop body f) (omega (arith, part_length))
          ∙ ap (take (width dtype)) (drop-drop (offset + (i * count + index) * width dtype) body f))

      pub value_here : (n : ℕ) → n ≡ width dtype → PlacedValue f (value_in f id i) (Ok (record { at = body + (offset + (i * count + index) * n); dtype = dtype }))
      unfolding PlacedValue
      value_here n q =
          rw q
          (value_found ∙ rw (lt-ltb i dim h) (ap (Stored dtype) value-bytes), (held-width, (value_inside (width dtype) refl).1.1))

-- ---- a value's bytes as a component

le_of_one : (b : ℕ) → le_of (b ∷ []) ≡ b
unfolding le_of
le_of_one b = omega arith

-- bits by their two numbers
abbrev bits_by : ℕ → ℕ → Result ComponentBits ℕ
bits_by dtype bits = Ok (record { dtype = dtype; bits = bits })

module _ (f : List ℕ) (v : Value) (p : Result ValuePlace Refusal) (y : PlacedValue f v p) where
  pub lies_not : (r : Refusal) → p ≡ Err r → v ≡ NoValue (refusal_number r)
  unfolding PlacedValue
  lies_not r e = subst (PlacedValue f v) e y

  module _ (at dtype : ℕ) (e : p ≡ Ok (record { at = at; dtype = dtype })) where
    lies_at : (v ≡ Stored dtype (take (width dtype) (drop at f))) × ((0 < width dtype) × (at + width dtype ≤ length f))
    unfolding PlacedValue
    lies_at = subst (PlacedValue f v) e y

    pub value_room_at : (0 < width dtype) × (at + width dtype ≤ length f)
    value_room_at = lies_at.1

    pub component_is : (k : Component) → k ≡ component_of dtype (take (width dtype) (drop at f)) → Ok k ≡ component_case v
    unfolding component_case
    component_is k z = ap Ok z ∙ ap component_case (sym lies_at.0)

    pub four_wide : dtype ≡ 0 → at + 4 ≤ length f
    four_wide z = omega (arith, lies_at.1.1, width_f32 dtype z)

    pub bits_float : (b : ℕ) → dtype ≡ 0 → b ≡ le_at 4 f at → Ok (record { dtype = dtype; bits = b }) ≡ bits_case v
    unfolding bits_case
    bits_float b z k =
        ap (bits_by dtype) (k ∙ ap (λ (n : ℕ). le_of (take n (drop at f))) (width_f32 dtype z)) ∙ ap bits_case (sym lies_at.0)

    pub bits_byte : (dtype ≡ 0 → ⊥) → Ok (record { dtype = dtype; bits = get_or f at 0 }) ≡ bits_case v
    unfolding bits_case
    bits_byte n =
        let w : width dtype ≡ 1 = byte_wide dtype n lies_at.1.0 in
        let h : at < length f = omega (arith, lies_at.1.1) in
        let one : take 1 (drop at f) ≡ get_or f at 0 ∷ [] = ap (take 1) (drop-cons f at 0 h) in
        let z : le_of (take (width dtype) (drop at f)) ≡ get_or f at 0 = ap (λ (n : ℕ). le_of (take n (drop at f))) w ∙ ap le_of one ∙ le_of_one (get_or f at 0) in
        ap (bits_by dtype) (sym z) ∙ ap bits_case (sym lies_at.0)

pub component_not : (v : Value) (n : ℕ) → v ≡ NoValue n → (Err n ≡ component_case v) × (Err n ≡ bits_case v)
unfolding component_case bits_case
component_not v n e = rw e (refl, refl)
