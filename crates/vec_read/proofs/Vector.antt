-- A vector by its id out of a payload: the payload is checked whole first, 5, 6 or 7; then 8 where no block holds the id;
-- then 9 where the buffer is short; else the vector's bytes at the buffer's front.
-- Assumes nothing.
use Rattle.std.specs.Prelude.{ℕ, ◌*◌, length, Ok, Err, Some, None}
use Rattle.std.proofs.Math.Path.{◌≡◌, refl, sym, ap}
use Rattle.std.proofs.Common.{◌∙◌, arith}
use Rattle.std.proofs.Math.Option.{Option, none, some}
use Rattle.std.proofs.Math.Bool.{false}
use mathlib.Core.List.{List}
use borrow.Author.Tests.{ne_eqb}
use Rattle.answers.specs.Write.{write_answer, write_buffer}
use Rattle.vecseg.specs.Payload.{check_of, width, columns_length}
use Rattle.vecseg.proofs.LineLaws.{width_most}
use Rattle.vecseg.specs.Find.{Place, find_in, vector_of}
use Rattle.vecseg.proofs.FindLaws.{found_good}
use Rattle.vec_read.specs.walk.Walk.{place_read, searched_at, sum_of, found_up_to, walked_of}
use Rattle.vec_read.proofs.walk.WalkLaws.{was_bad, was_sound}
use Rattle.vec_read.specs.declared.walk.Place.{Place as PlaceRead}
use Rattle.vec_read.specs.declared.walk.Searched.{Searched}
use Rattle.vec_read.specs.values.Vector.{place_with, Bounds}
use Rattle.vec_read.proofs.values.Vector.{vector_with}
use Rattle.vecseg.specs.declared.Vector.{Vector}
use Rattle.vecseg.specs.Vector.{read_of, placed_buffer, vector_buffer, placed_of, vector_in}

-- ---- the ways out

module _ (s : List ℕ) (id : ℕ) (buf : List ℕ) where
  pub get_bad : (e : ℕ) → e ≡ check_of s → (e ≡ 0 → ⊥) → (Err e ≡ vector_in s id buf) × (buf ≡ vector_buffer s id buf)
  unfolding vector_in vector_buffer
  get_bad e p nz = rw (← p, ne_eqb e 0 nz) (refl, refl)

  module _ (ok : check_of s ≡ 0) where
    none_found : (o : Option Place) → place_read o ≡ None → o ≡ none
    none_found none e = refl
    none_found (some p) e = absurd (let z : ◌≡◌ {A = ℕ} 0 1 = cc in omega arith)

    pub get_missing : place_read (find_in s id) ≡ None → (Err 8 ≡ vector_in s id buf) × (buf ≡ vector_buffer s id buf)
    unfolding vector_in vector_buffer placed_of placed_buffer
    get_missing e = rw (ok, none_found (find_in s id) e) (refl, refl)

    module _ (p : PlaceRead) (e : place_read (find_in s id) ≡ Some p) where
      record Found' : Type 0 where
        place : Place
        found : find_in s id ≡ some place
        offset_is : place.line.offset ≡ p.offset
        count_is : place.line.count ≡ p.count
        dim-is : place.line.dim ≡ p.dim
        dtype-is : place.line.dtype ≡ p.dtype
        index_is : place.index ≡ p.index

      found : Found'
      found = pick (find_in s id) refl e
        where
          pick : (o : Option Place) → find_in s id ≡ o → place_read o ≡ Some p → Found'
          pick none q h = absurd (let z : ◌≡◌ {A = ℕ} 0 1 = cc in omega arith)
          pick (some w) q h =
              let r : record { offset = w.line.offset; count = w.line.count; dim = w.line.dim; dtype = w.line.dtype; index = w.index } ≡ p = cc in
              record {
                place = w;
                found = q;
                offset_is = ap (λ (x : PlaceRead). x.offset) r;
                count_is = ap (λ (x : PlaceRead). x.count) r;
                dim-is = ap (λ (x : PlaceRead). x.dim) r;
                dtype-is = ap (λ (x : PlaceRead). x.dtype) r;
                index_is = ap (λ (x : PlaceRead). x.index) r;
              }

      pub get_bounds : Bounds (length s) p.offset p.count p.dim (width p.dtype) p.index
      unfolding columns_length
      get_bounds =
          let w = found in
          let g = found_good s ok id w.place w.found in
          let c : w.place.line.count * w.place.line.dim * width w.place.line.dtype ≡ p.count * p.dim * width p.dtype = rw (w.count_is, w.dim-is, w.dtype-is) in
          record {
            most = omega (arith, g.line.most, w.count_is);
            at_most = omega (arith, g.line.at_most, w.dim-is);
            small = width_most p.dtype;
            room = omega (arith, g.room, w.offset_is, c);
            index_in = omega (arith, g.index_in, w.index_is, w.count_is);
          }

      same-vector : vector_of s (place_with p.offset p.count p.dim p.dtype p.index) ≡ vector_of s found.place
      same-vector =
          let w = found in
          sym (vector_with s w.place ∙ rw (w.offset_is, w.count_is, w.dim-is, w.dtype-is, w.index_is))

      to-place : (vector_in s id buf ≡ read_of found.place (write_answer 0 (vector_of s found.place) buf)) × (vector_buffer s id buf ≡ write_buffer 0 (vector_of s found.place) buf)
      unfolding vector_in vector_buffer placed_of placed_buffer
      to-place = rw (ok, found.found) (refl, refl)

      pub get_short : (n : ℕ) (exit : List ℕ) → write_answer 0 (vector_of s (place_with p.offset p.count p.dim p.dtype p.index)) buf ≡ Err n
          → exit ≡ write_buffer 0 (vector_of s (place_with p.offset p.count p.dim p.dtype p.index)) buf → (Err n ≡ vector_in s id buf) × (exit ≡ vector_buffer s id buf)
      unfolding read_of
      get_short n exit h q =
          let a : write_answer 0 (vector_of s found.place) buf ≡ Err n = rw same-vector at h in
          (sym (to-place.0 ∙ ap (read_of found.place) a), q ∙ ap (λ (v : List ℕ). write_buffer 0 v buf) same-vector ∙ sym to-place.1)

      pub get_read : (n : ℕ) (exit : List ℕ) → write_answer 0 (vector_of s (place_with p.offset p.count p.dim p.dtype p.index)) buf ≡ Ok n
          → exit ≡ write_buffer 0 (vector_of s (place_with p.offset p.count p.dim p.dtype p.index)) buf
          → (Ok (record { dim = p.dim; dtype = p.dtype; length = n }) ≡ vector_in s id buf) × (exit ≡ vector_buffer s id buf)
      unfolding read_of
      get_read n exit h q =
          let a : write_answer 0 (vector_of s found.place) buf ≡ Ok n = rw same-vector at h in
          let r : ◌≡◌ {A = Vector} (record { dim = found.place.line.dim; dtype = found.place.line.dtype; length = n }) (record { dim = p.dim; dtype = p.dtype; length = n }) =
          rw (found.dim-is, found.dtype-is) in
          (sym (ap Ok r) ∙ sym (to-place.0 ∙ ap (read_of found.place) a), q ∙ ap (λ (v : List ℕ). write_buffer 0 v buf) same-vector ∙ sym to-place.1)

-- ---- what the walk that looks for the id, and takes no checksum, says

module _ (s : List ℕ) (id : ℕ) where
  pub found_bad : (e : ℕ) → walked_of false s (Some id) ≡ Err e → (e ≡ check_of s) × (e ≡ 0 → ⊥)
  found_bad e p = was_bad false s (Some id) e p

  pub found_sound : (w : Searched) → walked_of false s (Some id) ≡ Ok w → (check_of s ≡ 0) × (searched_at 0 (find_in s id) ≡ w)
  unfolding sum_of found_up_to find_in
  found_sound w p = was_sound false s (Some id) w p

  pub found_place : (w : Searched) → walked_of false s (Some id) ≡ Ok w → (check_of s ≡ 0) × (place_read (find_in s id) ≡ w.place)
  unfolding searched_at
  found_place w p =
      let b = found_sound w p in
      (b.0, ap (λ (x : Searched). x.place) b.1)
