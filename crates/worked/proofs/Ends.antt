-- The worked ends of document 01's appends: an empty batch on an empty file, a body of 100 bytes instead, and an empty batch after it. Ends and
-- offsets come by the segments' sizes; no checksum is computed.
-- Assumes nothing.
use Rattle.std.specs.Prelude.{ℕ, ◌+◌, ◌^◌, ◌≤◌, ◌<◌, ◌≡◌, true, length, take}
use Rattle.std.proofs.Math.Path.{refl, sym, ap}
use Rattle.std.proofs.Common.{◌∙◌, arith, length-take-le}
use Rattle.std.proofs.Math.Option.{Option, none}
use mathlib.Core.List.{List, [], ◌∷◌}
use Rattle.octets.specs.Round.{round64}
use Rattle.octets.specs.Zero.{all_zero}
use Rattle.octets.specs.le.Le.{le_of}
use Rattle.answers.specs.Answer.{Accepted}
use Rattle.segment.specs.chain.Chain.{walk, walk_f, Found, up_to, last_confirmed, open_of, scan}
use Rattle.segment.specs.Header.{Link, type_held, type_reserved, flags_held}
use Rattle.manifest.specs.Sized.{record_by}
use Rattle.manifest.specs.Payload.{payload_length}
use Rattle.manifest.specs.Opening.{opened}
use Rattle.vecseg.specs.Payload.{first_of}
use Rattle.batch.specs.Form.{Body, body_kind_held, line_held, lines_held, body_count, batch_held, bodies_from, bodies_of}
use Rattle.appending.specs.Retire.{retire_held}
use Rattle.appending.specs.Append.{kept_links, start_of, next_id, old_links, old_states, bodies_end, manifest_at, manifest_id, new_count, new_end, vectors_bad, answer_on, append_answer, Appends}
use Rattle.appending.proofs.Accepts.{Fits, accepts}
use Rattle.appending.proofs.Opens.{file_with}
use Rattle.appending.proofs.Buffer.{AppendedBy, appended, file_is, next_start, next_next, next_count}
use Rattle.worked.specs.Batches.{no_bodies, one_body}

-- to unfold this is to unfold what the line names
open_batch : Unit {0}
unfolding le_of all_zero type_held type_reserved flags_held body_kind_held line_held lines_held body_count batch_held bodies_from bodies_of
open_batch = tt

nothing_opens : opened [] ≡ none
unfolding opened open_of walk walk_f last_confirmed scan
nothing_opens = refl

no_bodies_none : bodies_of no_bodies ≡ []
unfolding open_batch
no_bodies_none = refl

no_bodies_held : batch_held no_bodies ≡ true
unfolding open_batch
no_bodies_held = refl

-- ---- on an empty file

open_ends : Unit {0}
unfolding start_of next_id bodies_end manifest_at manifest_id new_count new_end payload_length record_by round64 up_to old_links old_states retire_held vectors_bad first_of
open_ends = tt

-- an empty file: what opening finds in no bytes
from_nothing : (old batch ids : List ℕ) → append_answer old 0 batch ids ≡ answer_on (length old) 0 none batch ids
unfolding append_answer
from_nothing old batch ids = ap (λ (o : Option (Found Link)). answer_on (length old) 0 o batch ids) nothing_opens

pub empty_end : (old : List ℕ) → 4224 ≤ length old → append_answer old 0 no_bodies [] ≡ Accepted (4224 ∷ 0 ∷ 0 ∷ [])
unfolding open_ends
empty_end old h =
    let e : new_end none (bodies_of no_bodies) ≡ 4224 = ap (new_end none) no_bodies_none in
    let i : manifest_id none (bodies_of no_bodies) ≡ 0 = ap (manifest_id none) no_bodies_none in
    let c : new_count none (bodies_of no_bodies) ≡ 0 = ap (new_count none) no_bodies_none in
    from_nothing old no_bodies []
    ∙ accepts (length old) 0 none no_bodies []
    (record {
      in_buffer = omega arith;
      in_limit = omega arith;
      starts_empty = λ z. refl;
      batch_is_held = no_bodies_held;
      vectors_good = ap vectors_bad no_bodies_none;
      retire_is_held = refl;
      count_fits = omega arith;
      id_fits = omega arith;
      end_limit = omega arith;
      end_room = omega arith;
    })
    ∙ rw (e, i)

-- ---- a body of 100 bytes instead

module _ (body : List ℕ) (length_is : length body ≡ 100) where
  whole_length : length (one_body body) ≡ 132
  whole_length = omega arith

  one-body : bodies_of (one_body body) ≡ record { kind = 7; flags = 0; payload = take 100 body } ∷ []
  unfolding open_batch
  one-body = refl

  one-body-held : batch_held (one_body body) ≡ true
  unfolding open_batch
  one-body-held = rw whole_length

  payload-long : length (take 100 body) ≡ 100
  payload-long = length-take-le 100 body (omega arith)

  abbrev bodies : List Body
  bodies = bodies_of (one_body body)

  -- where the manifest stands
  pub manifest_place : manifest_at none bodies ≡ 192
  unfolding open_ends
  manifest_place = ap (manifest_at none) one-body ∙ rw payload-long

  end-place : new_end none bodies ≡ 4416
  unfolding open_ends
  end-place = ap (new_end none) one-body ∙ rw payload-long

  id_is : manifest_id none bodies ≡ 1
  unfolding open_ends
  id_is = ap (manifest_id none) one-body

  count_is : new_count none bodies ≡ 1
  unfolding open_ends
  count_is = ap (new_count none) one-body

  vectors-none : vectors_bad bodies ≡ 0
  unfolding open_ends
  vectors-none = ap vectors_bad one-body

  nothing-retired : retire_held (old_links none) (old_states none) [] ≡ true
  unfolding open_ends
  nothing-retired = refl

  fits : (room : ℕ) → 4416 ≤ room → Fits room 0 none (one_body body) []
  fits room h =
      record {
        in_buffer = omega arith;
        in_limit = omega arith;
        starts_empty = λ z. refl;
        batch_is_held = one-body-held;
        vectors_good = vectors-none;
        retire_is_held = nothing-retired;
        count_fits = omega (arith, count_is);
        id_fits = omega (arith, id_is);
        end_limit = omega (arith, end-place);
        end_room = omega (arith, end-place);
      }

  pub body_end : (old : List ℕ) → 4416 ≤ length old → append_answer old 0 (one_body body) [] ≡ Accepted (4416 ∷ 1 ∷ 1 ∷ [])
  body_end old h =
      from_nothing old (one_body body) []
      ∙ accepts (length old) 0 none (one_body body) [] (fits (length old) h)
      ∙ rw (end-place, id_is, count_is)

  -- ---- and an empty batch after it

  module _ (ts : ℕ) (h : ts < 2 ^ 64) (old new vs : List ℕ) (a : Appends old 0 (one_body body) [] ts (Accepted vs) new) where
    w : AppendedBy [] old (one_body body) [] ts vs new
    w = appended [] old (one_body body) [] ts (λ l. refl) vs new a

    -- the file after the first call
    abbrev file : List ℕ
    file = take 4416 new

    first-end : new_end (opened []) bodies ≡ 4416
    first-end = ap (λ (o : Option (Found Link)). new_end o bodies) nothing_opens ∙ end-place

    file-with : file ≡ file_with [] bodies [] ts
    file-with = ap (λ (n : ℕ). take n new) (sym first-end) ∙ file_is [] old (one_body body) [] ts vs new w

    start_is : start_of (opened file) ≡ 4416
    start_is =
        ap (λ (x : List ℕ). start_of (opened x)) file-with
        ∙ next_start [] (length old) 0 (one_body body) [] ts h w.fits
        ∙ first-end

    next_is : next_id (opened file) ≡ 2
    next_is =
        ap (λ (x : List ℕ). next_id (opened x)) file-with
        ∙ next_next [] (length old) 0 (one_body body) [] ts h w.fits
        ∙ ap (λ (o : Option (Found Link)). manifest_id o bodies + 1) nothing_opens
        ∙ ap (λ (n : ℕ). n + 1) id_is

    kept_is : length (kept_links (opened file)) ≡ 2
    kept_is =
        ap (λ (x : List ℕ). length (kept_links (opened x))) file-with
        ∙ next_count [] (length old) 0 (one_body body) [] ts h w.fits
        ∙ ap (λ (o : Option (Found Link)). new_count o bodies + 1) nothing_opens
        ∙ ap (λ (n : ℕ). n + 1) count_is

    then-end : new_end (opened file) (bodies_of no_bodies) ≡ 8704
    unfolding new_end manifest_at new_count bodies_end payload_length record_by round64
    then-end = ap (new_end (opened file)) no_bodies_none ∙ rw (start_is, kept_is)

    then_id : manifest_id (opened file) (bodies_of no_bodies) ≡ 2
    unfolding manifest_id
    then_id = ap (manifest_id (opened file)) no_bodies_none ∙ rw next_is

    then-count : new_count (opened file) (bodies_of no_bodies) ≡ 2
    unfolding new_count
    then-count = ap (new_count (opened file)) no_bodies_none ∙ rw kept_is

    not-nothing : (o : Option (Found Link)) → start_of o ≡ 4416 → o ≡ none → ◌≡◌ {A = ℕ} 4416 0
    unfolding start_of
    not-nothing o e z = sym e ∙ ap start_of z

    no-ids : (ls : List Link) (ss : List ℕ) → retire_held ls ss [] ≡ true
    unfolding retire_held
    no-ids ls ss = refl

    pub then_empty : (old₂ : List ℕ) → 8704 ≤ length old₂ → take 4416 old₂ ≡ take 4416 new → append_answer old₂ 4416 no_bodies [] ≡ Accepted (8704 ∷ 2 ∷ 2 ∷ [])
    unfolding append_answer vectors_bad
    then_empty old₂ l e =
        ap (λ (x : List ℕ). answer_on (length old₂) 4416 (opened x) no_bodies []) e
        ∙ accepts (length old₂) 4416 (opened file) no_bodies []
        (record {
          in_buffer = omega arith;
          in_limit = omega arith;
          starts_empty = not-nothing (opened file) start_is;
          batch_is_held = no_bodies_held;
          vectors_good = ap vectors_bad no_bodies_none;
          retire_is_held = no-ids (old_links (opened file)) (old_states (opened file));
          count_fits = omega (arith, then-count);
          id_fits = omega (arith, then_id);
          end_limit = omega (arith, then-end);
          end_room = omega (arith, then-end);
        })
        ∙ rw (then-end, then_id, then-count)
