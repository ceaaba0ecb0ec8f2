-- What an append writes is read back: its bytes are exactly the links of the bodies and of the manifest.
-- Assumes nothing.
use Prim.Native.Nat.{ℕ, zero, suc, ◌+◌, ◌^◌, ◌≤◌, ◌<◌}
use Rattle.std.specs.Prelude.{◌≡◌, refl, true, false, ◌&&◌, eqb, leb, take, drop, get_or}
use Rattle.std.proofs.Common.{ap, ◌∙◌}
use mathlib.Core.List.{List, [], ◌∷◌}
use native.Mathlib.Omega.{arith}
use Rattle.std.proofs.Math.ListN.{length, length-append}
use Rattle.octets.specs.le.Le.{le_at}
use Rattle.std.proofs.lemmas.Bool.{not-true}
use Rattle.octets.specs.Round.{round64}
use Rattle.octets.proofs.RoundLaws.{round64_ge}
use Rattle.octets.specs.Zero.{all_zero}
use Rattle.octets.proofs.ZeroLaws.{and_split}
use Rattle.answers.specs.limits.Limits.{max_bodies, max_batch}
use Rattle.segment.specs.chain.Chain.{All}
use Rattle.segment.specs.chain.Laws.{afters}
use Rattle.segment.proofs.chain.Laws.{Exact, done, exact_append}
use Rattle.segment.specs.Header.{Link, reader, size, type_held, flags_held}
use Rattle.segment.proofs.Laws.{segment_format, flags_fit}
use Rattle.segment.specs.Written.{segment, link_of}
use Rattle.segment.proofs.WrittenLaws.{link_of_size, segment_length, hash_length}
use Rattle.segment.proofs.Readback.{Fields, segment_exact}
use Rattle.manifest.specs.Payload.{manifest_kind, confirmed}
use Rattle.manifest.proofs.PayloadLaws.{Hashed}
use Rattle.batch.specs.Form.{Body, line_held, line_length, line_size, lines_held, body_kind_held, body_count, bodies_at, batch_held, bodies_from, bodies_of}
use Rattle.appending.specs.Append.{body_size, body_links, body_bytes, bodies_end}

-- ---- the bodies of a batch of the form

pub record BodyHeld (b : Body) : Type 0 where
  pub kind_held : type_held b.kind ≡ true
  pub no_manifest : eqb b.kind manifest_kind ≡ false
  pub flags_are_held : flags_held b.flags ≡ true

line_body : (at : ℕ) (x s : List ℕ) → line_held at x ≡ true → BodyHeld (record { kind = get_or x 0 0; flags = le_at 2 x 2; payload = s })
unfolding line_held body_kind_held
line_body at x s e =
    let zeros = and_split _ _ e in
    let place = and_split _ _ zeros.0 in
    let flags = and_split _ _ place.0 in
    let kinds = and_split _ _ (and_split _ _ flags.0).0 in
    record { kind_held = (and_split _ _ kinds.0).0; no_manifest = not-true (eqb (get_or x 0 0) manifest_kind) kinds.1; flags_are_held = flags.1 }

lines_bodies : (n at : ℕ) (lines : List ℕ) (end : ℕ) (s : List ℕ) → lines_held n at lines end ≡ true → All BodyHeld (bodies_from n at lines s)
unfolding lines_held bodies_from All
lines_bodies zero at lines end s e = tt
lines_bodies (suc n) at lines end s e =
    let a = and_split _ _ e in
    (line_body at lines _ a.0, lines_bodies n (at + line_length lines) (drop line_size lines) end s a.1)

pub bodies_held : (batch : List ℕ) → batch_held batch ≡ true → All BodyHeld (bodies_of batch)
unfolding batch_held bodies_of
bodies_held batch e =
    let lines =
    and_split (leb line_size (length batch) && leb (length batch) max_batch && leb (body_count batch) max_bodies && all_zero (take 12 (drop 4 batch)) && leb (bodies_at (body_count batch))
    (length batch)) _ e in
    lines_bodies (body_count batch) (bodies_at (body_count batch)) (drop line_size batch) (length batch) batch lines.1

-- ---- the bodies as links

-- where they end is not before where they begin
pub bodies_end_ge : (at : ℕ) (bs : List Body) → at ≤ bodies_end at bs
unfolding bodies_end
bodies_end_ge at [] = omega arith
bodies_end_ge at (b ∷ bs) = let h = bodies_end_ge (at + body_size b) bs in omega arith

pub body_links_length : (at id ts : ℕ) (bs : List Body) → length (body_links at id ts bs) ≡ length bs
unfolding body_links
body_links_length at id ts [] = refl
body_links_length at id ts (b ∷ bs) = ap suc (body_links_length (at + body_size b) (id + 1) ts bs)

module _ (ts : ℕ) where
  pub bodies_exact : ts < 2 ^ 64 → (at id : ℕ) (bs : List Body) → All BodyHeld bs → id + length bs < 2 ^ 64 → bodies_end at bs < 2 ^ 64
      → Exact reader (record { at = at; least = id }) (body_links at id ts bs) (body_bytes id ts bs)
  unfolding All body_links body_bytes bodies_end afters link_of
  bodies_exact ts-fits at id [] t h k = done
  bodies_exact ts-fits at id (b ∷ bs) t h k =
      let r : length b.payload ≤ round64 (length b.payload) = round64_ge (length b.payload) in
      let g : at + body_size b ≤ bodies_end (at + body_size b) bs = bodies_end_ge (at + body_size b) bs in
      let f : Fields id b.kind b.flags id ts b.payload =
      record {
        kind_held = t.0.kind_held;
        flags_are_held = t.0.flags_are_held;
        flags_fit = flags_fit b.flags t.0.flags_are_held;
        id_above = omega arith;
        id_fits = omega arith;
        timestamp_fits = ts-fits;
        length_fits = omega arith;
      } in
      let n : size (link_of at b.kind b.flags id ts b.payload) ≡ body_size b = link_of_size at b.kind b.flags id ts b.payload in
      exact_append reader segment_format {ms = body_links (at + body_size b) (id + 1) ts bs}
      (segment_exact (record { at = at; least = id }) b.kind b.flags id ts b.payload f)
      (rw n (bodies_exact ts-fits (at + body_size b) (id + 1) bs t.1 (omega arith) (omega arith)))

  pub afters_bodies : (at id : ℕ) (bs : List Body)
      → afters reader (record { at = at; least = id }) (body_links at id ts bs) ≡ record { at = bodies_end at bs; least = id + length bs }
  unfolding afters body_links bodies_end size link_of
  afters_bodies at id [] = let e : id + 0 ≡ id = omega arith in rw e
  afters_bodies at id (b ∷ bs) =
      let e : id + 1 + length bs ≡ id + suc (length bs) = omega arith in
      afters_bodies (at + body_size b) (id + 1) bs ∙ rw e

  pub bodies_length : (at id : ℕ) (bs : List Body) → at + length (body_bytes id ts bs) ≡ bodies_end at bs
  unfolding body_bytes bodies_end
  bodies_length at id [] = omega arith
  bodies_length at id (b ∷ bs) =
      let n = length-append (segment b.kind b.flags id ts b.payload) (body_bytes (id + 1) ts bs) in
      let k = segment_length b.kind b.flags id ts b.payload in
      omega (arith, bodies_length (at + body_size b) (id + 1) bs)

  -- no body is a confirmed manifest, whatever stands before it
  pub bodies_never : (at id : ℕ) (bs : List Body) → All BodyHeld bs → All (λ l. (q : List Link) → confirmed q l ≡ false) (body_links at id ts bs)
  unfolding All body_links confirmed link_of
  bodies_never at id [] t = tt
  bodies_never at id (b ∷ bs) t = ((λ q. rw t.0.no_manifest), bodies_never (at + body_size b) (id + 1) bs t.1)

-- each has the sixteen bytes of its hash
pub bodies_hashed : (at id ts : ℕ) (bs : List Body) → All Hashed (body_links at id ts bs)
unfolding All body_links link_of
bodies_hashed at id ts [] = tt
bodies_hashed at id ts (b ∷ bs) = (hash_length b.payload, bodies_hashed (at + body_size b) (id + 1) ts bs)
