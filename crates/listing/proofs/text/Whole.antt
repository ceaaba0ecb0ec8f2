-- The laws of specs/text/Whole.antt.
-- Assumes nothing.
use Rattle.std.specs.Prelude.{ℕ, ◌+◌, ◌≤◌, ◌<◌, ◌≡◌, List, ◌++◌, take}
use Rattle.std.proofs.Math.Path.{refl, sym, ap}
use Rattle.std.proofs.Common.{ap₂, subst, ◌∙◌, append_assoc, zero-add, le-leb}
use Rattle.std.proofs.Math.Option.{some}
use native.Mathlib.Omega.{arith}
use Rattle.std.proofs.Math.ListN.{length}
use Rattle.std.proofs.lemmas.Bool.{lt-leb}
use Rattle.octets.specs.Over.{over}
use Rattle.octets.proofs.OverLaws.{over_at}
use Rattle.octets.specs.le.Le.{Bytes}
use Rattle.answers.specs.Write.{write_answer, write_buffer}
use Rattle.answers.proofs.WriteLaws.{write_short, write_done}
use Rattle.std.specs.Prelude.{Result, Ok, Err}
use Rattle.manifest.specs.declared.Opened.{Opened}
use Rattle.segment.specs.chain.Chain.{Found}
use Rattle.segment.specs.Header.{Link}
use Rattle.std.proofs.Math.Option.{Option}
use Rattle.answers.specs.limits.Limits.{max_file, max_entries}
use Rattle.octets.specs.text.Text.{ascii, decimal}
use Rattle.octets.specs.text.Written.{Written}
use Rattle.octets.proofs.text.Written.{same_room, then}
use Rattle.segment.specs.index.Offsets.{most}
use Rattle.manifest.specs.Opening.{opened, tried, opened_case, found_case}
use Rattle.manifest.proofs.OpeningLaws.{at_within}
use Rattle.manifest.specs.declared.Opened.TheVariants as ops
use Rattle.opening.specs.Indexed.{ManifestAt, Indexed}
use Rattle.opening.proofs.Indexed.{opened_at, opened_end, manifest_numbered, manifest_part, manifest_room}
use Rattle.opening.specs.FileManifest.{manifest_of}
use Rattle.opening.proofs.FileManifestLaws.{refused_alike}
use Rattle.reading.specs.Listing.{max_listed, heading, refused_line, end_line, list_found, list_with, list_text}
use Rattle.listing.specs.line.Lines.{text_line_at}
use Rattle.listing.proofs.line.Lines.{line_at}
use Rattle.listing.specs.entries.Entries.{entry_lines}
use Rattle.segment.specs.Header.{length_at}
use Rattle.listing.specs.text.Whole.{OpensAt}

end_pieces : (end t : ℕ) → (ascii "end " ++ (decimal end ++ ascii " tried ")) ++ (decimal t ++ ascii "\n") ≡ end_line end t
unfolding end_line
end_pieces end t = simp append_assoc

module _ (f offsets : List ℕ) (offset end count t : ℕ) (b : Bytes f) (s : Indexed f offsets) (has_room : most ≤ length offsets) (o : OpensAt f offset end count t) where
  abbrev pub m : ManifestAt f offset count
  m = opened_at f offset end o.0 count t o.1

  -- the manifest's segment lies in the file, and its entries are few
  pub list_room : (offset + (64 + length_at f offset) ≤ length f) × (count ≤ max_entries)
  list_room = ((manifest_part f offsets offset count b s has_room m).0, (manifest_room f offsets offset count b s has_room m).1)

  tried-is : tried f (some m.found) ≡ t
  unfolding opened_case found_case
  tried-is =
      let q : ◌≡◌ {A = Result Opened ℕ} (Ok (found_case f (some m.found))) (Ok (ops.At offset end o.0 count t)) =
      ap (λ (x : Option (Found Link)). Ok (found_case f x)) (sym m.opens) ∙ sym (at_within (Err 1) (λ (x : Option (Found Link)). Ok (found_case f x)) f m.within) ∙ o.1 in
      cc

  -- the text of a file that opens
  list-is : heading ++ (entry_lines (opened f) ++ (text_line_at f offset (ascii "manifest") ++ end_line end t)) ≡ list_found (tried f (opened f)) (opened f)
  unfolding list_found entry_lines
  list-is =
      rw (
        m.opens,
        line_at f offset (length m.found.before) m.found.link (ascii "manifest") (manifest_numbered f offsets offset count b s has_room m),
        (opened_end f offset end o.0 count t o.1).0,
        tried-is,
      )

  pub list_written : {t₀ t₁ t₂ t₃ t₄ t₅ : List ℕ} {p₁ p₂ p₃ p₄ p₅ : ℕ} → Written t₀ t₁ 0 heading p₁ → Written t₁ t₂ p₁ (entry_lines (opened f)) p₂
      → Written t₂ t₃ p₂ (text_line_at f offset (ascii "manifest")) p₃ → Written t₃ t₄ p₃ (ascii "end " ++ (decimal end ++ ascii " tried ")) p₄
      → Written t₄ t₅ p₄ (decimal t ++ ascii "\n") p₅ → Written t₀ t₅ 0 (list_found (tried f (opened f)) (opened f)) p₅
  list_written {t₀} {t₅ = t₅} {p₅ = p₅} w x y z u =
      subst (λ (xs : List ℕ). Written t₀ t₅ 0 xs p₅)
      (ap (λ (xs : List ℕ). heading ++ (entry_lines (opened f) ++ (text_line_at f offset (ascii "manifest") ++ xs))) (end_pieces end t) ∙ list-is)
      (then w (then x (then y (then z u))))

module _ (f : List ℕ) where
  -- above the lister's limit
  pub list_long : max_listed < length f → list_text f ≡ refused_line 1
  unfolding list_text list_with
  list_long h = rw (lt-leb (length f) max_listed h)

  pub list_within : length f ≤ max_listed → list_text f ≡ list_found (tried f (opened f)) (opened f)
  unfolding list_text list_with
  list_within h = rw (le-leb (length f) max_listed h)

  -- a file without a manifest; none above opening's own limit is within the lister's
  pub list_refused : (n : ℕ) → length f ≤ max_listed → manifest_of (opened_case f) ≡ Err n → list_text f ≡ refused_line n
  unfolding list_found
  list_refused n h e =
      let w : length f ≤ max_file = omega arith in
      let t = tried f (opened f) in
      list_within h ∙ sym (at_within (refused_line 1) (list_found t) f w) ∙ sym (refused_alike refused_line (list_found t) f n refl e)

  -- what is written is the text: of a file that opens, and of a refusal
  pub found_written : {t₀ t : List ℕ} {end : ℕ} → length f ≤ max_listed → Written t₀ t 0 (list_found (tried f (opened f)) (opened f)) end → Written t₀ t 0 (list_text f) end
  found_written h w = rw (list_within h) w

  pub refused_written : {t₀ t : List ℕ} {end : ℕ} (n : ℕ) → list_text f ≡ refused_line n → Written t₀ t 0 (ascii "refused " ++ (decimal n ++ ascii "\n")) end
      → Written t₀ t 0 (list_text f) end
  unfolding refused_line
  refused_written n e w = rw e w

-- ---- the text at the front of a buffer

module _ {t₀ t : List ℕ} {xs : List ℕ} {n : ℕ} (w : Written t₀ t 0 xs n) where
  pub text_length : n ≡ length xs
  text_length = w.ends ∙ zero-add (length xs)

  text-front : take n t ≡ xs
  text-front = ap₂ take text_length w.holds ∙ over_at t₀ 0 xs (omega arith)

  pub front_length : n ≡ length (take n t)
  front_length = text_length ∙ sym (ap length text-front)

  pub front_within : n ≤ length t
  front_within =
      let s = same_room w in
      omega (arith, w.ends, w.room)

  pub text_short : (buf : List ℕ) → length buf < n → (Err 9 ≡ write_answer 0 xs buf) × (buf ≡ write_buffer 0 xs buf)
  text_short buf h = write_short xs buf 0 refl (omega (arith, text_length))

  pub text_copied : (buf exit : List ℕ) → n ≤ length buf → exit ≡ over buf 0 (take n t) → (Ok n ≡ write_answer 0 xs buf) × (exit ≡ write_buffer 0 xs buf)
  text_copied buf exit h e = write_done xs buf 0 n exit refl (omega (arith, text_length)) text_length (e ∙ ap (over buf 0) text-front)
