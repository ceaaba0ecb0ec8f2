-- For links that lie in the file, what is copied at their offsets is their segments, and each comes to stand where the fresh file's link has it. So
-- the file by the old one and the offsets is the fresh file.
-- Assumes nothing.
use Rattle.std.specs.Prelude.{ℕ, zero, suc, ◌+◌, ◌≤◌, ◌≡◌, refl, take, drop, replicate}
use Rattle.std.proofs.Common.{sym, subst, ◌∙◌, arith, length-drop, drop-drop}
use Rattle.std.proofs.Math.Path.{ap, ap₂}
use Rattle.std.proofs.Math.Option.{some}
use mathlib.Core.List.{List, [], ◌∷◌, ◌++◌, append-nil}
use Rattle.std.proofs.Math.ListN.{length, length-map}
use Rattle.octets.specs.Round.{round64}
use Rattle.octets.specs.le.Le.{le_of, Bytes}
use Rattle.octets.proofs.le.Laws.{bytes_take, bytes_drop, bytes_append}
use Rattle.segment.specs.chain.Chain.{All, Found}
use Rattle.segment.specs.Header.{Link, size}
use Rattle.segment.proofs.Laws.{lies, size_least}
use Rattle.segment.specs.Chained.{offsets_of}
use Rattle.segment.specs.Written.{segment}
use Rattle.manifest.specs.Payload.{manifest_kind, manifest_payload}
use Rattle.manifest.specs.Opening.{opened}
use Rattle.manifest.specs.At.{payload_at}
use Rattle.manifest.proofs.Lying.{Lying, payload_lying, chain_lying}
use Rattle.compacting.specs.Compact.{copied, segments_of, moved_to, moved_from, fresh_payload, fresh_file, damaged}
use Rattle.compacting.proofs.Fresh.{copied_lying, unchanged, fresh_chain}
use Rattle.compact.specs.copies.Copies.{size_in, Standing, copy_at, copies_at, places_at, file_at}
use Rattle.compact.proofs.copies.CopyLaws.{copy_length}

-- ---- one link

-- its header says its size, and it ends in the file
lying_size : (f : List ℕ) (l : Link) → Lying f l → (size_in f l.offset ≡ size l) × (l.offset + size l ≤ length f)
unfolding size
lying_size f l h =
    let y = lies h.state (drop l.offset f) l h.reads in
    let n : length l.payload ≡ _ = y.length_is ∙ ap (λ (s : List ℕ). le_of (take 8 s)) (drop-drop 0x10 l.offset f) in
    (ap (λ (k : ℕ). 64 + round64 k) (sym n), omega (arith, y.fits, size_least l, length-drop l.offset f))

-- ---- some links

pub links_standing : (f : List ℕ) (ls : List Link) → All (Lying f) ls → Standing f (offsets_of ls)
unfolding All
links_standing f [] h i k = absurd (omega arith)
links_standing f (l ∷ ls) h zero k = let y = lying_size f l h.0 in omega (arith, y)
links_standing f (l ∷ ls) h (suc i) k = links_standing f ls h.1 i (omega arith)

pub links_copied : (f : List ℕ) (ls : List Link) → All (Lying f) ls
    → All (λ l. segment l.kind l.flags l.id l.timestamp l.payload ≡ take (size l) (drop l.offset f)) ls → copies_at f (offsets_of ls) ≡ segments_of ls
unfolding All copies_at copy_at segments_of
links_copied f [] h u = refl
links_copied f (l ∷ ls) h u =
    ap₂ ◌++◌ (ap (λ (n : ℕ). take n (drop l.offset f)) (lying_size f l h.0).0 ∙ sym u.0) (links_copied f ls h.1 u.1)

pub links_placed : (f : List ℕ) (at : ℕ) (ls : List Link) → All (Lying f) ls → places_at f at (offsets_of ls) ≡ offsets_of (moved_from at ls)
unfolding All places_at moved_from moved_to
links_placed f at [] h = refl
links_placed f at (l ∷ ls) h =
    let y = lying_size f l h.0 in
    let n : length (copy_at f l.offset) ≡ size l = copy_length f l.offset (omega (arith, y)) ∙ y.0 in
    ap (λ (xs : List ℕ). at ∷ xs) (ap (λ (k : ℕ). places_at f (at + k) (offsets_of ls)) n ∙ links_placed f (at + size l) ls h.1)

bytes_copies : (f os : List ℕ) → Bytes f → Bytes (copies_at f os)
unfolding copies_at copy_at
bytes_copies f [] t = λ i. omega arith
bytes_copies f (o ∷ os) t = bytes_append (copy_at f o) (copies_at f os) (bytes_take (size_in f o) (drop o f) (bytes_drop o f t)) (bytes_copies f os t)

-- ---- the fresh file

module _ (f : List ℕ) (r : Found Link) (t : Bytes f) (e : opened f ≡ some r) (w : damaged (copied r) ≡ 0) (os : List ℕ) (o : os ≡ offsets_of (copied r)) where
  y : All (Lying f) (copied r)
  y = copied_lying f r t e

  copies : copies_at f os ≡ segments_of (copied r)
  copies = ap (copies_at f) o ∙ links_copied f (copied r) y (unchanged f r t e w)

  places : places_at f 0 os ≡ offsets_of (moved_from 0 (copied r))
  places = ap (places_at f 0) o ∙ links_placed f 0 (copied r) y

  pub fresh_standing : Standing f os
  fresh_standing = rw o (links_standing f (copied r) y)

  pub fresh_end : length (copies_at f os) ≡ length (segments_of (copied r))
  fresh_end = ap length copies

  payload : (ss : List ℕ) (at id : ℕ) → payload_at (copies_at f os) (places_at f 0 os) ss at id ≡ manifest_payload (moved_from 0 (copied r)) ss at id
  payload ss at id =
      ap₂ (λ (x p : List ℕ). payload_at x p ss at id) copies places
      ∙ payload_lying (segments_of (copied r)) (moved_from 0 (copied r)) ss at id (subst Bytes copies (bytes_copies f os t))
      (chain_lying (segments_of (copied r)) (moved_from 0 (copied r)) [] (fresh_chain f r t e w ∙ sym (append-nil (moved_from 0 (copied r)))))

  pub fresh_file_is : (at id ts : ℕ) → at ≡ length (segments_of (copied r)) → id ≡ r.link.id → ts ≡ r.link.timestamp → file_at f os at id ts ≡ fresh_file r
  unfolding file_at fresh_file fresh_payload
  fresh_file_is at id ts a i s =
      let n : length os ≡ length (copied r) = ap length o ∙ length-map (copied r) (λ (l : Link). l.offset) in
      ap₂ (λ (x p : List ℕ). x ++ segment manifest_kind 0 id ts p) copies (payload (replicate (length os) 0) at id)
      ∙ rw (n, a, i, s)
