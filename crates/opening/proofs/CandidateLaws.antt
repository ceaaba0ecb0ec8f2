-- The test of a link by the file alone, for a link by its number and the stored offsets.
-- Assumes nothing.
use Rattle.std.specs.Prelude.{ℕ, zero, suc, ◌+◌, ◌≤◌, ◌<◌, ◌≡◌, refl, Bool, List, [], ◌∷◌, ◌++◌, length, take, drop, get_or}
use Rattle.std.proofs.Common.{sym, ap, subst, ◌∙◌, arith, take-take, take_at, length-append, get_or-take}
use Rattle.std.proofs.lemmas.List.{get_or_at}
use Rattle.octets.specs.le.Le.{Bytes}
use Rattle.segment.specs.Header.{Link, id_at, kind_at, length_at}
use Rattle.segment.specs.Chained.{chain, offsets_of}
use Rattle.segment.specs.index.Offsets.{most, link_no, Stored}
use Rattle.segment.proofs.index.Offsets.{stored_few}
use Rattle.segment.specs.index.Numbered.{Numbered}
use Rattle.manifest.specs.Payload.{confirmed}
use Rattle.manifest.specs.At.{Inside}
use Rattle.confirm.specs.states.At.{confirmed_at}
use Rattle.confirm.proofs.states.Links.{before_inside, confirmed_at_is}

-- the offsets of some first links are the first offsets
first_some : (ls : List Link) (i : ℕ) → offsets_of (take i ls) ≡ take i (offsets_of ls)
first_some ls zero = refl
first_some [] (suc i) = refl
first_some (l ∷ ls) (suc i) = ap (λ (xs : List ℕ). l.offset ∷ xs) (first_some ls i)

-- and so are those of the first links of a chain whose offsets are stored
pub front_offsets : (f offsets : List ℕ) (n i : ℕ) → Stored f offsets n → i ≤ n → offsets_of (take i (chain f)) ≡ take i offsets
front_offsets f offsets n i s h =
    let at_most = stored_few f offsets n s in
    ap offsets_of (sym (take-take i most (chain f) (omega arith)))
    ∙ first_some (take most (chain f)) i
    ∙ ap (take i) (sym s.stored)
    ∙ take-take i n offsets h

-- of a link by its number, where the links before it begin at some offsets
module _ (f before : List ℕ) (i p : ℕ) (offsets_are : offsets_of (take i (chain f)) ≡ before) (m : Numbered f p i (link_no f i)) where
  pub before_lies : Inside f before
  before_lies = subst (Inside f) offsets_are (before_inside f p (take i (chain f)) (link_no f i) (drop (i + 1) (chain f)) m.placed)

  pub before_is : Bytes f → (r : Bool) (len kind id : ℕ) → len ≡ length_at f p → kind ≡ kind_at f p → id ≡ id_at f p
      → r ≡ confirmed_at f before p len kind id → r ≡ confirmed (take i (chain f)) (link_no f i)
  before_is t r len kind id el ek ei e =
      e
      ∙ ap (λ (x : ℕ). confirmed_at f before p x kind id) (el ∙ sym m.length_is)
      ∙ ap (λ (x : ℕ). confirmed_at f before p (length (link_no f i).payload) x id) (ek ∙ sym m.kind_is)
      ∙ ap (confirmed_at f before p (length (link_no f i).payload) (link_no f i).kind) (ei ∙ sym m.id_is)
      ∙ confirmed_at_is f p (take i (chain f)) (link_no f i) (drop (i + 1) (chain f)) m.placed before t offsets_are

-- of one whose number is below those that are stored
module _ (f offsets : List ℕ) (n i p : ℕ) (s : Stored f offsets n) (h : i < n) (m : Numbered f p i (link_no f i)) where
  offsets_are : offsets_of (take i (chain f)) ≡ take i offsets
  offsets_are = front_offsets f offsets n i s (omega arith)

  pub candidate_inside : Inside f (take i offsets)
  candidate_inside = before_lies f (take i offsets) i p offsets_are m

  pub candidate_is : Bytes f → (r : Bool) (len kind id : ℕ) → len ≡ length_at f p → kind ≡ kind_at f p → id ≡ id_at f p
      → r ≡ confirmed_at f (take i offsets) p len kind id → r ≡ confirmed (take i (chain f)) (link_no f i)
  candidate_is = before_is f (take i offsets) i p offsets_are m

-- the last of some first numbers, and those before it
pub record LastLeft (offsets before : List ℕ) (last k : ℕ) : Type 0 where
  pub count : k ≡ length before + 1
  pub last_is : get_or offsets (length before) 0 ≡ last
  pub before_are : before ≡ take (length before) offsets

pub last_left : (offsets left before : List ℕ) (last : ℕ) → left ≡ take (length left) offsets → left ≡ before ++ (last ∷ []) → length left ≤ length offsets
    → LastLeft offsets before last (length left)
last_left offsets left before last l e h =
    let n : length left ≡ length before + 1 = ap length e ∙ length-append before (last ∷ []) in
    let k : length before < length left = omega arith in
    record {
      count = n;
      last_is = sym (get_or-take (length left) offsets (length before) 0 k) ∙ ap (λ (xs : List ℕ). get_or xs (length before) 0) (sym l ∙ e) ∙ get_or_at before last [] 0 (length before) refl;
      before_are = sym (take_at before (last ∷ []) (length before) refl) ∙ ap (take (length before)) (sym e ∙ l) ∙ take-take (length before) (length left) offsets (omega arith);
    }
