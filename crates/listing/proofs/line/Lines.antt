-- The laws of specs/line/Lines.antt.
-- Assumes nothing.
use Rattle.std.specs.Prelude.{ℕ, suc, ◌≡◌, Bool, true, false, List, [], ◌∷◌, ◌++◌, length, drop, get_or}
use Rattle.std.proofs.Common.{ap, subst, ◌∙◌, append-nil, append_assoc, arith, get_or-drop, eq-eqb, ne_eqb}
use Rattle.octets.specs.text.Text.{ascii}
use Rattle.octets.specs.text.Written.{Written}
use Rattle.octets.proofs.text.Written.{then}
use Rattle.segment.specs.Header.{Link, id_at, kind_at, length_at}
use Rattle.segment.specs.Step.{whole_at}
use Rattle.segment.specs.index.Numbered.{Numbered}
use Rattle.reading.specs.Listing.{column, check_word, line, segment_line, state_word, lines_of}
use Rattle.listing.specs.line.Lines.{text_line_at}

pub line_at : (f : List ℕ) (p i : ℕ) (l : Link) (word : List ℕ) → Numbered f p i l → text_line_at f p word ≡ segment_line l word
unfolding text_line_at segment_line
line_at f p i l word n = rw (n.whole_is, n.id_is, n.kind_is, n.offset_is, n.length_is)

-- its pieces, written one behind the other: two columns, two more, the word, the check
module _ (f : List ℕ) (p : ℕ) (word : List ℕ) (id kind len : ℕ) (ok : Bool) (id_is : id ≡ id_at f p) (kind_is : kind ≡ kind_at f p) (long-is : len ≡ length_at f p) (ok-is : ok ≡ whole_at f p len) where
  pieces : (column id ++ column kind) ++ ((column p ++ column len) ++ (word ++ check_word ok)) ≡ text_line_at f p word
  unfolding text_line_at line
  pieces = rw (← long-is, ← ok-is, ← id_is, ← kind_is) (simp append_assoc)

  pub line_written : {t₀ t₁ t₂ t₃ t₄ : List ℕ} {at a b d e : ℕ} → Written t₀ t₁ at (column id ++ column kind) a → Written t₁ t₂ a (column p ++ column len) b
      → Written t₂ t₃ b word d → Written t₃ t₄ d (check_word ok) e → Written t₀ t₄ at (text_line_at f p word) e
  line_written {t₀} {t₁} {t₂} {t₃} {t₄} {at} {a} {b} {d} {e} w x y z = subst (λ (xs : List ℕ). Written t₀ t₄ at xs e) pieces (then w (then x (then y z)))

-- one entry more
pub lines_append : (ls : List Link) (l : Link) (ss : List ℕ) → lines_of (ls ++ l ∷ []) ss ≡ lines_of ls ss ++ segment_line l (state_word (get_or ss (length ls) 0))
unfolding lines_of
lines_append [] l ss = append-nil (segment_line l (state_word (get_or ss 0 0)))
lines_append (x ∷ xs) l ss =
    let e : get_or (drop 1 ss) (length xs) 0 ≡ get_or ss (suc (length xs)) 0 = get_or-drop 1 ss (length xs) 0 ∙ ap (λ (k : ℕ). get_or ss k 0) (omega arith) in
    rw (lines_append xs l (drop 1 ss), e, append_assoc)

-- the check's word in either case
pub check_ok : {t₀ t₁ : List ℕ} {at end : ℕ} (ok : Bool) → ok ≡ true → Written t₀ t₁ at (ascii " ok\n") end → Written t₀ t₁ at (check_word ok) end
unfolding check_word
check_ok ok e w = rw e w

pub check_bad : {t₀ t₁ : List ℕ} {at end : ℕ} (ok : Bool) → ok ≡ false → Written t₀ t₁ at (ascii " bad\n") end → Written t₀ t₁ at (check_word ok) end
unfolding check_word
check_bad ok e w = rw e w

-- and the state's
module _ (f : List ℕ) (p state : ℕ) {t₀ t₁ : List ℕ} {at end : ℕ} where
  pub state_live : state ≡ 0 → Written t₀ t₁ at (text_line_at f p (ascii "live")) end → Written t₀ t₁ at (text_line_at f p (state_word state)) end
  unfolding state_word
  state_live e w = rw (eq-eqb state 0 e) w

  pub state_retired : (state ≡ 0 → ⊥) → Written t₀ t₁ at (text_line_at f p (ascii "retired")) end → Written t₀ t₁ at (text_line_at f p (state_word state)) end
  unfolding state_word
  state_retired n w = rw (ne_eqb state 0 n) w
