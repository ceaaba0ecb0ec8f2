-- The loop that marks: where it stands, and a law for each way out of a turn.
-- Assumes nothing.
use Rattle.std.specs.Prelude.{ℕ, suc, ◌+◌, ◌≤◌, ◌<◌, ◌≡◌, refl, Bool, true, false, cond, not, ◌&&◌, List, [], ◌∷◌, ◌++◌, eqb, length, take, drop, get_or, set}
use Rattle.std.proofs.Common.{sym, ap, ◌∙◌, add-one, arith, length-set, take-append-drop, take-suc, take_all, eq-eqb, ne_eqb}
use Rattle.std.proofs.Math.Bool.{and-false}
use Rattle.std.proofs.Math.Option.{none, some}
use Rattle.octets.specs.numbers.Numbers.{index_of}
use Rattle.manifest.specs.Payload.{manifest_kind}
use Rattle.batch.specs.Form.{member}
use Rattle.append.specs.retire.Marks.{retirable_by, retire_held_by, retired_by, Rises}
use Rattle.append.proofs.retire.Held.{held_snoc, held_fails}
use Rattle.append.proofs.retire.Members.{stands, lacks, retirable_lacks, retirable_stands, retired_stands, state_stands}

-- with no ids the states stay
retired_none : (ns ss : List ℕ) → length ss ≡ length ns → retired_by ns ss [] ≡ ss
unfolding retired_by member
retired_none [] [] h = refl
retired_none [] (s ∷ ss) h = absurd (omega arith)
retired_none (n ∷ ns) [] h = absurd (omega arith)
retired_none (n ∷ ns) (s ∷ ss) h = ap (λ (l : List ℕ). s ∷ l) (retired_none ns ss (omega arith))

-- j ids of the list are marked, and might be
pub record MarkAt (ns ks ss₀ ids ss : List ℕ) (j : ℕ) : Type 0 where
  pub at_most : j ≤ length ids
  pub same_length : length ss ≡ length ss₀
  pub held : retire_held_by ns ks ss₀ (take j ids) ≡ true
  pub marked : ss ≡ retired_by ns ss₀ (take j ids)

pub mark_first : (ns ks ss ids : List ℕ) → length ss ≡ length ns → MarkAt ns ks ss ids ss 0
unfolding retire_held_by
mark_first ns ks ss ids h = record { at_most = omega arith; same_length = refl; held = refl; marked = sym (retired_none ns ss h) }

module _ (ns ks ss₀ ids ss : List ℕ) (j : ℕ) (st : MarkAt ns ks ss₀ ids ss j) where
  -- the list is done
  pub mark_last : length ids ≤ j → true ≡ retire_held_by ns ks ss₀ ids
  mark_last h = sym (rw (take_all j ids h) at st.held)

  pub mark_states : length ids ≤ j → ss ≡ retired_by ns ss₀ ids
  mark_states h = rw (take_all j ids h) at st.marked

  module _ (h : j < length ids) where
    -- whether the next id may be retired too
    next-held : retire_held_by ns ks ss₀ (take j ids ++ get_or ids j 0 ∷ []) ≡ retirable_by ns ks ss₀ (get_or ids j 0) && not (member (get_or ids j 0) (take j ids))
    next-held = held_snoc ns ks ss₀ (take j ids) (get_or ids j 0) ∙ rw st.held

    next-fails : retirable_by ns ks ss₀ (get_or ids j 0) && not (member (get_or ids j 0) (take j ids)) ≡ false → false ≡ retire_held_by ns ks ss₀ ids
    next-fails e =
        let f : retire_held_by ns ks ss₀ (take (suc j) ids) ≡ false = rw (take-suc ids j 0 h) (next-held ∙ e) in
        sym (rw (take-append-drop (suc j) ids) at (held_fails ns ks ss₀ (take (suc j) ids) (drop (suc j) ids) f))

    -- an id that is not there
    pub mark_nowhere : index_of (get_or ids j 0) ns ≡ none → false ≡ retire_held_by ns ks ss₀ ids
    mark_nowhere e = next-fails (rw (retirable_lacks (lacks (get_or ids j 0) ns e) ks ss₀))

    module _ (r : Rises 0 ns) (i : ℕ) (e : index_of (get_or ids j 0) ns ≡ some i) where
      by_index : retirable_by ns ks ss₀ (get_or ids j 0) ≡ eqb (get_or ss₀ i 0) 0 && not (eqb (get_or ks i 0) manifest_kind)
      by_index = retirable_stands (stands (get_or ids j 0) ns i e) 0 r ks ss₀

      -- the state there, as the loop has it
      state-now : get_or ss i 0 ≡ cond (member (get_or ids j 0) (take j ids)) 1 (get_or ss₀ i 0)
      state-now = ap (λ (l : List ℕ). get_or l i 0) st.marked ∙ state_stands (stands (get_or ids j 0) ns i e) ss₀ (take j ids)

      -- the id of a manifest
      pub mark_manifest : get_or ks i 0 ≡ 0x05 → false ≡ retire_held_by ns ks ss₀ ids
      mark_manifest k = next-fails (rw (by_index, eq-eqb (get_or ks i 0) 0x05 k, and-false (eqb (get_or ss₀ i 0) 0)))

      -- an id that was retired before, or stands in the list for the second time
      pub mark_retired : (get_or ss i 0 ≡ 0 → ⊥) → false ≡ retire_held_by ns ks ss₀ ids
      mark_retired d = next-fails (pick (member (get_or ids j 0) (take j ids)) state-now)
        where
          pick : (t : Bool) → get_or ss i 0 ≡ cond t 1 (get_or ss₀ i 0) → retirable_by ns ks ss₀ (get_or ids j 0) && not t ≡ false
          pick true q = and-false (retirable_by ns ks ss₀ (get_or ids j 0))
          pick false q = rw (by_index, ne_eqb (get_or ss₀ i 0) 0 (λ z. d (q ∙ z)))

      -- an id that is live is marked
      pub mark_next : (get_or ks i 0 ≡ 0x05 → ⊥) → get_or ss i 0 ≡ 0 → MarkAt ns ks ss₀ ids (set ss i 1) (j + 1)
      mark_next k z =
          record {
            at_most = omega arith;
            same_length = length-set ss i 1 ∙ st.same_length;
            held = rw (add-one, take-suc ids j 0 h) (next-held ∙ pick (member (get_or ids j 0) (take j ids)) state-now);
            marked =
                rw (add-one, take-suc ids j 0 h)
                (ap (λ (l : List ℕ). set l i 1) st.marked ∙ sym (retired_stands (stands (get_or ids j 0) ns i e) 0 r ss₀ (take j ids)));
          }
        where
          pick : (t : Bool) → get_or ss i 0 ≡ cond t 1 (get_or ss₀ i 0) → retirable_by ns ks ss₀ (get_or ids j 0) && not t ≡ true
          pick true q = absurd (omega arith)
          pick false q = rw (by_index, eq-eqb (get_or ss₀ i 0) 0 (sym q ∙ z), ne_eqb (get_or ks i 0) 0x05 k)
