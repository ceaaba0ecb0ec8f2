-- The steps of the test: the states read off a payload, each state held, and the ways out.
-- Assumes nothing.
use Rattle.std.specs.Prelude.{ℕ, suc, ◌+◌, ◌-◌, ◌*◌, ◌≤◌, ◌<◌, ◌≡◌, refl, true, false, ◌&&◌, List, [], ◌++◌, take, drop, get_or, set}
use Rattle.std.proofs.Math.Path.{sym, ap}
use Rattle.std.proofs.Common.{◌∙◌, add-one, append-nil, zero-add, arith, length-set, length-drop, drop_of_length-le, get_or-drop, length-take-le, ne_eqb, le-leb}
use Rattle.std.proofs.Math.Bool.{Bool, and-false, and-true}
use Rattle.std.proofs.Math.ListN.{length}
use Rattle.std.proofs.Math.Seq.{drop-cons}
use Rattle.std.proofs.Math.Dec.{eqb, leb}
use Rattle.std.proofs.lemmas.Bool.{lt-leb}
use Rattle.octets.specs.Over.{over}
use Rattle.octets.proofs.OverLaws.{over_none, over_front}
use Rattle.octets.proofs.Parts.{laid_front}
use Rattle.octets.specs.Round.{round64}
use Rattle.octets.specs.Zero.{same_bytes}
use Rattle.octets.proofs.ZeroLaws.{same_equal, same_length}
use Rattle.answers.specs.limits.Limits.{max_entries}
use Rattle.crc32c.specs.Crc.{crc_of}
use Rattle.segment.specs.Step.{whole_at}
use Rattle.manifest.specs.Sized.{record_by, states_by}
use Rattle.manifest.proofs.SizedLaws.{length_states_by, states_by_more}
use Rattle.manifest.specs.Payload.{manifest_kind, entry_size, states_in, payload_length, entries_end}
use Rattle.manifest.specs.At.{Inside, payload_at}
use Rattle.manifest.proofs.At.{length_payload_at, record_ge}
use Rattle.confirm.specs.payload.Sum.{Rooted}
use Rattle.confirm.proofs.payload.Sum.{payload_rooted}
use Rattle.confirm.specs.states.At.{state_of, states_held_at, payload_in, states_read_at, confirmed_at}
use Rattle.segment.specs.Header.{kind_at}

-- ---- the states, read off a payload

-- i states are read
pub record StatesRead (s₀ s payload : List ℕ) (n i : ℕ) : Type 0 where
  pub at_most : i ≤ n
  pub same_length : length s ≡ length s₀
  pub laid : s ≡ over s₀ 0 (states_in i (drop 8 payload))

pub read_first : (s payload : List ℕ) (n : ℕ) → StatesRead s s payload n 0
unfolding states_by
read_first s payload n = record { at_most = omega arith; same_length = refl; laid = sym (over_none s 0) }

pub read_next : (s₀ s payload : List ℕ) (n i : ℕ) → StatesRead s₀ s payload n i → i < n → n ≤ length s₀
    → StatesRead s₀ (set s i (get_or payload (entries_end i + 41) 0)) payload n (i + 1)
read_next s₀ s payload n i st h k =
    let g : get_or payload (entries_end i + 41) 0 ≡ get_or (drop 8 payload) (entry_size * i + 41) 0 =
    ap (λ (j : ℕ). get_or payload j 0) (omega arith) ∙ sym (get_or-drop 8 payload (entry_size * i + 41) 0) in
    record {
      at_most = omega arith;
      same_length = length-set s i (get_or payload (entries_end i + 41) 0) ∙ st.same_length;
      laid =
          ap (set s i) g
          ∙ rw (add-one, states_by_more entry_size i (drop 8 payload))
          (over_front s₀ s (states_in i (drop 8 payload)) i (get_or (drop 8 payload) (entry_size * i + 41) 0) st.laid (length_states_by entry_size i (drop 8 payload)) (omega arith));
    }

pub read_last : (s₀ s payload : List ℕ) (n i : ℕ) → StatesRead s₀ s payload n i → n ≤ i → s ≡ over s₀ 0 (states_in n (drop 8 payload))
read_last s₀ s payload n i st h =
    let at_most = st.at_most in
    let e : i ≡ n = omega arith in
    rw e at st.laid

-- the states laid over the front of a list are laid over the list
pub read_front : (s₀ s payload : List ℕ) (n : ℕ) → n ≤ length s₀ → s ≡ over (take n s₀) 0 (states_in n (drop 8 payload))
    → s ++ drop n s₀ ≡ over s₀ 0 (states_in n (drop 8 payload))
unfolding over
read_front s₀ s payload n h e =
    let k : length (states_in n (drop 8 payload)) ≡ n = length_states_by entry_size n (drop 8 payload) in
    let z : drop n (take n s₀) ≡ [] = drop_of_length-le (take n s₀) {i = n} (omega (arith, length-take-le n s₀ h)) in
    rw (e, zero-add, k, z, append-nil)

-- ---- each state held

-- the first i states are
pub record HeldAt (f os ss : List ℕ) (i : ℕ) : Type 0 where
  pub at_most : i ≤ length os
  pub rest : states_held_at f os ss ≡ states_held_at f (drop i os) (drop i ss)

module _ (f os ss : List ℕ) (same : length ss ≡ length os) where
  pub held_first : HeldAt f os ss 0
  held_first = record { at_most = omega arith; rest = refl }

  module _ (i : ℕ) (st : HeldAt f os ss i) where
    turn : i < length os
        → states_held_at f os ss ≡ state_of (kind_at f (get_or os i 0)) (get_or ss i 0) && states_held_at f (drop (suc i) os) (drop (suc i) ss)
    unfolding states_held_at
    turn h = st.rest ∙ rw (drop-cons os i 0 h, drop-cons ss i 0 (omega arith))

    pub held_stop : i < length os → state_of (kind_at f (get_or os i 0)) (get_or ss i 0) ≡ false → false ≡ states_held_at f os ss
    held_stop h e = sym (turn h ∙ rw e)

    pub held_next : i < length os → state_of (kind_at f (get_or os i 0)) (get_or ss i 0) ≡ true → HeldAt f os ss (i + 1)
    held_next h e = record { at_most = omega arith; rest = rw add-one (turn h ∙ rw e) }

    pub held_last : length os ≤ i → true ≡ states_held_at f os ss
    unfolding states_held_at
    held_last h = sym (st.rest ∙ rw (drop_of_length-le os {i = i} h))

-- ---- the ways out

module _ (f os : List ℕ) (at len id : ℕ) where
  pub other_kind : (kind : ℕ) → (kind ≡ 5 → ⊥) → false ≡ confirmed_at f os at len kind id
  unfolding confirmed_at
  other_kind kind h = rw (ne_eqb kind 5 h)

  pub too_many : (kind : ℕ) → 1024 < length os → false ≡ confirmed_at f os at len kind id
  unfolding confirmed_at
  too_many kind h = rw (lt-leb (length os) 1024 h, and-false)

  payload_length_is : at + (64 + len) ≤ length f → length (payload_in f at len) ≡ len
  payload_length_is h = length-take-le len (drop (at + 64) f) (omega (arith, length-drop (at + 64) f))

  -- a payload that is not as long as it must be
  pub other_length : (kind : ℕ) → at + (64 + len) ≤ length f → Inside f os → (len ≡ payload_length (length os) → ⊥) → false ≡ confirmed_at f os at len kind id
  unfolding confirmed_at
  other_length kind h t n =
      let a = payload_length_is h in
      let b = length_payload_at f os (states_read_at f os at len) at id t in
      let held = states_held_at f os (states_read_at f os at len) in
      let rest : Bool = eqb kind manifest_kind && leb (length os) max_entries && whole_at f at len && held in
      sym
      (ap (λ (same : Bool). rest && same) (same_length (payload_in f at len) (payload_at f os (states_read_at f os at len) at id) (λ e. n (sym a ∙ e ∙ b)))
      ∙ and-false rest)

  pub not_held : states_held_at f os (states_read_at f os at len) ≡ false → false ≡ confirmed_at f os at len 5 id
  unfolding confirmed_at
  not_held h = rw (h, and-false)

  -- the payload is not the one that is written anew
  pub other_payload : same_bytes (payload_in f at len) (payload_at f os (states_read_at f os at len) at id) ≡ false → false ≡ confirmed_at f os at len 5 id
  unfolding confirmed_at
  other_payload h = rw (h, and-false)

  -- it is, and the hash is left
  pub by_hash : (r : Bool) → length os ≤ 1024 → states_held_at f os (states_read_at f os at len) ≡ true
      → same_bytes (payload_in f at len) (payload_at f os (states_read_at f os at len) at id) ≡ true → r ≡ whole_at f at len → r ≡ confirmed_at f os at len 5 id
  unfolding confirmed_at
  by_hash r n h e w = w ∙ rw (le-leb (length os) 1024 n, h, e) (sym (and-true (whole_at f at len && true) ∙ and-true (whole_at f at len)))

-- the states that were read stand at the front of their array
pub states_front : (s₀ s payload : List ℕ) (n : ℕ) → s ≡ over s₀ 0 (states_in n (drop 8 payload)) → take n s ≡ states_in n (drop 8 payload)
states_front s₀ s payload n p = laid_front s s₀ (states_in n (drop 8 payload)) n p (length_states_by entry_size n (drop 8 payload))

-- and so does the payload that was written
pub payload_front : (buf b f os ss : List ℕ) (at len id : ℕ) → Inside f os → len ≡ payload_length (length os) → b ≡ over buf 0 (payload_at f os ss at id)
    → take len b ≡ payload_at f os ss at id
payload_front buf b f os ss at len id t e p = laid_front b buf (payload_at f os ss at id) len p (length_payload_at f os ss at id t ∙ sym e)

-- ---- the payload as the function has it: a part of the file

part_is : (f : List ℕ) (at len : ℕ) → take (at + 64 + len - (at + 64)) (drop (at + 64) f) ≡ payload_in f at len
part_is f at len = let e : at + 64 + len - (at + 64) ≡ len = omega arith in ap (λ (k : ℕ). take k (drop (at + 64) f)) e

-- a payload ends at a multiple of 64
pub payload_aligned : (c : ℕ) → round64 (payload_length c) ≡ payload_length c
unfolding payload_length record_by round64
payload_aligned c = omega arith

module _ (f os : List ℕ) (at len : ℕ) where
  -- it has room for the entries
  pub part_room : at + (64 + len) ≤ length f → len ≡ payload_length (length os) → 8 + entry_size * length os ≤ length (take (at + 64 + len - (at + 64)) (drop (at + 64) f))
  unfolding payload_length
  part_room h e =
      let n : length (take (at + 64 + len - (at + 64)) (drop (at + 64) f)) ≡ len = ap length (part_is f at len) ∙ payload_length_is f os at len 0 h in
      omega (arith, record_ge (length os))

  pub states_are : (s₀ s : List ℕ) → s ≡ over s₀ 0 (states_in (length os) (drop 8 (take (at + 64 + len - (at + 64)) (drop (at + 64) f))))
      → take (length os) s ≡ states_read_at f os at len
  states_are s₀ s p =
      states_front s₀ s (take (at + 64 + len - (at + 64)) (drop (at + 64) f)) (length os) p ∙ ap (λ (x : List ℕ). states_in (length os) (drop 8 x)) (part_is f at len)

  pub compared : (buf b ss : List ℕ) (id : ℕ) (r : Bool) → Inside f os → len ≡ payload_length (length os) → ss ≡ states_read_at f os at len
      → b ≡ over buf 0 (payload_at f os ss at id) → r ≡ same_bytes (take (at + 64 + len - (at + 64)) (drop (at + 64) f)) (take len b)
      → r ≡ same_bytes (payload_in f at len) (payload_at f os (states_read_at f os at len) at id)
  compared buf b ss id r t e s p q =
      q
      ∙ ap (λ (x : List ℕ). same_bytes x (take len b)) (part_is f at len)
      ∙ ap (same_bytes (payload_in f at len)) (payload_front buf b f os ss at len id t e p ∙ ap (λ (x : List ℕ). payload_at f os x at id) s)

  -- the same by the states as they were read
  pub held_read : (s₀ s : List ℕ) (r : Bool) → s ≡ over s₀ 0 (states_in (length os) (drop 8 (take (at + 64 + len - (at + 64)) (drop (at + 64) f))))
      → r ≡ states_held_at f os (take (length os) s) → states_held_at f os (states_read_at f os at len) ≡ r
  held_read s₀ s r p h = ap (states_held_at f os) (sym (states_are s₀ s p)) ∙ sym h

  pub compared_read : (s₀ s buf b : List ℕ) (id : ℕ) (r : Bool) → Inside f os → len ≡ payload_length (length os)
      → s ≡ over s₀ 0 (states_in (length os) (drop 8 (take (at + 64 + len - (at + 64)) (drop (at + 64) f))))
      → b ≡ over buf 0 (payload_at f os (take (length os) s) at id) → r ≡ same_bytes (take (at + 64 + len - (at + 64)) (drop (at + 64) f)) (take len b)
      → same_bytes (payload_in f at len) (payload_at f os (states_read_at f os at len) at id) ≡ r
  compared_read s₀ s buf b id r t e p q h = sym (compared buf b (take (length os) s) id r t e (states_are s₀ s p) q h)

  -- it ends with a root where it is the one that is written anew, and the hash is of its checksum
  pub part_rooted : (id : ℕ) → same_bytes (payload_in f at len) (payload_at f os (states_read_at f os at len) at id) ≡ true
      → Rooted (take (at + 64 + len - (at + 64)) (drop (at + 64) f))
  part_rooted id e = payload_rooted _ f os (states_read_at f os at len) at id (part_is f at len ∙ same_equal _ _ e)

  pub part_sum : (sum : ℕ) → sum ≡ crc_of (take (at + 64 + len - (at + 64)) (drop (at + 64) f)) → sum ≡ crc_of (payload_in f at len)
  part_sum sum e = e ∙ ap crc_of (part_is f at len)
