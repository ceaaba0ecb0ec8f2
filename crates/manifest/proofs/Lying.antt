-- The payload by the file alone is the manifest's payload for links that stand in the file, and the links of the chain do.
-- Assumes nothing.
use Rattle.std.specs.Prelude.{ℕ, zero, suc, ◌+◌, ◌-◌, ◌≤◌, ◌≡◌, List, [], ◌∷◌, ◌++◌, length, take, drop, get_or}
use Rattle.std.proofs.Common.{sym, ap, subst, ◌∙◌, append_assoc, arith, length-drop, drop-drop, take-add, get_or-drop}
use Rattle.std.proofs.Math.Option.{some}
use Rattle.std.proofs.lemmas.List.{length-map}
use Rattle.octets.specs.le.Le.{le_at, le_bytes, Bytes}
use Rattle.octets.proofs.le.Laws.{bytes_drop, le_back}
use Rattle.segment.specs.chain.Chain.{All, walk}
use Rattle.segment.proofs.chain.Laws.{all_map}
use Rattle.segment.proofs.chain.Walk.{walk_cons}
use Rattle.segment.specs.Header.{Link, State, reader, link_at, size, after, kind_at}
use Rattle.segment.specs.Laws.{link_front}
use Rattle.segment.proofs.Laws.{segment_format, LinkRead, lies, size_least}
use Rattle.segment.specs.Chained.{chain, offsets_of}
use Rattle.manifest.proofs.SizedLaws.{entries_of_same}
use Rattle.manifest.specs.Payload.{entry_bytes, entries, record_bytes, manifest_payload}
use Rattle.manifest.specs.At.{Inside, entry_at, entries_at, record_head, fill, payload_at}

-- a link is read from the file at its own offset
pub record Lying (f : List ℕ) (l : Link) : Type 0 where
  pub state : State
  pub at_is : state.at ≡ l.offset
  pub reads : link_at state (drop l.offset f) ≡ some l

-- ---- one entry

-- an entry by the fields of a link
abbrev entry_with : ℕ → ℕ → ℕ → List ℕ → ℕ → ℕ → ℕ → List ℕ
entry_with offset id len hash kind flags state =
    le_bytes 8 offset ++ (le_bytes 8 id ++ (le_bytes 8 len ++ (hash ++ ((kind ∷ state ∷ []) ++ (le_bytes 2 flags ++ le_bytes 4 0)))))

entry_same : (offset id len kind flags state offset' id' len' kind' flags' : ℕ) (hash hash' : List ℕ) → offset ≡ offset' → id ≡ id' → len ≡ len' → hash ≡ hash'
    → kind ≡ kind' → flags ≡ flags' → entry_with offset id len hash kind flags state ≡ entry_with offset' id' len' hash' kind' flags' state
entry_same offset id len kind flags state offset' id' len' kind' flags' hash hash' e₁ e₂ e₃ e₄ e₅ e₆ = rw (e₁, e₂, e₃, e₄, e₅, e₆)

-- the fields that stand in a header, as the file has them
header_entry : (f : List ℕ) (o state : ℕ) → Bytes f → o + 64 ≤ length f
    → entry_with o (le_at 8 (drop o f) 0x08) (le_at 8 (drop o f) 0x10) (take 16 (drop 0x28 (drop o f))) (get_or (drop o f) 0x05 0) (le_at 2 (drop o f) 0x06) state ≡ entry_at f o state
unfolding entry_at
header_entry f o state t h =
    let s = drop o f in
    let b : Bytes (drop o f) = bytes_drop o f t in
    let n : length (drop o f) ≡ length f - o = length-drop o f in
    let two : take 16 (drop 0x08 (drop o f)) ≡ take 8 (drop 0x08 (drop o f)) ++ take 8 (drop 0x10 (drop o f)) =
    take-add 8 8 (drop 0x08 (drop o f)) ∙ rw (drop-drop 8 0x08 (drop o f)) in
    let ids : le_bytes 8 (le_at 8 (drop o f) 0x08) ++ le_bytes 8 (le_at 8 (drop o f) 0x10) ≡ take 16 (drop (o + 0x08) f) =
    ap (λ (x : List ℕ). x ++ le_bytes 8 (le_at 8 (drop o f) 0x10)) (le_back (drop o f) 8 0x08 b (omega arith))
    ∙ ap (λ (x : List ℕ). take 8 (drop 0x08 (drop o f)) ++ x) (le_back (drop o f) 8 0x10 b (omega arith))
    ∙ sym two
    ∙ ap (take 16) (drop-drop 0x08 o f) in
    let hash : take 16 (drop 0x28 (drop o f)) ≡ take 16 (drop (o + 0x28) f) = ap (take 16) (drop-drop 0x28 o f) in
    let kind : get_or (drop o f) 0x05 0 ≡ kind_at f o = get_or-drop o f 0x05 0 in
    let flags : le_bytes 2 (le_at 2 (drop o f) 0x06) ≡ take 2 (drop (o + 0x06) f) = le_back (drop o f) 2 0x06 b (omega arith) ∙ ap (take 2) (drop-drop 0x06 o f) in
    ap (λ (x : List ℕ). le_bytes 8 o ++ x)
    (sym (append_assoc (le_bytes 8 (le_at 8 (drop o f) 0x08)) (le_bytes 8 (le_at 8 (drop o f) 0x10)) _)
    ∙ ap (λ (x : List ℕ). x ++ (take 16 (drop 0x28 (drop o f)) ++ ((get_or (drop o f) 0x05 0 ∷ state ∷ []) ++ (le_bytes 2 (le_at 2 (drop o f) 0x06) ++ le_bytes 4 0)))) ids
    ∙ ap (λ (x : List ℕ). take 16 (drop (o + 0x08) f) ++ (x ++ ((get_or (drop o f) 0x05 0 ∷ state ∷ []) ++ (le_bytes 2 (le_at 2 (drop o f) 0x06) ++ le_bytes 4 0)))) hash
    ∙ ap (λ (k : ℕ). take 16 (drop (o + 0x08) f) ++ (take 16 (drop (o + 0x28) f) ++ ((k ∷ state ∷ []) ++ (le_bytes 2 (le_at 2 (drop o f) 0x06) ++ le_bytes 4 0)))) kind
    ∙ ap (λ (x : List ℕ). take 16 (drop (o + 0x08) f) ++ (take 16 (drop (o + 0x28) f) ++ ((kind_at f o ∷ state ∷ []) ++ (x ++ le_bytes 4 0)))) flags)

-- the entry made of the header at a place is that of the link that is read there
pub link_entry : (f : List ℕ) (st : State) (o : ℕ) (l : Link) (state : ℕ) → Bytes f → st.at ≡ o → link_at st (drop o f) ≡ some l → entry_at f o state ≡ entry_bytes l state
unfolding entry_bytes link_front
link_entry f st o l state t a e =
    let y : LinkRead st (drop o f) l = lies st (drop o f) l e in
    let r = y.fits in
    let z = size_least l in
    let n = length-drop o f in
    sym
    (entry_same _ _ _ _ _ state _ _ _ _ _ _ _
    (ap (λ (l : Link). l.offset) y.link_is ∙ a)
    (ap (λ (l : Link). l.id) y.link_is)
    y.length_is
    (ap (λ (l : Link). l.hash) y.link_is)
    (ap (λ (l : Link). l.kind) y.link_is)
    (ap (λ (l : Link). l.flags) y.link_is)
    ∙ header_entry f o state t (omega arith))

-- ---- entries and payload

pub lying_room : (f : List ℕ) (l : Link) → Lying f l → l.offset + 64 ≤ length f
lying_room f l h =
    let y = lies h.state (drop l.offset f) l h.reads in
    let r = y.fits in
    let z = size_least l in
    let n = length-drop l.offset f in
    omega arith

pub lying_inside : (f : List ℕ) (ls : List Link) → All (Lying f) ls → Inside f (offsets_of ls)
unfolding All
lying_inside f [] h i k = absurd (omega arith)
lying_inside f (l ∷ ls) h zero k = lying_room f l h.0
lying_inside f (l ∷ ls) h (suc i) k = lying_inside f ls h.1 i (omega arith)

-- an entry copied from the file is that of the link
all_entries : (f : List ℕ) (ls : List Link) → Bytes f → All (Lying f) ls → All (λ l. (s : ℕ) → entry_at f l.offset s ≡ entry_bytes l s) ls
all_entries f ls t h = all_map (Lying f) _ (λ l y s. link_entry f y.state l.offset l s t y.at_is y.reads) ls h

pub entries_lying : (f : List ℕ) (ls : List Link) (ss : List ℕ) → Bytes f → All (Lying f) ls → entries_at f (offsets_of ls) ss ≡ entries ls ss
entries_lying f ls ss t h = entries_of_same (entry_at f) entry_bytes (λ l. l.offset) ls ss (all_entries f ls t h)

pub payload_lying : (f : List ℕ) (ls : List Link) (ss : List ℕ) (offset id : ℕ) → Bytes f → All (Lying f) ls
    → payload_at f (offsets_of ls) ss offset id ≡ manifest_payload ls ss offset id
unfolding payload_at manifest_payload record_bytes record_head fill
payload_lying f ls ss offset id t h = rw (length-map ls (λ l. l.offset), entries_lying f ls ss t h) (simp append_assoc)

-- ---- the links of the chain

lying_from : (f : List ℕ) (ls zs : List Link) (st : State) → walk reader st (drop st.at f) ≡ ls ++ zs → All (Lying f) ls
unfolding All link_front
lying_from f [] zs st e = tt
lying_from f (l ∷ ls) zs st e =
    let p = walk_cons reader segment_format (drop st.at f) e in
    let off : l.offset ≡ st.at = ap (λ (l : Link). l.offset) (lies st (drop st.at f) l p.0).link_is in (
      record { state = st; at_is = sym off; reads = subst (λ (n : ℕ). link_at st (drop n f) ≡ some l) (sym off) p.0 },
      lying_from f ls zs (after st l) (subst (λ (x : List ℕ). walk reader (after st l) x ≡ ls ++ zs) (drop-drop (size l) st.at f) p.1),
    )

pub chain_lying : (f : List ℕ) (b z : List Link) → chain f ≡ b ++ z → All (Lying f) b
chain_lying f b z e = lying_from f b z (record { at = 0; least = 0 }) e
