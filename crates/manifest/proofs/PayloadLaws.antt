-- A manifest's payload as it is written: its length, the states read back off it, and what is known of a confirmed one.
-- Assumes nothing.
use Prim.Native.Nat.{ℕ, ◌+◌, ◌-◌, ◌*◌, ◌≤◌}
use Rattle.std.specs.Prelude.{◌≡◌, refl, Bool, true, false, cond, ◌&&◌, eqb, leb, drop, get_or}
use Rattle.std.proofs.Math.Path.{ap}
use Rattle.std.proofs.Common.{◌∙◌, arith, length-append, length-drop, get_or-append-add, length-take-le, eqb-true, leb-true}
use mathlib.Core.List.{List, [], ◌∷◌, ◌++◌, append_assoc}
use Rattle.std.proofs.Math.ListN.{length, replicate}
use Rattle.std.proofs.lemmas.List.{length-replicate}
use Rattle.octets.specs.Round.{round64}
use Rattle.octets.specs.Zero.{same_bytes}
use Rattle.octets.proofs.ZeroLaws.{and_split, same_equal}
use Rattle.octets.specs.le.Le.{le_bytes}
use Rattle.segment.specs.chain.Chain.{All}
use Rattle.segment.proofs.chain.Laws.{all_map}
use Rattle.answers.specs.limits.Limits.{max_entries}
use Rattle.segment.specs.Header.{Link, whole}
use Rattle.segment.specs.Laws.{link_front}
use Rattle.segment.proofs.Laws.{LinkRead, lies, size_least}
use Rattle.segment.specs.Chained.{chain}
use Rattle.manifest.specs.Sized.{record_by}
use Rattle.manifest.proofs.SizedLaws.{length_entries_of, states_by_entries}
use Rattle.manifest.specs.Payload.{manifest_kind, entry_size, entries_end, entry_bytes, entries, record_end, record_bytes, root}
use Rattle.manifest.specs.Payload.{payload_length, manifest_payload, states_in, state_held, states_held, confirmed}
use Rattle.manifest.proofs.At.{record_ge, length_root}
use Rattle.manifest.proofs.Lying.{Lying, chain_lying}

-- ---- links whose hash has its sixteen bytes

abbrev pub Hashed : Link → Type 0
Hashed l = length l.hash ≡ 16

pub lying_hashed : (f : List ℕ) (l : Link) → Lying f l → Hashed l
unfolding link_front
lying_hashed f l y =
    let z : LinkRead y.state (drop l.offset f) l = lies y.state (drop l.offset f) l y.reads in
    let s : List ℕ = drop l.offset f in
    let fits = z.fits in
    let least = size_least l in
    let n = length-drop 0x28 (drop l.offset f) in
    ap (λ (x : Link). length x.hash) z.link_is ∙ length-take-le 16 (drop 0x28 (drop l.offset f)) (omega arith)

pub chain_hashed : (f : List ℕ) (b z : List Link) → chain f ≡ b ++ z → All Hashed b
chain_hashed f b z e = all_map (Lying f) Hashed (lying_hashed f) b (chain_lying f b z e)

-- ---- an entry

entry_written : (l : Link) → Hashed l → (s : ℕ) → (length (entry_bytes l s) ≡ entry_size) × (get_or (entry_bytes l s) 41 0 ≡ s)
unfolding entry_bytes le_bytes
entry_written l h s =
    let e : length l.hash + 1 ≡ 17 = omega arith in
    let g : get_or (l.hash ++ (l.kind ∷ s ∷ (le_bytes 2 l.flags ++ le_bytes 4 0))) 17 0 ≡ s = rw e at (get_or-append-add l.hash (l.kind ∷ s ∷ (le_bytes 2 l.flags ++ le_bytes 4 0)) 1 0) in
    (simp length-append (omega arith), g)

all_written : (ls : List Link) → All Hashed ls → All (λ l. (s : ℕ) → (length (entry_bytes l s) ≡ entry_size) × (get_or (entry_bytes l s) 41 0 ≡ s)) ls
all_written = all_map Hashed _ entry_written

all_long : (ls : List Link) → All Hashed ls → All (λ l. (s : ℕ) → length (entry_bytes l s) ≡ entry_size) ls
all_long = all_map Hashed _ (λ l h s. (entry_written l h s).0)

-- ---- the payload

module _ (ls : List Link) (ss : List ℕ) (offset id : ℕ) (t : All Hashed ls) where
  pub payload_length_is : length (manifest_payload ls ss offset id) ≡ payload_length (length ls)
  unfolding manifest_payload record_bytes payload_length le_bytes
  payload_length_is =
      let e : length (entries ls ss) ≡ entry_size * length ls = length_entries_of entry_bytes entry_size ls ss (all_long ls t) in
      let r = length_root (length ls) offset id in
      let g = record_ge (length ls) in
      simp (length-append, length-replicate) (omega arith)

  pub states_back : length ss ≡ length ls → states_in (length ls) (drop 8 (manifest_payload ls ss offset id)) ≡ ss
  unfolding manifest_payload record_bytes le_bytes
  states_back e =
      let rest : List ℕ = replicate (record_end (length ls) - (8 + entry_size * length ls)) 0 ++ root (length ls) offset id in
      let a : (entries ls ss ++ replicate (record_end (length ls) - (8 + entry_size * length ls)) 0) ++ root (length ls) offset id ≡ entries ls ss ++ rest =
      append_assoc (entries ls ss) (replicate (record_end (length ls) - (8 + entry_size * length ls)) 0) (root (length ls) offset id) in
      ap (states_in (length ls)) a ∙ states_by_entries entry_size entry_bytes ls ss rest (omega arith) (all_written ls t) e

-- a directory of 1,024 entries has the longest payload
pub payload_most : (c : ℕ) → c ≤ 1024 → (payload_length c ≤ 53312) × (round64 (payload_length c) ≤ 53312)
unfolding payload_length record_by round64
payload_most c h = (omega arith, omega arith)

-- its length, rounded up, as code that adds it up has it
pub payload_round : (c r r' : ℕ) → r ≡ round64 (entries_end c) → r' ≡ round64 (r + 4096) → r' ≡ round64 (payload_length c)
unfolding payload_length record_by
payload_round c r r' p q = q ∙ ap (λ (y : ℕ). round64 (y + 4096)) p

-- ---- states that entries may have

state_zero : (l : Link) → state_held l 0 ≡ true
unfolding state_held
state_zero l = pick (eqb l.kind manifest_kind)
  where
    pick : (t : Bool) → cond t (eqb 0 0) (leb 0 1) ≡ true
    pick true = refl
    pick false = refl

pub states_append : (xs ys : List Link) (ss ts : List ℕ) → length ss ≡ length xs → states_held xs ss ≡ true → states_held ys ts ≡ true → states_held (xs ++ ys) (ss ++ ts) ≡ true
unfolding states_held
states_append [] ys [] ts n h k = k
states_append [] ys (s ∷ ss) ts n h k = absurd (omega arith)
states_append (x ∷ xs) ys [] ts n h k = absurd (omega arith)
states_append (x ∷ xs) ys (s ∷ ss) ts n h k =
    let a = and_split (state_held x s) (states_held xs ss) h in
    rw a.0 (states_append xs ys ss ts (omega arith) a.1 k)

pub states_live : (ls : List Link) → states_held ls (replicate (length ls) 0) ≡ true
unfolding states_held
states_live [] = refl
states_live (l ∷ ls) = rw (state_zero l) (states_live ls)

-- ---- a confirmed manifest

pub record Confirmed (b : List Link) (l : Link) : Type 0 where
  pub kind_is : l.kind ≡ manifest_kind
  pub at_most : length b ≤ max_entries
  pub is_whole : whole l ≡ true
  pub states_are_held : states_held b (states_in (length b) (drop 8 l.payload)) ≡ true
  pub payload_is : l.payload ≡ manifest_payload b (states_in (length b) (drop 8 l.payload)) l.offset l.id

pub confirmed_parts : (b : List Link) (l : Link) → confirmed b l ≡ true → Confirmed b l
unfolding confirmed
confirmed_parts b l e =
    let ss : List ℕ = states_in (length b) (drop 8 l.payload) in
    let made : List ℕ = manifest_payload b ss l.offset l.id in
    let p = and_split (eqb l.kind manifest_kind && leb (length b) max_entries && whole l && states_held b ss) (same_bytes l.payload made) e in
    let q = and_split (eqb l.kind manifest_kind && leb (length b) max_entries && whole l) (states_held b ss) p.0 in
    let w = and_split (eqb l.kind manifest_kind && leb (length b) max_entries) (whole l) q.0 in
    let k = and_split (eqb l.kind manifest_kind) (leb (length b) max_entries) w.0 in
    record {
      kind_is = eqb-true l.kind manifest_kind k.0;
      at_most = leb-true (length b) max_entries k.1;
      is_whole = w.1;
      states_are_held = q.1;
      payload_is = same_equal l.payload made p.1;
    }
