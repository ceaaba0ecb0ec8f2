-- The laws of specs/At.antt.
-- Assumes nothing.
use Rattle.std.specs.Prelude.{ℕ, suc, ◌+◌, ◌-◌, ◌*◌, ◌≤◌, ◌≡◌, List, [], ◌∷◌, length, take, drop}
use Rattle.std.proofs.Common.{arith, length-append, length-drop, length-take-le}
use Rattle.std.proofs.lemmas.List.{length-replicate}
use Rattle.segment.specs.chain.Chain.{All}
use Rattle.octets.proofs.le.Laws.{length_le_bytes}
use Rattle.manifest.proofs.SizedLaws.{length_entries_of, record_by_ge}
use Rattle.manifest.specs.Payload.{entry_size, record_end, payload_length, root_bytes, root, entries_end}
use Rattle.manifest.specs.At.{Inside, entry_at, entries_at, record_head, fill, payload_at}

-- ---- lengths

part_length : (f : List ℕ) (n a : ℕ) → a + n ≤ length f → length (take n (drop a f)) ≡ n
part_length f n a h = length-take-le n (drop a f) (omega (arith, length-drop a f))

pub length_entry_at : (f : List ℕ) (o state : ℕ) → o + 64 ≤ length f → length (entry_at f o state) ≡ 48
unfolding entry_at
length_entry_at f o state h =
    simp (length-append, length_le_bytes, part_length f 16 (o + 0x08) (omega arith), part_length f 16 (o + 0x28) (omega arith), part_length f 2 (o + 0x06) (omega arith))

pub inside_tail : (f : List ℕ) (o : ℕ) (os : List ℕ) → Inside f (o ∷ os) → Inside f os
inside_tail f o os h i k = h (suc i) (omega arith)

-- each entry is as long as an entry is
all_inside : (f os : List ℕ) → Inside f os → All (λ o. (s : ℕ) → length (entry_at f o s) ≡ entry_size) os
unfolding All
all_inside f [] h = tt
all_inside f (o ∷ os) h = (λ s. length_entry_at f o s (h 0 (omega arith)), all_inside f os (inside_tail f o os h))

pub length_entries_at : (f os ss : List ℕ) → Inside f os → length (entries_at f os ss) ≡ entry_size * length os
length_entries_at f os ss h = length_entries_of (entry_at f) entry_size os ss (all_inside f os h)

pub length_record_head : (c : ℕ) → length (record_head c) ≡ 8
unfolding record_head
length_record_head c = simp (length-append, length_le_bytes)

pub record_ge : (c : ℕ) → entries_end c ≤ record_end c
record_ge = record_by_ge entry_size

pub length_fill : (c : ℕ) → length (fill c) ≡ record_end c - (entries_end c)
unfolding fill
length_fill c = length-replicate (record_end c - (entries_end c)) 0

pub length_root_bytes : (c offset id : ℕ) → length (root_bytes c offset id) ≡ 4092
unfolding root_bytes
length_root_bytes c offset id = simp (length-append, length_le_bytes, length-replicate)

pub length_root : (c offset id : ℕ) → length (root c offset id) ≡ 4096
unfolding root
length_root c offset id = simp (length-append, length_root_bytes, length_le_bytes)

pub length_payload_at : (f os ss : List ℕ) (offset id : ℕ) → Inside f os → length (payload_at f os ss offset id) ≡ payload_length (length os)
unfolding payload_at payload_length
length_payload_at f os ss offset id h =
    let n = length os in
    simp (length-append, length_record_head, length_entries_at f os ss h, length_fill, length_root) (omega (arith, record_ge (length os)))
