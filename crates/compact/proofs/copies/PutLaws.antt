-- The fresh file as `put_file` writes it: what the buffer holds where the payload is written, the segments are copied and the places are put, and
-- that there is room for each.
-- Assumes nothing.
use Rattle.std.specs.Prelude.{ℕ, ◌≡◌, ◌+◌, ◌-◌, ◌*◌, ◌≤◌, List, ◌++◌, length, take, drop, replicate}
use Rattle.std.proofs.Common.{ap, ◌∙◌, arith, length-take-le}
use Rattle.std.proofs.Math.ListN.{length-take, length-drop, length-replicate}
use borrow.Rule.Slice.PartMut.{put_mid}
use Rattle.octets.specs.Over.{over}
use Rattle.octets.proofs.OverLaws.{length_over}
use Rattle.octets.proofs.Parts.{back}
use Rattle.octets.proofs.ZeroLaws.{zeros_front}
use Rattle.octets.specs.Round.{round64}
use Rattle.octets.proofs.RoundLaws.{round64_ge}
use Rattle.segment.specs.Header.{content_hash}
use Rattle.segment.specs.Written.{header_of, segment}
use Rattle.manifest.specs.Payload.{manifest_kind, entry_size, payload_length}
use Rattle.manifest.specs.At.{payload_at}
use Rattle.manifest.proofs.PayloadLaws.{payload_most}
use Rattle.confirm.specs.payload.Sum.{Rooted}
use Rattle.confirm.proofs.payload.Sum.{payload_rooted}
use Rattle.compact.specs.copies.Copies.{Standing, copies_at, places_at, placed, file_at}
use Rattle.compact.proofs.copies.CopyLaws.{places_length}
use Rattle.compact.proofs.copies.FileLaws.{old_length, entries_fit, places_put, payload_back, file_put}

module _ (f os b : List ℕ) (at id : ℕ) (few : length os ≤ 1024) (h : Standing f os) (end : at ≡ length (copies_at f os)) (room : at + (64 + round64 (payload_length (length os))) ≤ length b) where
  -- the states of as many live entries
  abbrev live : List ℕ
  live = take (length os) (replicate 1024 0)

  pub live_count : length live ≡ length os
  live_count = length-take-le (length os) (replicate {A = ℕ} 1024 0) (omega (arith, few, length-replicate {A = ℕ} 1024 0))

  pub payload_small : (payload_length (length os) ≤ round64 (payload_length (length os))) × (round64 (payload_length (length os)) ≤ 53312)
  payload_small = (round64_ge (payload_length (length os)), (payload_most (length os) few).1)

  pub payload_room : payload_length (length os) ≤ length (take (length b - (at + 64)) (drop (at + 64) b))
  payload_room = omega (arith, payload_small, room, length-take (length b - (at + 64)) (drop (at + 64) b), length-drop (at + 64) b)

  in_room : at + (64 + payload_length (length os)) ≤ length b
  in_room = omega (arith, payload_small, room)

  module _ (part : List ℕ) (written : part ≡ over (take (length b - (at + 64)) (drop (at + 64) b)) 0 (payload_at f os live at id)) where
    -- the buffer with the payload in it
    abbrev held : List ℕ
    held = put_mid (at + 64) (length b - (at + 64)) b part

    laid : held ≡ over b (at + 64) (payload_at f os live at id)
    laid = back b (at + 64) part _ written (omega (arith, in_room, old_length f os h live at id))

    pub held_length : length held ≡ length b
    held_length = ap length laid ∙ length_over b (at + 64) (payload_at f os live at id) (omega (arith, in_room, old_length f os h live at id))

    module _ (buf₂ places : List ℕ) (copied : buf₂ ≡ over held 0 (copies_at f os)) (moved : places ≡ places_at f 0 os) where
      pub copied_length : length buf₂ ≡ length b
      copied_length = ap length copied ∙ length_over held 0 (copies_at f os) (omega (arith, in_room, held_length, end)) ∙ held_length

      pub places_room : at + 64 + 8 + entry_size * length places ≤ length buf₂
      places_room = omega (arith, copied_length, ap length moved, places_length f 0 os, in_room, entries_fit (length os))

      module _ (buf₃ : List ℕ) (put : buf₃ ≡ placed (at + 64 + 8) places buf₂) where
        put_whole : buf₃ ≡ over (over b 0 (copies_at f os)) (at + 64) (payload_at (copies_at f os) (places_at f 0 os) live at id)
        put_whole =
            places_put f os h live at id b end in_room held buf₂ buf₃ laid copied
            (put ∙ ap (λ (ps : List ℕ). placed (at + 64 + 8) ps buf₂) moved)

        -- the payload as it is read back, for its hash
        read_back : (len : ℕ) → len ≡ payload_length (length os) → take (at + 64 + len - (at + 64)) (drop (at + 64) buf₃) ≡ payload_at (copies_at f os) (places_at f 0 os) live at id
        read_back len k = payload_back f os h live at id b end in_room buf₃ put_whole len k

        pub back_rooted : (len : ℕ) → len ≡ payload_length (length os) → Rooted (take (at + 64 + len - (at + 64)) (drop (at + 64) buf₃))
        back_rooted len k = payload_rooted _ _ _ _ _ _ (read_back len k)

        pub written_file : (ts len : ℕ) (hash y : List ℕ) → len ≡ payload_length (length os)
            → hash ≡ content_hash (take (at + 64 + len - (at + 64)) (drop (at + 64) buf₃))
            → y ≡ over (take (length buf₃ - at) (drop at buf₃)) 0 (header_of manifest_kind 0 id ts len hash)
            → put_mid at (length buf₃ - at) buf₃ y ≡ over b 0 (file_at f os at id ts)
        unfolding file_at
        written_file ts len hash y k q p =
            file_put f os h live at id b end in_room buf₃ put_whole ts len hash y k (q ∙ ap content_hash (read_back len k)) p
            ∙ ap (λ (zs : List ℕ). over b 0 (copies_at f os ++ segment 5 0 id ts (payload_at (copies_at f os) (places_at f 0 os) zs at id))) (zeros_front (length os) 1024 few)
