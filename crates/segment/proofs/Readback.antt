-- What is written is read back: the bytes of a segment, whatever comes after them, are its link, and that is whole.
-- Assumes nothing.
use Rattle.std.specs.Prelude.{◌≡◌, true, ℕ, ◌+◌, ◌-◌, ◌^◌, ◌≤◌, ◌<◌, take, drop}
use Rattle.std.proofs.Math.Path.{refl}
use Rattle.std.proofs.Common.{sym, ◌∙◌, arith, take_at, drop_at, drop-drop}
use Rattle.std.proofs.Math.Option.{some}
use mathlib.Core.List.{List, [], ◌∷◌, ◌++◌, append_assoc}
use Rattle.std.proofs.Math.ListN.{length}
use Rattle.std.proofs.Math.Seq.{take-append_seam, drop-append_seam, drop-length}
use borrow.Author.Tests.{le-leb}
use Rattle.octets.specs.Round.{round64, padding}
use Rattle.octets.specs.Zero.{all_zero, same_bytes}
use Rattle.octets.proofs.ZeroLaws.{zeros_all, equal_same}
use Rattle.octets.specs.le.Le.{le_bytes}
use Rattle.octets.proofs.le.Laws.{le_of_le_bytes}
use Rattle.segment.proofs.chain.Laws.{extend, Exact, done, more}
use Rattle.segment.proofs.chain.Framed.{framed_whole}
use Rattle.segment.specs.Header.{all, State, reader, read, link_at, link_in, size_at, size, sound, head_sound, type_held, flags_held, content_hash, whole, length_in, id_in, kind_in, flags_in, timestamp_in, hash_in}
use Rattle.segment.specs.Written.{header_of, header, segment, link_of}
use Rattle.segment.proofs.WrittenLaws.{header_length, segment_length}
use Rattle.segment.proofs.Laws.{segment_format}

-- what the fields of a segment may be, with the least id that it may have
pub record Fields (least kind flags id timestamp : ℕ) (payload : List ℕ) : Type 0 where
  pub kind_held : type_held kind ≡ true
  pub flags_are_held : flags_held flags ≡ true
  pub flags_fit : flags < 2 ^ 16
  pub id_above : least ≤ id
  pub id_fits : id < 2 ^ 64
  pub timestamp_fits : timestamp < 2 ^ 64
  pub length_fits : length payload < 2 ^ 64

-- each field of a header: the header computes to its 64 bytes
module _ (kind flags id timestamp : ℕ) (payload : List ℕ) where
  abbrev h : List ℕ
  h = header kind flags id timestamp payload

  kind_at : kind_in h ≡ kind
  unfolding header header_of le_bytes content_hash
  kind_at = refl

  flags-at : flags < 2 ^ 16 → flags_in h ≡ flags
  unfolding header header_of le_bytes content_hash
  flags-at = le_of_le_bytes 2 flags

  id-at : id < 2 ^ 64 → id_in h ≡ id
  unfolding header header_of le_bytes content_hash
  id-at = le_of_le_bytes 8 id

  length_at : length payload < 2 ^ 64 → length_in h ≡ length payload
  unfolding header header_of le_bytes content_hash
  length_at = le_of_le_bytes 8 (length payload)

  timestamp-at : timestamp < 2 ^ 64 → timestamp_in h ≡ timestamp
  unfolding header header_of le_bytes content_hash
  timestamp-at = le_of_le_bytes 8 timestamp

  hash_at : hash_in h ≡ content_hash payload
  unfolding header header_of le_bytes content_hash
  hash_at = refl

  head_is_sound : (least : ℕ) → Fields least kind flags id timestamp payload → head_sound least h ≡ true
  unfolding header header_of le_bytes content_hash head_sound all all_zero same_bytes
  head_is_sound least f =
      rw (f.kind_held, le_of_le_bytes 2 flags f.flags_fit, f.flags_are_held, le_of_le_bytes 8 id f.id_fits, le-leb least id f.id_above)

module _ (st : State) (kind flags id timestamp : ℕ) (payload : List ℕ) (f : Fields st.least kind flags id timestamp payload) where
  abbrev head : List ℕ
  head = header kind flags id timestamp payload

  abbrev seg : List ℕ
  seg = segment kind flags id timestamp payload

  front : take 64 seg ≡ head
  unfolding segment
  front = rw append_assoc (take_at head (payload ++ padding (length payload)) 64 (header_length kind flags id timestamp payload))

  behind : drop 64 seg ≡ payload ++ padding (length payload)
  unfolding segment
  behind = rw append_assoc (drop_at head (payload ++ padding (length payload)) 64 (header_length kind flags id timestamp payload))

  length_is : length_in head ≡ length payload
  length_is = length_at kind flags id timestamp payload f.length_fits

  zeros : all_zero (drop (64 + length payload) seg) ≡ true
  unfolding padding
  zeros =
      rw (← (drop-drop (length payload) 64 seg), behind, drop-append_seam payload (padding (length payload)))
      (zeros_all (round64 (length payload) - length payload))

  seg-sound : sound st.least seg ≡ true
  unfolding sound
  seg-sound = rw (front, head_is_sound kind flags id timestamp payload st.least f, length_is, zeros)

  seg-link : link_in st.at seg ≡ link_of st.at kind flags id timestamp payload
  unfolding link_in link_of
  seg-link =
      rw (
        front,
        kind_at kind flags id timestamp payload,
        flags-at kind flags id timestamp payload f.flags_fit,
        id-at kind flags id timestamp payload f.id_fits,
        timestamp-at kind flags id timestamp payload f.timestamp_fits,
        hash_at kind flags id timestamp payload,
        length_is,
        behind,
        take-append_seam payload (padding (length payload)),
      )

  seg-size : size_at (take 64 seg) ≡ length seg
  unfolding size_at
  seg-size = rw (front, length_is, segment_length kind flags id timestamp payload)

  -- what is written is read back, alone and before any bytes
  pub read_segment : link_at st seg ≡ some (link_of st.at kind flags id timestamp payload)
  unfolding read
  read_segment =
      framed_whole 64 size_at read st seg (rw (segment_length kind flags id timestamp payload) (omega arith)) seg-size ∙ rw (seg-sound, seg-link)

  pub read_back : (rest : List ℕ) → link_at st (seg ++ rest) ≡ some (link_of st.at kind flags id timestamp payload)
  read_back rest = extend reader segment_format read_segment rest

  -- a segment is a chain of one link
  pub segment_exact : Exact reader st (link_of st.at kind flags id timestamp payload ∷ []) seg
  unfolding size link_of
  segment_exact = more {ls = []} read_segment (rw (sym (segment_length kind flags id timestamp payload), drop-length seg) done)

-- what is written is whole
pub written_whole : (at kind flags id timestamp : ℕ) (payload : List ℕ) → whole (link_of at kind flags id timestamp payload) ≡ true
unfolding whole link_of
written_whole at kind flags id timestamp payload = equal_same (content_hash payload)
