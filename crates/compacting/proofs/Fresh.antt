-- The fresh file: its segments are those of the old file, byte for byte; its chain is these at their new places and the manifest; and opening finds
-- that manifest, with all of them live.
-- Assumes nothing.
use Prim.Native.Nat.{ℕ, ◌+◌, ◌^◌, ◌≤◌, ◌<◌}
use Rattle.std.specs.Prelude.{◌≡◌, true, take, replicate}
use Rattle.std.proofs.Common.{sym, subst, ◌∙◌, arith, length-drop}
use Rattle.std.proofs.Math.Path.{ap}
use Rattle.std.proofs.Math.Option.{some}
use mathlib.Core.List.{List, [], ◌∷◌, ◌++◌, append_assoc}
use Rattle.std.proofs.Math.ListN.{length, drop, length-append}
use Rattle.std.proofs.lemmas.List.{length-replicate}
use Rattle.octets.specs.Round.{round64}
use Rattle.octets.proofs.RoundLaws.{round64_mono}
use Rattle.octets.proofs.ZeroLaws.{same_equal}
use Rattle.octets.specs.le.Le.{Bytes}
use Rattle.octets.proofs.le.Laws.{bytes_drop}
use Rattle.answers.specs.limits.Limits.{max_entries}
use Rattle.segment.specs.chain.Chain.{All, Found, open_of, last_confirmed}
use Rattle.segment.specs.chain.Laws.{afters}
use Rattle.segment.proofs.chain.Laws.{all_map, all_both, Exact, done, exact_append, walk_all}
use Rattle.segment.specs.chain.Last.{LastIn}
use Rattle.segment.proofs.chain.Last.{last_stands, last_at_end}
use Rattle.segment.specs.Header.{Link, State, start, reader, size, whole, content_hash}
use Rattle.segment.proofs.Laws.{segment_format, afters_at, flags_fit, lies, size_least}
use Rattle.segment.specs.Chained.{chain}
use Rattle.segment.proofs.Chained.{link_place, Rising, chain_rising, rising_front}
use Rattle.segment.specs.Written.{segment, link_of}
use Rattle.segment.proofs.WrittenLaws.{segment_length}
use Rattle.segment.proofs.Readback.{Fields, segment_exact}
use Rattle.segment.proofs.Rewritten.{kind_held, flags_are_held, id_fits, timestamp_fits, length_fits, segment_bytes}
use Rattle.manifest.specs.Sized.{record_by}
use Rattle.manifest.specs.Payload.{manifest_kind, payload_length, confirmed, states_held}
use Rattle.manifest.proofs.PayloadLaws.{Hashed, lying_hashed, chain_hashed, payload_length_is, states_back, states_live, Confirmed, confirmed_parts}
use Rattle.manifest.proofs.Made.{made_exact, made_confirmed}
use Rattle.manifest.specs.Opening.{opened, states}
use Rattle.manifest.proofs.Lying.{Lying, chain_lying}
use Rattle.reading.proofs.Placed.{all_at}
use Rattle.compacting.specs.Compact.{copied, segments_of, moved_to, moved_from, fresh_payload, fresh_file, fresh_manifest, fresh_found, damaged}
use Rattle.compacting.proofs.Copied.{all_copied, rising_copied, copied_within, segments_length, moved_length, moved_sizes, all_moved, all_whole}

-- ---- the chain of segments that lie in a file, written one behind the other

abbrev Whole : Link → Type 0
Whole l = whole l ≡ true

-- where the hash is the payload's, the link at a new place is the one that is written there
moved_link : (at : ℕ) (l : Link) → whole l ≡ true → moved_to at l ≡ link_of at l.kind l.flags l.id l.timestamp l.payload
unfolding moved_to link_of whole
moved_link at l w =
    ap (λ (hash : List ℕ). record { offset = at; id = l.id; kind = l.kind; flags = l.flags; timestamp = l.timestamp; hash = hash; payload = l.payload })
    (same_equal l.hash (content_hash l.payload) w)

module _ (f : List ℕ) (t : Bytes f) where
  fields : (l : Link) (least : ℕ) → Lying f l → least ≤ l.id → Fields least l.kind l.flags l.id l.timestamp l.payload
  fields l least y h =
      let s = drop l.offset f in
      let b = bytes_drop l.offset f t in
      record {
        kind_held = kind_held y.state (drop l.offset f) l b y.reads;
        flags_are_held = flags_are_held y.state (drop l.offset f) l b y.reads;
        flags_fit = flags_fit l.flags (flags_are_held y.state (drop l.offset f) l b y.reads);
        id_above = h;
        id_fits = id_fits y.state (drop l.offset f) l b y.reads;
        timestamp_fits = timestamp_fits y.state (drop l.offset f) l b y.reads;
        length_fits = length_fits y.state (drop l.offset f) l b y.reads;
      }

  segments-exact : (at least : ℕ) (ls zs : List Link) → All (Lying f) ls → All Whole ls → Rising least (ls ++ zs)
      → Exact reader (record { at = at; least = least }) (moved_from at ls) (segments_of ls)
  unfolding All Rising moved_from segments_of afters size link_of
  segments-exact at least [] zs y w r = done
  segments-exact at least (l ∷ ls) zs y w r =
      rw (moved_link at l w.0)
      (exact_append reader segment_format {ms = moved_from (at + size l) ls}
      (segment_exact (record { at = at; least = least }) l.kind l.flags l.id l.timestamp l.payload (fields l least y.0 r.0))
      (segments-exact (at + size l) (l.id + 1) ls zs y.1 w.1 r.1))

-- the next id behind them is one that a later link may have
rising_end : (ls : List Link) (m : Link) (at : ℕ) (st : State) → Rising st.least (ls ++ m ∷ []) → (afters reader st (moved_from at ls)).least ≤ m.id
unfolding Rising moved_from moved_to afters
rising_end [] m at st r = r.0
rising_end (l ∷ ls) m at st r = rising_end ls m (at + size l) (record { at = st.at + size (moved_to at l); least = l.id + 1 }) r.1

payload_small : (c : ℕ) → c ≤ max_entries → payload_length c < 2 ^ 64
unfolding payload_length record_by round64
payload_small c h = omega arith

payload_more : (c d : ℕ) → c ≤ d → payload_length c ≤ payload_length d
unfolding payload_length record_by round64
payload_more c d h = omega arith

-- ---- of a file that opens

module _ (f : List ℕ) (r : Found Link) (t : Bytes f) (e : opened f ≡ some r) where
  pub stands : LastIn confirmed (chain f) r
  unfolding opened open_of
  stands = last_stands confirmed (chain f) r e

  pub parts : Confirmed r.before r.link
  parts = confirmed_parts r.before r.link stands.holds

  kept-lying : All (Lying f) (r.before ++ r.link ∷ [])
  kept-lying = chain_lying f (r.before ++ r.link ∷ []) stands.rest (stands.split ∙ sym (append_assoc r.before (r.link ∷ []) stands.rest))

  link-lying : Lying f r.link
  link-lying = all_at (Lying f) r.before r.link [] kept-lying

  -- the manifest's end lies in the file
  pub link_inside : r.link.offset + size r.link ≤ length f
  link_inside =
      let y = lies link-lying.state (drop r.link.offset f) r.link link-lying.reads in
      let least = size_least r.link in
      omega (arith, y.fits, length-drop r.link.offset f)

  pub copied_lying : All (Lying f) (copied r)
  copied_lying = all_copied (Lying f) r (chain_lying f r.before (r.link ∷ stands.rest) stands.split)

  pub copied_rising : Rising 0 (copied r ++ r.link ∷ [])
  copied_rising =
      rising_copied r (r.link ∷ [])
      (rising_front (r.before ++ r.link ∷ []) stands.rest 0
      (subst (Rising 0) (stands.split ∙ sym (append_assoc r.before (r.link ∷ []) stands.rest)) (chain_rising f)))

  pub copied_few : length (copied r) ≤ max_entries
  copied_few = omega (arith, (copied_within r).fewer, parts.at_most)

  moved-hashed : All Hashed (moved_from 0 (copied r))
  unfolding moved_to
  moved-hashed = all_moved Hashed (λ at l h. h) 0 (copied r) (all_map (Lying f) Hashed (lying_hashed f) (copied r) copied_lying)

  states-many : length {A = ℕ} (replicate (length (copied r)) 0) ≡ length (moved_from 0 (copied r))
  states-many = length-replicate {A = ℕ} (length (copied r)) 0 ∙ sym (moved_length 0 (copied r))

  -- how long it is
  pub payload_long : length (fresh_payload r) ≡ payload_length (length (copied r))
  unfolding fresh_payload
  payload_long =
      payload_length_is (moved_from 0 (copied r)) _ _ _ moved-hashed
      ∙ ap payload_length (moved_length 0 (copied r))

  pub fresh_length : length (fresh_file r) ≡ length (segments_of (copied r)) + (64 + round64 (payload_length (length (copied r))))
  unfolding fresh_file
  fresh_length =
      length-append (segments_of (copied r)) _
      ∙ ap (λ (n : ℕ). length (segments_of (copied r)) + n)
      (segment_length _ _ _ _ (fresh_payload r) ∙ ap (λ (n : ℕ). 64 + round64 n) payload_long)

  -- 'The result never ends later than the old manifest'
  pub never_later : length (fresh_file r) ≤ r.link.offset + size r.link
  unfolding size states
  never_later =
      let place = link_place f r.before stands.rest r.link stands.split in
      let long : length r.link.payload ≡ payload_length (length r.before) =
      ap length parts.payload_is
      ∙ payload_length_is r.before (states r) r.link.offset r.link.id (chain_hashed f r.before (r.link ∷ stands.rest) stands.split) in
      let more = round64_mono (payload_length (length (copied r))) (payload_length (length r.before))
      (payload_more (length (copied r)) (length r.before) (copied_within r).fewer) in
      omega (arith, ap round64 long, fresh_length, segments_length (copied r), (copied_within r).smaller)

  -- the directory's states are read off it
  pub fresh_states : states (fresh_found r) ≡ replicate (length (copied r)) 0
  unfolding states fresh_manifest link_of fresh_payload
  fresh_states = states_back (moved_from 0 (copied r)) (replicate (length (copied r)) 0) (length (segments_of (copied r))) r.link.id moved-hashed states-many

  fresh-confirmed : confirmed (moved_from 0 (copied r)) (fresh_manifest r) ≡ true
  unfolding fresh_manifest fresh_payload
  fresh-confirmed =
      made_confirmed (moved_from 0 (copied r)) (replicate (length (copied r)) 0) (length (segments_of (copied r))) r.link.id r.link.timestamp
      moved-hashed states-many (omega (arith, moved_length 0 (copied r), copied_few))
      (subst (λ (n : ℕ). states_held (moved_from 0 (copied r)) (replicate n 0) ≡ true) (moved_length 0 (copied r)) (states_live (moved_from 0 (copied r))))

  module _ (w : damaged (copied r) ≡ 0) where
    copied-exact : Exact reader start (moved_from 0 (copied r)) (segments_of (copied r))
    copied-exact = segments-exact f t 0 0 (copied r) (r.link ∷ []) copied_lying (all_whole (copied r) w) copied_rising

    -- 'headers unchanged': each segment is written as it stands in the file, header, payload and padding
    pub unchanged : All (λ l. segment l.kind l.flags l.id l.timestamp l.payload ≡ take (size l) (drop l.offset f)) (copied r)
    unchanged =
        all_map (λ l. Lying f l × Whole l) _ (λ l y. segment_bytes y.0.state (drop l.offset f) l (bytes_drop l.offset f t) y.0.reads y.1)
        (copied r) (all_both (Lying f) Whole (copied r) copied_lying (all_whole (copied r) w))

    pub fresh_chain : chain (segments_of (copied r)) ≡ moved_from 0 (copied r)
    fresh_chain = walk_all reader segment_format copied-exact

    end-state : (afters reader start (moved_from 0 (copied r))).at ≡ length (segments_of (copied r))
    end-state = afters_at start (moved_from 0 (copied r)) ∙ omega (arith, moved_sizes 0 (copied r), segments_length (copied r))

    fresh-exact : Exact reader start (moved_from 0 (copied r) ++ fresh_manifest r ∷ []) (fresh_file r)
    unfolding fresh_file fresh_manifest
    fresh-exact =
        let y = link-lying in
        let s : List ℕ = drop r.link.offset f in
        let b = bytes_drop r.link.offset f t in
        exact_append reader segment_format {ms = fresh_manifest r ∷ []} copied-exact
        (subst (λ (n : ℕ). Exact reader (afters reader start (moved_from 0 (copied r))) (link_of n manifest_kind 0 r.link.id r.link.timestamp (fresh_payload r) ∷ [])
        (segment manifest_kind 0 r.link.id r.link.timestamp (fresh_payload r))) end-state
        (made_exact (afters reader start (moved_from 0 (copied r))) r.link.id r.link.timestamp (fresh_payload r)
        (rising_end (copied r) r.link 0 start copied_rising)
        (id_fits y.state s r.link b y.reads)
        (timestamp_fits y.state s r.link b y.reads)
        (omega (arith, payload_long, payload_small (length (copied r)) copied_few))))

    pub fresh_opens : opened (fresh_file r) ≡ some (fresh_found r)
    unfolding opened open_of
    fresh_opens = ap (last_confirmed confirmed) (walk_all reader segment_format fresh-exact) ∙ last_at_end confirmed (moved_from 0 (copied r)) (fresh_manifest r) fresh-confirmed
