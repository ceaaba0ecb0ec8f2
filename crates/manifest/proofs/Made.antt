-- A manifest that is made of some links and their states: it is a link of the chain, and those links before it confirm it.
-- Assumes nothing.
use Rattle.std.specs.Prelude.{ℕ, ◌^◌, ◌≤◌, ◌<◌, ◌≡◌, refl, true, List, [], ◌∷◌, length}
use Rattle.std.proofs.Common.{arith, le-leb}
use Rattle.octets.proofs.ZeroLaws.{equal_same}
use Rattle.answers.specs.limits.Limits.{max_entries}
use Rattle.segment.specs.chain.Chain.{All}
use Rattle.segment.proofs.chain.Laws.{Exact}
use Rattle.segment.specs.Header.{Link, State, reader, type_held, flags_held}
use Rattle.segment.specs.Written.{segment, link_of}
use Rattle.segment.proofs.Readback.{segment_exact, written_whole}
use Rattle.manifest.specs.Payload.{manifest_kind, manifest_payload, states_held, confirmed}
use Rattle.manifest.proofs.PayloadLaws.{Hashed, states_back}

manifest_held : type_held manifest_kind ≡ true
unfolding type_held
manifest_held = refl

flags_none : flags_held 0 ≡ true
unfolding flags_held
flags_none = refl

-- its bytes are one link
pub made_exact : (st : State) (id timestamp : ℕ) (payload : List ℕ) → st.least ≤ id → id < 2 ^ 64 → timestamp < 2 ^ 64 → length payload < 2 ^ 64
    → Exact reader st (link_of st.at manifest_kind 0 id timestamp payload ∷ []) (segment manifest_kind 0 id timestamp payload)
made_exact st id timestamp payload above id_fits timestamp_fits length_fits =
    segment_exact st manifest_kind 0 id timestamp payload
    (record {
      kind_held = manifest_held;
      flags_are_held = flags_none;
      flags_fit = omega arith;
      id_above = above;
      id_fits = id_fits;
      timestamp_fits = timestamp_fits;
      length_fits = length_fits;
    })

pub made_confirmed : (ls : List Link) (ss : List ℕ) (at id timestamp : ℕ) → All Hashed ls → length ss ≡ length ls → length ls ≤ max_entries → states_held ls ss ≡ true
    → confirmed ls (link_of at manifest_kind 0 id timestamp (manifest_payload ls ss at id)) ≡ true
unfolding confirmed link_of
made_confirmed ls ss at id timestamp hashed many at_most held =
    rw (
      le-leb (length ls) max_entries at_most,
      written_whole at manifest_kind 0 id timestamp (manifest_payload ls ss at id),
      states_back ls ss at id hashed many,
      held,
      equal_same (manifest_payload ls ss at id),
    )
