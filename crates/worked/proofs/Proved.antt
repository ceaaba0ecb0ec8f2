-- The table of the marked cases holds.
-- Assumes nothing.
use Rattle.octets.specs.le.Le.{le_bytes}
use Rattle.varint.specs.Varint.{leb128, varint_of, more, decode, below64, read_varint}
use Rattle.idmap.specs.Encode.{map_head, delta_of, left_after, deltas, restart_of, restarts, interval_of, map_bytes}
use Rattle.segment.specs.chain.Chain.{walk, walk_f, scan, last_confirmed, open_of}
use Rattle.manifest.specs.Opening.{opened, tried, at_opened, found_case, opened_case, opened_answer, open_answer}
use Rattle.worked.specs.Table.{Table}
use Rattle.std.specs.Prelude.{refl}
use Rattle.worked.proofs.Ends.{empty_end, manifest_place, body_end, then_empty}

-- to unfold this is to unfold what the line names
open_all : Unit {0}
unfolding leb128 varint_of more decode below64 read_varint le_bytes map_head delta_of left_after deltas restart_of restarts interval_of map_bytes open_answer opened_case opened_answer found_case at_opened opened tried open_of last_confirmed scan walk walk_f
open_all = tt

pub table : Table
unfolding open_all
table =
    record {
      zero_is = refl;
      v127_is = refl;
      v128_is = refl;
      v16384_is = refl;
      largest_is = refl;
      not_shortest = refl;
      interval_64 = refl;
      interval_2 = refl;
      nothing_opened = refl;
      empty_batch = empty_end;
      body_place = manifest_place;
      body_batch = body_end;
      then_batch = then_empty;
    }
