-- The record of the four lanes, and what is left of the front.
use Rattle.std.proofs.Common.{◌≡◌, ◌-◌, length}
use Rattle.crc32c.proofs.Chunks.{Left}
use Rattle.crc32c.proofs.LanesLaws.{Lanes}
use Rattle.crc32c.proofs.lanes.Given as goal

abbrev pub invariant-loop-words : goal.invariant-loop-words
invariant-loop-words l = record {
  left : Left l.initial.words-iterator.rest.now l.words-iterator.rest.now 32;
  chunk : l.words-iterator.size ≡ 32;
  lanes : Lanes l.c l.s l.a l.b l.d l.e (length l.initial.words-iterator.rest.now - length l.words-iterator.rest.now);
}
