-- What is left of the slice makes of the register what all of it makes of the first.
use Rattle.std.proofs.Common.{◌≡◌, ◌-◌, length, drop}
use Rattle.crc32c.specs.Crc.{crc_from}
use Rattle.crc32c.proofs.Chunks.{Left}
use Rattle.crc32c.proofs.rest.Given as goal

abbrev pub invariant-loop-word : goal.invariant-loop-word
invariant-loop-word l = record {
  left : Left l.initial.word-iterator.rest.now l.word-iterator.rest.now 8;
  chunk : l.word-iterator.size ≡ 8;
  same : crc_from l.x (drop (length l.initial.word-iterator.rest.now - length l.word-iterator.rest.now) l.s) ≡ crc_from l.c l.s;
}

abbrev pub invariant-loop-b : goal.invariant-loop-b
invariant-loop-b l = crc_from l.x (drop l.b-index l.bytes) ≡ crc_from l.c l.s
