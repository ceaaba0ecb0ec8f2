-- Where the loop stands: i bytes are passed, of the value acc, and the next has the weight p; what is left gives the answer.
use Rattle.std.proofs.Common.{◌≡◌, ◌+◌, drop}
use Rattle.varint.specs.Varint.{onto, decode}
use Rattle.varint.proofs.ReadLaws.{Left, ReadSoFar}
use Rattle.varint.proofs.read_rest.Given as goal

abbrev pub invariant-loop-i : goal.invariant-loop-i
invariant-loop-i l = ReadSoFar l.i l.acc l.p × (Left l.s l.at l.i l.acc l.p ≡ onto 1 l.first 128 (decode 9 (drop (l.at + 1) l.s)))
