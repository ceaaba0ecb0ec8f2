use Rattle.std.proofs.Common.{refl, arith}
use Rattle.crc32c.specs.Start.{size_of}
use Rattle.crc32c.proofs.Span.{zeros_at}
use Rattle.crc32c.proofs.window.by_far.Goals as goal

pub message_of-requires : goal.message_of-requires
unfolding size_of
message_of-requires c = (omega arith, (refl, λ n h. zeros_at 13467 n))
