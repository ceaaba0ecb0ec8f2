use Rattle.std.proofs.Common.{◌∙◌, ap, ℕ, List, get_or, refl, arith}
use Rattle.crc32c.specs.Start.{size_of}
use Rattle.crc32c.proofs.Start.{cleared}
use Rattle.crc32c.proofs.window.near_in.Goals as goal

pub message_of-requires : goal.message_of-requires
unfolding size_of
message_of-requires c =
    (omega arith, (refl, λ n h. ap (λ (l : List ℕ). get_or l n 0) c.clear_part.ensures ∙ cleared c.args.w.now 299 n h))
