use Rattle.std.proofs.Common.{arith, ◌∙◌, ap, ℕ, List, get_or-drop}
use Rattle.crc32c.specs.Crc.{crc_from}
use Rattle.crc32c.specs.Window.{held}
use Rattle.crc32c.specs.Start.{reach_of}
use Rattle.octets.proofs.Parts.{tail_all}
use Rattle.crc32c.proofs.Start.{started, moved}
use Rattle.crc32c.proofs.window.message_of.Goals as goal

pub returns : goal.returns
returns g c =
    c.message.ensures
    ∙ moved g.M.Multiple.is_far c.take_in-at.new.w _ c.take_in-at.result (λ n h. rw (tail_all c.take_in-at.new.w c.take_in-at.result) (get_or-drop c.take_in-at.result c.take_in-at.new.w n 0))
    ∙ c.take_in-at.ensures.0
    ∙ ap (λ (x : ℕ). crc_from x c.args.s.now)
    (ap (λ (l : List ℕ). held (reach_of g.M.Multiple.is_far) l 0) c.put.ensures
    ∙ started g.M.Multiple.is_far _ c.args.c (omega arith) c.requires.1.1)
