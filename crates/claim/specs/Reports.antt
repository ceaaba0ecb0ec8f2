-- What the last accepted append answered is what the model says.
-- The laws stand in proofs/Reports.antt. Definitions only.
-- Assumes nothing.
use Rattle.std.specs.Prelude.{[], ◌∷◌}
use Rattle.std.proofs.Math.Option.{Option, none, some}
use Rattle.std.proofs.Math.ListN.{length}
use Rattle.answers.specs.Answer.{Answer, Accepted, Refusal}
use Rattle.claim.specs.Model.{Entry, Model}

-- what an append that leads to a model answers: its end, its manifest's id, the number of its entries
unfoldable pub reported : Model → Option Entry → Answer
reported k none = Refusal 2 []
reported k (some m) = Accepted (k.end ∷ m.link.id ∷ length k.entries ∷ [])
