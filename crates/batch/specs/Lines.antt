-- What contracts name of Lines; the laws stand in proofs/Lines.antt. Definitions only.
-- Assumes nothing.
use Rattle.std.specs.Prelude.{[]}
use Rattle.batch.specs.Form.{Body}

-- ---- the bodies of a batch that has the form

-- what stands for a body where there is none
abbrev pub no_body : Body
no_body = record { kind = 0; flags = 0; payload = [] }
