-- An answer as document 01 has it: the values of an accepted call, or the number of a refusal.
-- Assumes nothing.
use Rattle.std.specs.Prelude.{ℕ, List, Result, Ok, Err}
use Rattle.std.proofs.lemmas.List.Edits.{sets}
use Rattle.answers.specs.declared.Refusal.{Refusal as RefusalName}
use Rattle.answers.specs.declared.Refusal.TheVariants.{FileTooLong, NoManifest, NotLive, ContentHash, Layout, Dtype, BlockChecksum, NoVector, NoRoom, Batch, Retire, DirectoryFull, IdsUsedUp, Input, ReservedType}

-- a refusal carries no values, but for opening's 2, which carries the boundaries tried
pub data Answer : Type 0 where
  Accepted : List ℕ → Answer
  Refusal : ℕ → List ℕ → Answer

-- the number that an exported call returns: 0 where it accepts
unfoldable pub number : Answer → ℕ
number (Accepted vs) = 0
number (Refusal n vs) = n

-- what an array for the values holds after the call: the values stored from its front on, or what it held where the call refused
unfoldable pub out_of : List ℕ → Answer → List ℕ
out_of out (Accepted vs) = sets out 0 vs
out_of out (Refusal n vs) = out

-- ---- a refusal by its name

-- document 01's number of each
abbrev pub refusal_number : RefusalName → ℕ
refusal_number FileTooLong = 1
refusal_number NoManifest = 2
refusal_number NotLive = 3
refusal_number ContentHash = 4
refusal_number Layout = 5
refusal_number Dtype = 6
refusal_number BlockChecksum = 7
refusal_number NoVector = 8
refusal_number NoRoom = 9
refusal_number Batch = 10
refusal_number Retire = 11
refusal_number DirectoryFull = 12
refusal_number IdsUsedUp = 13
refusal_number Input = 14
refusal_number ReservedType = 15

-- what a function answers, with its refusal by the number: the definitions speak of numbers
abbrev pub numbered : {A : Type 0} → Result A RefusalName → Result A ℕ
numbered (Ok x) = Ok x
numbered (Err e) = Err (refusal_number e)

-- the number of a test that answers nothing else: 0 where it refuses nothing
abbrev pub refused_by : {A : Type 0} → Result A RefusalName → ℕ
refused_by (Ok x) = 0
refused_by (Err e) = refusal_number e
