-- A payload that is handed back: where it lies, and what it is for a slice to be that part of the file itself.
-- Assumes nothing.
use Rattle.std.specs.Prelude.{length, take, drop, [], ◌∷◌, List, ℕ, ◌+◌, ◌≤◌, ◌≡◌, Result, Ok, Err}
use Rattle.reading.specs.Answers.{Part, Handed, NotHanded}
use Rattle.reading.specs.declared.PayloadPlace.{PayloadPlace}
use Rattle.answers.specs.Answer.{Answer, Accepted, Refusal}
use Rattle.std.specs.Borrow.{Bor}
use Rattle.segment.specs.Header.{Link}

unfoldable pub place_of : Part → Result PayloadPlace ℕ
place_of (Handed start bytes) = Ok (record { start = start; length = length bytes })
place_of (NotHanded n) = Err n

-- its number and values
unfoldable pub place_answer : Result PayloadPlace ℕ → Answer
place_answer (Ok p) = Accepted (p.start ∷ p.length ∷ [])
place_answer (Err n) = Refusal n []

-- the slice r is the len bytes at `start` of the file f itself: its bytes, the block of memory that it lies in, and its place there
pub record IsPart (r f : Bor (List ℕ)) (start len : ℕ) : Type 0 where
  pub bytes : r.now ≡ take len (drop start f.now)
  pub block : r.ref_ptr.0 ≡ f.ref_ptr.0
  pub place : r.ref_ptr.1 ≡ f.ref_ptr.1 + start

-- what a payload call hands back: the part of the file where the payload lies, or nothing of it
unfoldable pub HandsPart : Bor (List ℕ) → Bor (List ℕ) → Part → Type 0
HandsPart r f (Handed start bytes) = (r.now ≡ bytes) × IsPart r f start (length bytes)
HandsPart r f (NotHanded n) = r.now ≡ []

-- a link's payload is the file's bytes behind its header
pub record InFile (f : List ℕ) (l : Link) : Type 0 where
  pub room : l.offset + 64 + length l.payload ≤ length f
  pub bytes : l.payload ≡ take (length l.payload) (drop (l.offset + 64) f)
