-- The ways out of a writer: one law for each, for every writer.
-- Assumes nothing.
use Rattle.answers.specs.Write.{write_buffer, write_answer}
use Rattle.std.specs.Prelude.{ℕ, ◌≤◌, ◌<◌, ◌≡◌, refl, List, length, Ok, Err, Result}
use Rattle.std.proofs.Math.Bool.{false}
use Rattle.std.proofs.Common.{arith, lt_of_not-le}
use Rattle.std.proofs.Math.Dec.{eqb}
use borrow.Author.Tests.{ne_eqb, le-leb, lt-leb}
use Rattle.octets.specs.Over.{over}
use Rattle.std.proofs.Math.Decide.{dec_le}

-- the three ways out of a writer
module _ (bytes buf : List ℕ) where
  pub write_bad : (bad n : ℕ) → bad ≡ n → 0 < n → (Err n ≡ write_answer bad bytes buf) × (buf ≡ write_buffer bad bytes buf)
  unfolding write_answer write_buffer
  write_bad bad n e h =
      let z : eqb n 0 ≡ false = ne_eqb n 0 (λ q. omega arith) in
      rw (e, z) (refl, refl)

  pub write_short : (bad : ℕ) → bad ≡ 0 → length buf < length bytes → (Err 9 ≡ write_answer bad bytes buf) × (buf ≡ write_buffer bad bytes buf)
  unfolding write_answer write_buffer
  write_short bad e h = rw (e, lt-leb (length bytes) (length buf) h) (refl, refl)

  pub write_done : (bad n : ℕ) (exit : List ℕ) → bad ≡ 0 → length bytes ≤ length buf → n ≡ length bytes → exit ≡ over buf 0 bytes
      → (Ok n ≡ write_answer bad bytes buf) × (exit ≡ write_buffer bad bytes buf)
  unfolding write_answer write_buffer
  write_done bad n exit e h k p = rw (e, le-leb (length bytes) (length buf) h, k) (refl, p)

-- a length that is answered is within the buffer
pub wrote_within : (bytes buf : List ℕ) (n : ℕ) → Ok n ≡ write_answer 0 bytes buf → n ≤ length buf
unfolding write_answer
wrote_within bytes buf n e = go (dec_le (length bytes) (length buf))
  where
    go : Dec (length bytes ≤ length buf) → n ≤ length buf
    go (yes h) =
        let q : ◌≡◌ {A = Result ℕ ℕ} (Ok n) (Ok (length bytes)) = rw (le-leb (length bytes) (length buf) h) at e in
        let r : n ≡ length bytes = cc in
        omega arith
    go (no h) =
        let q : ◌≡◌ {A = Result ℕ ℕ} (Ok n) (Err 9) = rw (lt-leb (length bytes) (length buf) (lt_of_not-le h)) at e in
        let z : ◌≡◌ {A = ℕ} 0 1 = cc in
        omega arith
