-- The lister's worked example, line by line: an empty file with one META body of 0 bytes appended. And the words that it does not show.
-- Assumes nothing.
use Rattle.std.specs.Prelude.{◌≡◌, refl, true, false}
use Rattle.octets.specs.text.Text.{ascii, digits_in, decimal}
use Rattle.reading.specs.Listing.{heading, check_word, line, state_word, end_line, refused_line}

pub record Lines : Type 0 where
  pub first : heading ≡ ascii "id type offset length state check\n"
  pub body : line 0 7 0 0 (state_word 0) true ≡ ascii "0 7 0 0 live ok\n"
  pub manifest : line 1 5 64 4160 (ascii "manifest") true ≡ ascii "1 5 64 4160 manifest ok\n"
  pub last : end_line 4288 66 ≡ ascii "end 4288 tried 66\n"
  pub retired : line 12 1 4416 128 (state_word 1) false ≡ ascii "12 1 4416 128 retired bad\n"
  pub refused : refused_line 2 ≡ ascii "refused 2\n"

pub lines : Lines
unfolding line state_word check_word end_line refused_line ascii decimal digits_in
lines = record { first = refl; body = refl; manifest = refl; last = refl; retired = refl; refused = refl }
