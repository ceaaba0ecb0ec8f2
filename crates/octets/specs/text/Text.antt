-- Text as bytes, one a character: words in ASCII, and numbers in decimal.
-- Assumes nothing.
use Rattle.std.specs.Prelude.{ℕ, zero, suc, ◌+◌, ◌/◌, ◌%◌, cond, List, [], ◌∷◌, ◌++◌, ltb}
use Prim.Native.Char.{code}
use Prim.Native.String as str
use Prim.Native.String.{String}

-- the bytes of a word
unfoldable pub ascii : String → List ℕ
ascii str.[] = []
ascii (str.◌∷◌ c s) = code c ∷ ascii s

-- the digits of n, the last k of them where it has more
unfoldable pub digits_in : ℕ → ℕ → List ℕ
digits_in zero n = []
digits_in (suc k) n = cond (ltb n 10) [] (digits_in k (n / 10)) ++ ((48 + n % 10) ∷ [])

-- n in decimal, with no zero in front; a number has at most as many digits as its successor says
unfoldable pub decimal : ℕ → List ℕ
decimal n = digits_in (suc n) n
