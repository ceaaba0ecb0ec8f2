-- What the lister prints about a file: document 01's 'The lister'. Every line ends with a line feed. Definitions only.
-- Assumes nothing.
use Rattle.std.specs.Prelude.{ℕ, ◌+◌, Bool, cond, List, [], ◌∷◌, ◌++◌, eqb, leb, length, drop, get_or}
use Rattle.std.proofs.Math.Option.{Option, none, some}
use Rattle.octets.specs.text.Text.{ascii, decimal}
use Rattle.segment.specs.chain.Chain.{Found}
use Rattle.segment.specs.Header.{Link, whole, size}
use Rattle.manifest.specs.Opening.{opened, states, tried}

-- 'at most 65,536 bytes': the lister's own limit, below that of a file
abbrev pub max_listed : ℕ
max_listed = 65536

-- `refused n`
unfoldable pub refused_line : ℕ → List ℕ
refused_line n = ascii "refused " ++ (decimal n ++ ascii "\n")

abbrev pub heading : List ℕ
heading = ascii "id type offset length state check\n"

-- a number and the space behind it
abbrev pub column : ℕ → List ℕ
column n = decimal n ++ ascii " "

-- '`ok` if whole else `bad`'
unfoldable pub check_word : Bool → List ℕ
check_word ok = cond ok (ascii " ok\n") (ascii " bad\n")

-- 'decimal id, type, offset and payload length', the state's word, the check
unfoldable pub line : ℕ → ℕ → ℕ → ℕ → List ℕ → Bool → List ℕ
line id kind offset len word ok = column id ++ (column kind ++ (column offset ++ (column len ++ (word ++ check_word ok))))

-- the line of a segment
unfoldable pub segment_line : Link → List ℕ → List ℕ
segment_line l word = line l.id l.kind l.offset (length l.payload) word (whole l)

-- '`live` or `retired`'
unfoldable pub state_word : ℕ → List ℕ
state_word state = cond (eqb state 0) (ascii "live") (ascii "retired")

-- 'One line an entry', in the directory's order: the links with their states
unfoldable pub lines_of : List Link → List ℕ → List ℕ
lines_of [] ss = []
lines_of (l ∷ ls) ss = segment_line l (state_word (get_or ss 0 0)) ++ lines_of ls (drop 1 ss)

-- 'last its end and the boundaries tried'
unfoldable pub end_line : ℕ → ℕ → List ℕ
end_line end t = ascii "end " ++ (decimal end ++ (ascii " tried " ++ (decimal t ++ ascii "\n")))

-- 'Then the file's manifest, and last its end and the boundaries tried', of which there are t
unfoldable pub list_found : ℕ → Option (Found Link) → List ℕ
list_found t none = refused_line 2
list_found t (some r) =
    heading
    ++ (lines_of r.before (states r)
    ++ (segment_line r.link (ascii "manifest") ++ end_line (r.link.offset + size r.link) t))

-- the whole text: 1 above the lister's limit, before anything else is looked at; with some number, and with the boundaries tried
unfoldable pub list_with : ℕ → List ℕ → List ℕ
list_with t f = cond (leb (length f) max_listed) (list_found t (opened f)) (refused_line 1)

unfoldable pub list_text : List ℕ → List ℕ
list_text f = list_with (tried f (opened f)) f
