-- The defaults, and the fresh store that a fill leaves.
-- Assumes nothing.
use Rattle.std.specs.Prelude.{ℕ, ◌+◌, ◌/◌, ◌%◌, ◌≡◌, refl, cond, List, [], ◌∷◌, ◌++◌, map, length, ltb, eqb}
use Rattle.base.specs.Lists.{joined, upward, zipped}
use Rattle.base.specs.Bytes.{bytes, ascii, padded}
use Rattle.points.specs.Row.{Row, Default, figure, words, soft_point, segment, full_first}
use Rattle.points.specs.Types.{Point, points, row, Build, counts, gateway}

-- a number below 100 in two digits, and with no leading zero
abbrev pub two_digits : ℕ → List ℕ
two_digits n = (48 + n / 10) ∷ (48 + n % 10) ∷ []

abbrev pub digits : ℕ → List ℕ
digits n = cond (ltb n 10) ((48 + n) ∷ []) (two_digits n)

-- the n bytes that logical l starts with
abbrev pub start_of : ℕ → ℕ → Default → List ℕ
start_of l n (figure x) = bytes n x
start_of l n (words w) = padded n w
start_of l n soft_point = padded n (ascii "Soft Pt " ++ digits (l + 1))
start_of l n segment = padded n (cond (eqb l 0) (ascii "General 00") (ascii "Segment " ++ two_digits l))
start_of l n full_first = bytes n (cond (eqb l 0) 240 0)

abbrev pub row_start : ℕ → Row → List ℕ
row_start l r = start_of l r.len r.default

-- the default of parameter k of logical l of the i-th type
unfoldable pub default_of : ℕ → ℕ → ℕ → List ℕ
default_of i l k = row_start l (row i k)

-- a logical's bytes; those of n logicals of a type; the store's
abbrev pub logical_start : List Row → ℕ → List ℕ
logical_start rs l = joined (map (row_start l) rs)

abbrev pub type_start : ℕ → Point → List ℕ
type_start n p = joined (upward (logical_start p.rows) 0 n)

unfoldable pub fresh : Build → List ℕ
unfolding points
fresh b = joined (zipped type_start (counts b) points)

-- the fill's length
pub fill-length : length (fresh gateway) ≡ 12427
unfolding fresh gateway
fill-length = refl
