-- What each step of a fill writes.
-- Assumes nothing.
use Rattle.std.specs.Prelude.{ℕ, ◌-◌, cond, eqb, List, [], ◌++◌}
use Rattle.base.specs.Lists.{part, put}
use Rattle.base.specs.Bytes.{ascii}
use Rattle.points.specs.Row.{Row, Default, figure, words, soft_point, segment, full_first}
use Rattle.points.specs.Types.{gateway}
use Rattle.store.specs.Fresh.{two_digits, fresh}

-- the text that a default is, where it is one
abbrev pub words_of : Default → List ℕ
words_of (figure x) = []
words_of (words w) = w
words_of soft_point = []
words_of segment = []
words_of full_first = []

abbrev pub row_words : Row → List ℕ
row_words r = words_of r.default

-- a segment's description
abbrev pub segment_text : ℕ → List ℕ
segment_text l = cond (eqb l 0) (ascii "General 00") (ascii "Segment " ++ two_digits l)

-- the store with the fresh one's bytes from one place up to another
unfoldable pub renewed : List ℕ → ℕ → ℕ → List ℕ
renewed s from to = put s from (part (fresh gateway) from (to - from))
