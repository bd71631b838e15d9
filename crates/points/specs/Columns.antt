-- The rows of all types as one list, and its columns: what the constant tables of the code hold.
-- Assumes nothing.
use Rattle.std.specs.Prelude.{ℕ, ◌+◌, ◌-◌, ◌^◌, List, [], ◌∷◌, map, get_or, replicate}
use Rattle.base.specs.Lists.{joined}
use Rattle.points.specs.Row as Row
use Rattle.points.specs.Row.{Row, text, unsigned, signed, single, double, tlp, read_write, read_only, read_only_first, any, between, status, rate, size, number, Default, figure, words, soft_point, segment, full_first, no_row}
use Rattle.points.specs.Types.{Point, points, height}
use Rattle.points.specs.declared.Kind.{Kind}
use Rattle.points.specs.declared.Kind.TheVariants.{Text, Unsigned, Signed, Single, Double, Tlp}
use Rattle.points.specs.declared.Access.{Access}
use Rattle.points.specs.declared.Access.TheVariants.{ReadWrite, ReadOnly, ReadOnlyFirst}
use Rattle.points.specs.declared.Range.{Range}
use Rattle.points.specs.declared.Range.TheVariants.{Any, Between, Status, Rate, Size, Number}
use Rattle.points.specs.declared.Initial.{Initial}
use Rattle.points.specs.declared.Initial.TheVariants.{Figure, Words, SoftPoint, Segment, FullFirst}

abbrev pub rows_of : Point → List Row
rows_of p = p.rows

unfoldable pub all_rows : List Row
unfolding points
all_rows = joined (map rows_of points)

-- the row with a number
unfoldable pub row_at : ℕ → Row
unfolding all_rows
row_at r = get_or all_rows r no_row

-- ---- what the rows say, in the code's types

abbrev pub kind_of : Row.Kind → Kind
kind_of text = Text
kind_of unsigned = Unsigned
kind_of signed = Signed
kind_of single = Single
kind_of double = Double
kind_of tlp = Tlp

abbrev pub access_of : Row.Access → Access
access_of read_write = ReadWrite
access_of read_only = ReadOnly
access_of read_only_first = ReadOnlyFirst

abbrev pub range_of : Row.Range → Range
range_of any = Any
range_of (between least most) = Between least most
range_of status = Status
range_of rate = Rate
range_of size = Size
range_of number = Number

-- the text itself is the row's
abbrev pub initial_of : Default → Initial
initial_of (figure x) = Figure x
initial_of (words w) = Words
initial_of soft_point = SoftPoint
initial_of segment = Segment
initial_of full_first = FullFirst

-- ---- the same as numbers

-- the least and the most that a range allows a number of n bytes; a set and a status have none
abbrev pub least_of : Row.Range → ℕ
least_of any = 0
least_of (between least most) = least
least_of status = 0
least_of rate = 0
least_of size = 0
least_of number = 0

abbrev pub most_of : Row.Range → ℕ → ℕ
most_of any n = 256 ^ n - 1
most_of (between least most) n = most
most_of status n = 0
most_of rate n = 0
most_of size n = 240
most_of number n = 0

abbrev pub most_by : Row.Kind → Row.Range → ℕ → ℕ
most_by text q n = 0
most_by unsigned q n = most_of q n
most_by signed q n = 0
most_by single q n = 0
most_by double q n = 0
most_by tlp q n = 0

-- the number that a fill leaves, where it is one
abbrev pub figure_of : Default → ℕ
figure_of (figure x) = x
figure_of (words w) = 0
figure_of soft_point = 0
figure_of segment = 0
figure_of full_first = 0

-- ---- the columns

abbrev pub row_least : Row → ℕ
row_least r = least_of r.range

abbrev pub row_most : Row → ℕ
row_most r = most_by r.kind r.range r.len

abbrev pub row_figure : Row → ℕ
row_figure r = figure_of r.default

-- the levels of a row's type
abbrev pub reads_of : Point → List ℕ
reads_of p = replicate (height p) p.reads

abbrev pub writes_of : Point → List ℕ
writes_of p = replicate (height p) p.writes

unfoldable pub read_levels : List ℕ
unfolding points
read_levels = joined (map reads_of points)

unfoldable pub write_levels : List ℕ
unfolding points
write_levels = joined (map writes_of points)

-- where each of a run of lengths begins, counted from a
abbrev pub starts : ℕ → List ℕ → List ℕ
starts a [] = []
starts a (x ∷ xs) = a ∷ starts (a + x) xs
