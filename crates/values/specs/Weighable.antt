-- What is known of a value that is weighed: which row it is of, and how long it is.
-- Assumes nothing.
use Rattle.std.specs.Prelude.{ℕ, ◌≤◌, ◌<◌, ◌≡◌, Bool, true, false, List, eqb, length}
use Rattle.base.specs.Check.{Check, fault, pass}
use Rattle.base.specs.Lists.{either}
use Rattle.points.specs.Types.{gateway, logicals, segments}
use Rattle.points.specs.Place.{first}
use Rattle.points.specs.Columns.{row_at, kind_of}
use Rattle.points.specs.declared.Kind.{Kind}
use Rattle.points.specs.declared.Kind.TheVariants.{Text, Unsigned, Signed, Single, Double, Tlp}
use Rattle.points.specs.declared.Range.{Range}
use Rattle.points.specs.declared.Range.TheVariants.{Any, Between, Status, Rate, Size, Number}

-- an unsigned value has 1, 2 or 4 bytes
abbrev pub unsigned_long : ℕ → Bool
unsigned_long n = either (eqb n 1) (either (eqb n 2) (eqb n 4))

-- whether values of a kind may have n bytes
unfoldable pub kind_long : Kind → ℕ → Bool
kind_long Text n = true
kind_long Unsigned n = unsigned_long n
kind_long Signed n = eqb n 1
kind_long Single n = eqb n 4
kind_long Double n = eqb n 8
kind_long Tlp n = eqb n 3

-- whether values with a range may
unfoldable pub range_long : Range → ℕ → Bool
range_long Any n = true
range_long (Between least most) n = unsigned_long n
range_long Status n = eqb n 1
range_long Rate n = unsigned_long n
range_long Size n = unsigned_long n
range_long Number n = eqb n 3

-- v is as long as row r says, for logical l, and no text
pub record Weighable (r l : ℕ) (v : List ℕ) : Type 0 where
  pub row : r < 175
  pub no_text : (kind_of (row_at r).kind ≡ Text → ⊥)
  pub long : length v ≡ (row_at r).len
  pub segment : (first segments ≤ r → l < logicals gateway segments)

unfoldable pub passes : Check Unit → Bool
passes (fault n p) = false
passes (pass x) = true
