-- What both readings of a number start from: the bits of a parameter as they are stored, by its kind, or the outcome that refuses them.
-- Assumes nothing.
use Rattle.std.specs.Prelude.{ℕ, List, length, eqb}
use Rattle.base.specs.Check.{Check, fault, pass, ◌>>=◌, test}
use Rattle.base.specs.Bytes.{le}
use Rattle.points.specs.Types.{Build, index_of, row}
use Rattle.points.specs.Columns.{kind_of}
use Rattle.points.specs.Place.{place_of, store_size}
use Rattle.points.specs.There.{there}
use Rattle.points.specs.declared.Kind.{Kind}
use Rattle.points.specs.declared.Kind.TheVariants.{Text, Unsigned, Signed, Single, Double, Tlp}
use Rattle.points.specs.declared.Missing.{Missing}
use Rattle.points.specs.declared.Missing.TheVariants.{NoPointType, NoLogical, NoParameter}
use Rattle.store.specs.Store.{value}
use Rattle.values.specs.declared.readings.Bits.{Bits}
use Rattle.values.specs.declared.readings.Bits.TheVariants as bits

unfoldable pub bits_of : Kind → List ℕ → Check Bits
bits_of Text v = fault 27 0
bits_of Unsigned v = pass (bits.Unsigned (le v))
bits_of Signed v = pass (bits.Signed (le v))
bits_of Single v = pass (bits.Single (le v))
bits_of Double v = pass (bits.Double (le v))
bits_of Tlp v = fault 27 0

-- which outcome a number that names nothing has
abbrev pub number_missing : Missing → ℕ
number_missing NoPointType = 22
number_missing NoLogical = 23
number_missing NoParameter = 24

unfoldable pub bits_read : Build → List ℕ → ℕ → ℕ → ℕ → Check Bits
bits_read b s t l k = do
  _ ← test (eqb (length s) (store_size b)) 2 0
  _ ← there (place_of b t l k) 0 0 0
  bits_of (kind_of (row (index_of t) k).kind) (value b s (index_of t) l k)
