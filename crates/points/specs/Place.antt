-- Where a parameter lies in the store: types ascending, logicals ascending, parameters ascending, unpadded.
-- Assumes nothing.
use Rattle.std.specs.Prelude.{ℕ, ◌+◌, ◌*◌, ◌<◌, ◌≤◌, ◌≡◌, List, map, get_or, take, ltb, Result, Ok, Err, if◌then◌else◌}
use Rattle.base.specs.Lists.{sum, joined, zipped}
use Rattle.points.specs.Row.{Row}
use Rattle.points.specs.Types.{Point, points, point, height, index_of, Build, counts, logicals, gateway, row}
use Rattle.points.specs.declared.Spot.{Spot}
use Rattle.points.specs.declared.Missing.{Missing}
use Rattle.points.specs.declared.Missing.TheVariants.{NoPointType, NoLogical, NoParameter}
use Rattle.points.specs.Columns.{row_at, starts}

abbrev pub row_len : Row → ℕ
row_len r = r.len

abbrev pub lens : Point → List ℕ
lens p = map row_len p.rows

-- the bytes of one logical of a type
abbrev pub each : Point → ℕ
each p = sum (lens p)

-- the bytes of n logicals of it
abbrev pub area : ℕ → Point → ℕ
area n p = n * each p

unfoldable pub areas : Build → List ℕ
unfolding points
areas b = zipped area (counts b) points

-- the bytes of a store
unfoldable pub store_size : Build → ℕ
store_size b = sum (areas b)

-- where the i-th type begins in the store
unfoldable pub base : Build → ℕ → ℕ
base b i = sum (take i (areas b))

-- where parameter k begins within its logical, and how long it is
unfoldable pub within : ℕ → ℕ → ℕ
within i k = sum (take k (lens (point i)))

unfoldable pub len_at : ℕ → ℕ → ℕ
len_at i k = get_or (lens (point i)) k 0

-- where each row's parameter begins within its logical, one type behind the other
abbrev pub starts_of : Point → List ℕ
starts_of p = starts 0 (lens p)

unfoldable pub offsets : List ℕ
unfolding points
offsets = joined (map starts_of points)

-- where parameter k of logical l of the i-th type begins in the store
unfoldable pub offset : Build → ℕ → ℕ → ℕ → ℕ
offset b i l k = base b i + l * each (point i) + within i k

-- the number of a type's first row among the rows of all types
unfoldable pub first : ℕ → ℕ
unfolding points
first i = sum (take i (map height points))

-- a parameter that the build has
pub record Here (b : Build) (i l k : ℕ) : Type 0 where
  pub type : i < 6
  pub logical : l < logicals b i
  pub parameter : k < height (point i)

-- its row, where it begins, how long it is
abbrev pub spot_of : Build → ℕ → ℕ → ℕ → Spot
spot_of b i l k = record { row = first i + k; begin = offset b i l k; len = len_at i k }

-- what is known of each parameter of the build: it has a row, lies in the store, is as long as its row says, and is short
pub record IsInside (spot : Spot) : Type 0 where
  pub row : spot.row < 175
  pub whole : spot.begin + spot.len ≤ 12427
  pub length : spot.len ≡ (row_at spot.row).len
  pub short : spot.len ≤ 40

-- A parameter by its three numbers: its row, where it begins, how long it is; or which of the three names nothing. A type with no logical is none.
unfoldable pub place_of : Build → ℕ → ℕ → ℕ → Result Spot Missing
place_of b t l k =
    if ltb 0 (logicals b (index_of t)) then
    if ltb l (logicals b (index_of t)) then
    if ltb k (height (point (index_of t))) then Ok (spot_of b (index_of t) l k)
    else Err NoParameter
    else Err NoLogical
    else Err NoPointType

-- A name for all that a computed example looks through: to unfold it is to unfold what its line names.
unfoldable pub placing : ℕ
unfolding gateway logicals index_of point row areas store_size base within len_at offset first place_of
placing = 0
