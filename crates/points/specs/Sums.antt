-- The sums that the rules print, computed from the rows.
-- Assumes nothing.
use Rattle.std.specs.Prelude.{ℕ, ◌*◌, ◌≡◌, refl, [], ◌∷◌, map, length}
use Rattle.base.specs.Lists.{sum, zipped}
use Rattle.points.specs.Types.{Point, points, height, counts, gateway}
use Rattle.points.specs.Place.{each, areas, store_size}
use Rattle.points.specs.Columns.{all_rows}

-- bytes of a logical of 97, 98, 99, 122, 123, 124
pub bytes-each : map each points ≡ 100 ∷ 271 ∷ 136 ∷ 124 ∷ 400 ∷ 35 ∷ []
unfolding points
bytes-each = refl

-- and parameters
pub parameters-each : map height points ≡ 10 ∷ 62 ∷ 45 ∷ 24 ∷ 20 ∷ 14 ∷ []
unfolding points
parameters-each = refl

pub rows_in_all : length all_rows ≡ 175
unfolding all_rows
rows_in_all = refl

pub store_bytes : store_size gateway ≡ 12427
unfolding store_size areas gateway
store_bytes = refl

abbrev parameters : ℕ → Point → ℕ
parameters n p = n * height p

pub store_parameters : sum (zipped parameters (counts gateway) points) ≡ 2990
unfolding points gateway
store_parameters = refl
