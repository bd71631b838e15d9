-- What it is for three numbers to name a parameter of the build.
-- Assumes nothing.
use Rattle.std.specs.Prelude.{◌≡◌, Result, Ok}
use Rattle.points.specs.declared.Spot.{Spot}
use Rattle.points.specs.declared.Missing.{Missing}

-- the place that was looked for is there
abbrev pub There : Result Spot Missing → Type 0
There q = (spot : Spot) × (q ≡ Ok spot)
