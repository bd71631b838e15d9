-- The check that every call makes of type, logical and parameter: 22, 23, 24, each at its own place.
-- Assumes nothing.
use Rattle.std.specs.Prelude.{ℕ, Result, Ok, Err}
use Rattle.base.specs.Check.{Check, fault, pass}
use Rattle.points.specs.declared.Spot.{Spot}
use Rattle.points.specs.declared.Missing.{Missing}
use Rattle.points.specs.declared.Missing.TheVariants.{NoPointType, NoLogical, NoParameter}

unfoldable pub there : (q : Result Spot Missing) (ofType ofLogical ofParameter : ℕ) → Check Spot
there (Ok spot) pt pl pk = pass spot
there (Err NoPointType) pt pl pk = fault 22 pt
there (Err NoLogical) pt pl pk = fault 23 pl
there (Err NoParameter) pt pl pk = fault 24 pk
