-- The row of a parameter that was found is the row of its type and parameter.
-- Assumes nothing.
use mathlib.Core.Path.{◌≡◌}
use Prim.Native.Nat.{ℕ}
use Rattle.std.specs.Prelude.{Ok}
use Rattle.points.specs.Types.{gateway, index_of, row}
use Rattle.points.specs.Place.{place_of}
use Rattle.points.specs.Columns.{row_at}
use Rattle.points.specs.declared.Spot.{Spot}
use Rattle.points.proofs.Rows.{row_at_lem}
use Rattle.points.proofs.Placed.{placed}

pub row_same : (t l k : ℕ) (spot : Spot) → place_of gateway t l k ≡ Ok spot → row_at spot.row ≡ row (index_of t) k
row_same t l k spot e =
    let p = placed gateway t l k e in
    rw p.spot_is (row_at_lem (index_of t) k p.parameter)
