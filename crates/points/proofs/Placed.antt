-- What a place that was found says: type, logical and parameter are of the build, and the bytes lie within the store.
-- Assumes nothing.
use mathlib.Core.Path.{◌≡◌, refl, sym}
use mathlib.Core.Bool.{Bool, true, false}
use Prim.Native.Nat.{ℕ, ◌<◌}
use Rattle.std.specs.Prelude.{Result, Ok, Err, if◌then◌else◌}
use native.Mathlib.Omega.{arith}
use borrow.Author.Tests.{ltb-true}
use lib.Dec.{ltb}
use Rattle.points.specs.Types.{index_of, point, height, Build, logicals, gateway}
use Rattle.points.specs.Place.{place_of, spot_of, Here, IsInside}
use Rattle.points.specs.Sums.{store_bytes}
use Rattle.points.specs.declared.Spot.{Spot}
use Rattle.points.specs.declared.Missing.{Missing}
use Rattle.points.specs.declared.Missing.TheVariants.{NoPointType, NoLogical, NoParameter}
use Rattle.points.proofs.Laws.{fits}
use Rattle.points.proofs.Rows.{row_below, row-length, len-small}

-- a parameter that the build has
pub here_inside : (i l k : ℕ) → Here gateway i l k → IsInside (spot_of gateway i l k)
here_inside i l k h =
    record {
      row = row_below i k h.parameter;
      whole = omega (arith, fits gateway i l k h.logical, store_bytes);
      length = sym (row-length i k h.parameter);
      short = len-small i k;
    }

pub record Placed (b : Build) (t l k : ℕ) (spot : Spot) : Type 0 where
  pub spot_is : spot ≡ spot_of b (index_of t) l k
  pub logical : l < logicals b (index_of t)
  pub parameter : k < height (point (index_of t))

pub placed : (b : Build) (t l k : ℕ) {spot : Spot} → place_of b t l k ≡ Ok spot → Placed b t l k spot
unfolding place_of
placed b t l k {spot} e = go (ltb 0 (logicals b (index_of t))) _ _ refl refl e
  where
    go : (x y z : Bool) → ltb l (logicals b (index_of t)) ≡ y → ltb k (height (point (index_of t))) ≡ z
        → ◌≡◌ {A = Result Spot Missing} (if x then if y then if z then Ok (spot_of b (index_of t) l k) else Err NoParameter else Err NoLogical else Err NoPointType) (Ok spot)
        → Placed b t l k spot
    go true true true ey ez e = record { spot_is = cc; logical = ltb-true _ _ ey; parameter = ltb-true _ _ ez }
    go true true false ey ez e = cc
    go true false z ey ez e = cc
    go false y z ey ez e = cc
