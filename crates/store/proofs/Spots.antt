-- A spot's bytes are a parameter's value, and a value put there is a value stored.
-- Assumes nothing.
use mathlib.Core.Path.{◌≡◌, refl}
use mathlib.Core.List.{List}
use Prim.Native.Nat.{ℕ}
use Rattle.std.specs.Prelude.{Ok}
use Rattle.base.specs.Lists.{part, put}
use Rattle.points.specs.Types.{Build, index_of}
use Rattle.points.specs.Place.{spot_of, place_of}
use Rattle.points.specs.declared.Spot.{Spot}
use Rattle.points.proofs.Placed.{placed}
use Rattle.store.specs.Store.{value, Write, storing}

module _ (b : Build) (s : List ℕ) {spot : Spot} where
  pub value_at : (i l k : ℕ) → spot ≡ spot_of b i l k → part s spot.begin spot.len ≡ value b s i l k
  unfolding value
  value_at i l k e = rw e refl

  pub value_found : (t l k : ℕ) → place_of b t l k ≡ Ok spot → part s spot.begin spot.len ≡ value b s (index_of t) l k
  value_found t l k e = value_at (index_of t) l k (placed b t l k e).spot_is

  pub stored_at : (w : Write) → spot ≡ spot_of b w.type w.logical w.parameter → put s spot.begin w.bytes ≡ storing b s w
  unfolding storing
  stored_at w e = rw e refl
