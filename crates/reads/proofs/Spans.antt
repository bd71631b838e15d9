-- The bytes of one parameter.
-- Assumes nothing.
use Prim.Native.Nat.{ℕ, zero, suc}
use native.Mathlib.Omega.{arith}
use mathlib.Core.Path.{◌≡◌, refl}
use mathlib.Core.List.{List, [], ◌∷◌}
use lib.ListN.{get_or, take, drop}
use Rattle.base.specs.Lists.{sum}
use Rattle.points.specs.Types.{point}
use Rattle.points.specs.Place.{lens, len_at}
use Rattle.store.specs.Store.{span_of}

one_of : (xs : List ℕ) (k : ℕ) → sum (take 1 (drop k xs)) ≡ get_or xs k 0
one_of [] zero = refl
one_of [] (suc k) = refl
one_of (x ∷ xs) zero = omega arith
one_of (x ∷ xs) (suc k) = one_of xs k

pub span_one : (i k : ℕ) → span_of i k 1 ≡ len_at i k
unfolding len_at
span_one i k = one_of (lens (point i)) k
