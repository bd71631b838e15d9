-- Sums of the first numbers of a list: each number's stretch lies before the next one's, and within the whole.
-- Assumes nothing.
use mathlib.Core.Path.{◌≡◌, refl}
use mathlib.Core.List.{List, [], ◌∷◌}
use Prim.Native.Nat.{ℕ, zero, suc, ◌+◌, ◌≤◌, ◌<◌}
use native.Mathlib.Nat.{le_of_suc-le-suc, not-suc-le-zero}
use native.Mathlib.Omega.{arith}
use lib.ListN.{get_or, take}
use Rattle.base.specs.Lists.{sum}

-- the k-th stretch ends before a later one begins
pub before : (xs : List ℕ) (k m : ℕ) → k < m → sum (take k xs) + get_or xs k 0 ≤ sum (take m xs)
before xs k zero h = absurd (not-suc-le-zero h)
before [] zero (suc m) h = omega arith
before [] (suc k) (suc m) h = omega arith
before (x ∷ xs) zero (suc m) h = omega arith
before (x ∷ xs) (suc k) (suc m) h = omega (arith, before xs k m (le_of_suc-le-suc h))

-- and within the whole
pub inside : (xs : List ℕ) (k : ℕ) → sum (take k xs) + get_or xs k 0 ≤ sum xs
inside [] zero = omega arith
inside [] (suc k) = omega arith
inside (x ∷ xs) zero = omega arith
inside (x ∷ xs) (suc k) = omega (arith, inside xs k)

-- the next stretch begins where this one ends
pub step : (xs : List ℕ) (k : ℕ) → sum (take (suc k) xs) ≡ sum (take k xs) + get_or xs k 0
step [] zero = refl
step [] (suc k) = refl
step (x ∷ xs) zero = omega arith
step (x ∷ xs) (suc k) = omega (arith, step xs k)
