-- What the code's tests of a block need: every type has a parameter 0, and the last of some parameters is there where their end is not too far.
-- Assumes nothing.
use Prim.Native.Nat.{ℕ, ◌+◌, ◌-◌, ◌<◌}
use native.Mathlib.Omega.{arith}
use mathlib.Core.Path.{◌≡◌, refl}
use mathlib.Core.Bool.{true, not}
use lib.Dec.{leb, ltb, eqb}
use Rattle.base.proofs.Below.{at-below}
use Rattle.points.specs.Types.{point, points, height}

-- every type has a parameter 0
pub some_height : (i : ℕ) → i < 6 → ltb 0 (height (point i)) ≡ true
unfolding point points
some_height i h = at-below 6 (λ j. ltb 0 (height (point j))) refl i h

-- the last of some parameters is below a number where their end is not past it
pub last_end : (k n h : ℕ) → not (eqb n 0) ≡ true → ltb (k + n - 1) h ≡ leb (k + n) h
last_end k n h e = grind arith
