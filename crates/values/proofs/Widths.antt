-- The number that a value of one byte says.
-- Assumes nothing.
use mathlib.Core.Path.{◌≡◌}
use mathlib.Core.List.{List, [], ◌∷◌}
use Prim.Native.Nat.{ℕ}
use native.Mathlib.Omega.{arith}
use lib.ListN.{length, get_or}
use Rattle.base.specs.Bytes.{le}

pub le_one : (v : List ℕ) → length v ≡ 1 → get_or v 0 0 ≡ le v
unfolding le
le_one [] e = absurd (omega arith)
le_one (a ∷ []) e = omega arith
le_one (a ∷ b ∷ v) e = absurd (omega arith)
