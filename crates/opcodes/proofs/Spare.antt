-- Spare bytes behind the last that is wanted.
-- Assumes nothing.
use Prim.Native.Nat.{ℕ, ◌-◌}
use native.Mathlib.Omega.{arith}
use mathlib.Core.Path.{◌≡◌, refl}
use mathlib.Core.List.{List}
use lib.Dec.{leb, eqb}
use lib.ListN.{length, drop, length-drop}
use Rattle.base.specs.Check.{test}
use Rattle.rules.specs.Lists.{ends}

nothing_left : (m n : ℕ) → eqb (m - n) 0 ≡ leb m n
nothing_left m n = grind arith

pub none_spare : (n : ℕ) (d : List ℕ) → ends (drop n d) n ≡ test (leb (length d) n) 21 n
unfolding ends
none_spare n d = rw (length-drop n d, nothing_left (length d) n) refl
