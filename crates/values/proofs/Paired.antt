-- A pair depends on its own two parameters.
-- Assumes nothing.
use Prim.Native.Nat.{ℕ}
use mathlib.Core.Path.{◌≡◌, refl}
use mathlib.Core.List.{List}
use Rattle.values.specs.Pairs.{Pair, none, sizes, periodic, daily, pair_of, paired}

pub pair_depends : (p : Pair) (l : ℕ) (g g' : ℕ → List ℕ) → ((q : ℕ) → pair_of q ≡ p → g q ≡ g' q) → paired p l g ≡ paired p l g'
unfolding paired pair_of
pair_depends none l g g' h = refl
pair_depends sizes l g g' h = rw (h 1 refl, h 12 refl)
pair_depends periodic l g g' h = rw (h 3 refl, h 5 refl)
pair_depends daily l g g' h = rw (h 4 refl, h 6 refl)
