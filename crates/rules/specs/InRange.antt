-- What it is for the values of a store, and for values that are to be stored, to be in range.
-- Assumes nothing.
use Rattle.std.specs.Prelude.{ℕ, ◌<◌, ◌≡◌, true, List, [], ◌∷◌}
use Rattle.base.specs.Check.{pass}
use Rattle.points.specs.Types.{Build, logicals, point, height, row}
use Rattle.store.specs.Store.{value, Write, stored}
use Rattle.values.specs.Judged.{judged}
use Rattle.values.specs.Pairs.{together}

-- a value is in range: judged by its row, and its pair in store s
abbrev pub Ranged : Build → List ℕ → Write → Type 0
Ranged b s w =
    (judged b (row w.type w.parameter) w.logical w.bytes ≡ pass tt) × (together b s w.type w.logical w.parameter ≡ true)

-- what a store holds at a parameter, as a value that could be stored there
abbrev pub holding : Build → List ℕ → ℕ → ℕ → ℕ → Write
holding b s i l k = record { type = i; logical = l; parameter = k; bytes = value b s i l k }

-- every value of a store is in range
abbrev pub InRange : Build → List ℕ → Type 0
InRange b s = (i l k : ℕ) → l < logicals b i → k < height (point i) → Ranged b s (holding b s i l k)

-- each of a list of values is in range in the store that it makes
abbrev pub Judged : Build → List ℕ → List Write → Type 0
Judged b s [] = Unit {0}
Judged b s (w ∷ ws) = Ranged b (stored b s (w ∷ ws)) w × Judged b s ws
