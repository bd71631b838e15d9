-- What two stores have in common where a level cannot tell them apart.
-- Assumes nothing.
use Rattle.std.specs.Prelude.{ℕ, ◌≤◌, ◌<◌, ◌≡◌, List}
use Rattle.points.specs.Types.{Build, logicals, point}
use Rattle.store.specs.Store.{value}

-- two stores hold the same in every parameter of a type that level K reads
abbrev pub Agree : Build → ℕ → List ℕ → List ℕ → Type 0
Agree b K s t = (i l k : ℕ) → l < logicals b i → (point i).reads ≤ K → value b s i l k ≡ value b t i l k
