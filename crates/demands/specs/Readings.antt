-- The two calls of the number read give one reading.
-- Assumes nothing.
use Rattle.std.specs.Prelude.{ℕ, ◌≡◌, List}
use Rattle.base.specs.Check.{pass, ◌>>=◌}
use Rattle.points.specs.Types.{Build}
use Rattle.values.specs.Number.{number_read, reading_of, Raw, raw_read, number_of, kind_of, telling, reading_in}

-- what C is told says the same number, or the same refusal, whatever kind and bits held before
abbrev pub BothReadOne : Type 0
BothReadOne = (b : Build) (s : List ℕ) (t l k kind bits : ℕ) → reading_of (number_read b s t l k) ≡ reading_in (telling kind bits (raw_read b s t l k))

-- the same of the checks themselves, places included
abbrev pub NumberIsRaw : Type 0
NumberIsRaw = (b : Build) (s : List ℕ) (t l k : ℕ) → number_read b s t l k ≡ (raw_read b s t l k >>= λ r. pass (number_of r.kind r.bits))

-- and the number is of the kind that C is told
abbrev pub KindIsKept : Type 0
KindIsKept = (b : Build) (s : List ℕ) (t l k : ℕ) (r : Raw) → raw_read b s t l k ≡ pass r → kind_of (number_of r.kind r.bits) ≡ r.kind
