-- The store as a list of bytes: what a parameter holds, and the store once values are stored.
-- All that stands above goes by these definitions and their laws, and speaks of no offset.
-- Assumes nothing.
use Rattle.std.specs.Prelude.{ℕ, zero, suc, ◌≡◌, List, [], ◌∷◌, ◌++◌, take, drop}
use Rattle.base.specs.Lists.{part, put, sum}
use Rattle.points.specs.Types.{Build, point}
use Rattle.points.specs.Place.{lens, offset, len_at}

-- the bytes of parameter k of logical l of the i-th type
unfoldable pub value : Build → List ℕ → ℕ → ℕ → ℕ → List ℕ
value b s i l k = part s (offset b i l k) (len_at i k)

-- the bytes of n parameters from k up
unfoldable pub values : Build → List ℕ → ℕ → ℕ → ℕ → ℕ → List ℕ
values b s i l k zero = []
values b s i l k (suc n) = value b s i l k ++ values b s i l (suc k) n

-- how many bytes they are
abbrev pub span_of : ℕ → ℕ → ℕ → ℕ
span_of i k n = sum (take n (drop k (lens (point i))))

-- a value for a parameter, which goes by its type's index
pub record Write : Type 0 where
  pub type : ℕ
  pub logical : ℕ
  pub parameter : ℕ
  pub bytes : List ℕ

-- the value is for this parameter
abbrev pub Names : Write → ℕ → ℕ → ℕ → Type 0
Names w i l k = (w.type ≡ i) × (w.logical ≡ l) × (w.parameter ≡ k)

-- the store with one value stored
unfoldable pub storing : Build → List ℕ → Write → List ℕ
storing b s w = put s (offset b w.type w.logical w.parameter) w.bytes

-- the store with a list of values stored, the last of them first in the list
unfoldable pub stored : Build → List ℕ → List Write → List ℕ
stored b s [] = s
stored b s (w ∷ ws) = storing b (stored b s ws) w
