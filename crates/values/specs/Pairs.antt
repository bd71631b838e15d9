-- The pairs of type 124: parameters that are judged together, whichever of the two is written.
-- Assumes nothing.
use Rattle.std.specs.Prelude.{ℕ, Bool, true, false, List, [], ◌∷◌, get_or, leb, ltb, eqb}
use Rattle.base.specs.Lists.{both, either, only}
use Rattle.base.specs.Bytes.{le}
use Rattle.points.specs.Types.{Build, segments}
use Rattle.store.specs.Store.{value}

pub data Pair : Type 0 where
  none sizes periodic daily : Pair
  deriving Discrete as pair?

-- the pair that a parameter of type 124 belongs to: size (1) and configured points (12), 3 and 5, 4 and 6
unfoldable pub pair_of : ℕ → Pair
pair_of k =
    get_or (none ∷ sizes ∷ none ∷ periodic ∷ daily ∷ periodic ∷ daily ∷ none ∷ none ∷ none ∷ none ∷ none ∷ sizes ∷ none ∷ []) k none

-- whether the parameter has a mate
abbrev pub mates : Pair → Bool
mates none = false
mates sizes = true
mates periodic = true
mates daily = true

abbrev pub in_pair : ℕ → Bool
in_pair k = mates (pair_of k)

-- an index is below its count, or zero where the count is zero
abbrev pub under : ℕ → ℕ → Bool
under index count = either (ltb index count) (both (eqb index 0) (eqb count 0))

-- a pair on logical l, where g gives what a parameter holds
unfoldable pub paired : Pair → ℕ → (ℕ → List ℕ) → Bool
paired none l g = true
paired sizes l g = either (eqb l 0) (leb (le (g 12)) (le (g 1)))
paired periodic l g = under (le (g 5)) (le (g 3))
paired daily l g = under (le (g 6)) (le (g 4))

-- the pair of a parameter, as store s has it
unfoldable pub together : Build → List ℕ → ℕ → ℕ → ℕ → Bool
together b s i l k = only (eqb i segments) (paired (pair_of k) l (value b s segments l))
