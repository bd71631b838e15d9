-- What the definitions give for each example is what it shows.
-- Assumes nothing.
use Rattle.std.specs.Prelude.{ℕ, zero, suc, ◌<◌, ◌≡◌, refl, List, [], ◌∷◌, map, length, get_or, drop}
use Rattle.std.proofs.Common.{not-suc-le-zero, le_of_suc-le-suc, ap}
use Rattle.examples.specs.Cases.{Case, seen, wanted, computed}
use Rattle.examples.specs.Examples.{examples, no_case, AllAreSeen, EachIsSeen}

pub all_seen : AllAreSeen
unfolding examples computed
all_seen = refl

-- ---- each by itself: a place in the list names it

at_row : {A : Type 0} (f g : Case → A) (cs : List Case) → map f cs ≡ map g cs → (i : ℕ) → i < length cs → f (get_or cs i no_case) ≡ g (get_or cs i no_case)
at_row f g [] e i h = absurd (not-suc-le-zero h)
at_row f g (c ∷ cs) e zero h = ap (λ (l : List _). get_or l 0 (f c)) e
at_row f g (c ∷ cs) e (suc i) h = at_row f g cs (ap (drop 1) e) i (le_of_suc-le-suc h)

pub each_seen : EachIsSeen
each_seen = at_row seen wanted examples all_seen
