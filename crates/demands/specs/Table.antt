-- A table of refusals, read as the rules read theirs: in order, the first that applies.
-- Assumes nothing.
use Rattle.std.specs.Prelude.{ℕ, ◌≡◌, Bool, true, false, cond, ◌⊎◌, List, [], ◌∷◌}
use Rattle.base.specs.Check.{Check, fault, pass}

-- a row: what has to hold, and the number and the place where it does not
pub record Refusal : Type 0 where
  pub holds : Bool
  pub number : ℕ
  pub place : ℕ

abbrev pub unless : Bool → ℕ → ℕ → Refusal
unless x n p = record { holds = x; number = n; place = p }

-- going through the rows in their order
unfoldable pub first_of : List Refusal → Check Unit
first_of [] = pass tt
first_of (r ∷ rs) = cond r.holds (first_of rs) (fault r.number r.place)

-- the first row that applies has number n and place p
abbrev pub First : List Refusal → ℕ → ℕ → Type 0
First [] n p = ⊥
First (r ∷ rs) n p = ((r.holds ≡ false) × (r.number ≡ n) × (r.place ≡ p)) ⊎ ((r.holds ≡ true) × First rs n p)

-- no row applies
abbrev pub NoneApplies : List Refusal → Type 0
NoneApplies [] = Unit {0}
NoneApplies (r ∷ rs) = (r.holds ≡ true) × NoneApplies rs

-- what a table gives: 0 where no row applies, else the number of the first that does
abbrev pub Gives : List Refusal → ℕ → Type 0
Gives rs n = (NoneApplies rs × (n ≡ 0)) ⊎ ((p : ℕ) × First rs n p)
