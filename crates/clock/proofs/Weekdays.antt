-- The weekday: the days of the years by a formula, and what the code makes of them.
-- Assumes nothing.
use Rattle.std.proofs.Common.{◌≡◌, ℕ, ◌+◌, ◌*◌, ◌/◌, ◌≤◌, ◌<◌, Bool, true, eqb, refl}
use borrow.Author.Tests.{eqb-true}
use Rattle.base.proofs.Below.{at-below}
use Rattle.clock.specs.Calendar.{leap, years_days}
use Rattle.clock.specs.Moments.{valid_clock}
use Rattle.clock.specs.declared.Clock.{Clock}
use Rattle.clock.proofs.Valid.{valid_facts}

-- tested at each of the hundred years
formula : ℕ → Bool
formula n = eqb (years_days n) (n * 365 + (n + 3) / 4)

pub days_of_years : (n : ℕ) → n < 100 → years_days n ≡ n * 365 + (n + 3) / 4
unfolding formula years_days leap
days_of_years n h = eqb-true _ _ (at-below 100 formula refl n h)

pub valid_year : (c : Clock) → valid_clock c ≡ true → (2000 ≤ c.year) × (c.year ≤ 2099)
valid_year c e = let v = valid_facts c e in (v.from_first, v.to_last)
