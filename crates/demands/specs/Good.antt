-- What the firmware holds, in order: a whole store with every value in range, a clock of seven bytes with a valid date.
-- Assumes nothing.
use Rattle.std.specs.Prelude.{ℕ, ◌≤◌, ◌≡◌, true, length}
use Rattle.clock.specs.Moments.{valid_clock, clock_of}
use Rattle.points.specs.Types.{Build, logicals, gateway}
use Rattle.points.specs.Place.{store_size}
use Rattle.rules.specs.Asked.{Held}
use Rattle.rules.specs.InRange.{InRange}

pub record Good (b : Build) (h : Held) : Type 0 where
  pub whole : length h.store ≡ store_size b
  pub all_in_range : InRange b h.store
  pub seven : length h.clock ≡ 7
  pub valid : valid_clock (clock_of h.clock) ≡ true

-- a build with no more logicals of any type than the gateway's: beyond those a text such as "Soft Pt 100" would not be of two digits
abbrev pub NoLarger : Build → Type 0
NoLarger b = (i : ℕ) → logicals b i ≤ logicals gateway i
