-- A valid date as plain facts; it stays one as the clock ticks; and the seven bytes that hold a moment give it back.
-- Assumes nothing.
use Prim.Native.Nat.{ℕ, suc, ◌+◌, ◌*◌, ◌/◌, ◌%◌, ◌≤◌, ◌<◌}
use native.Mathlib.Numerals.{add-one}
use native.Mathlib.Omega.{arith}
use mathlib.Core.Path.{◌≡◌, refl}
use mathlib.Core.Bool.{Bool, true, false, cond}
use borrow.Author.Tests.{leb-true}
use lib.ListN.{get_or, set}
use lib.Dec.{leb}
use Rattle.base.proofs.Below.{at-below}
use Rattle.clock.specs.Calendar.{first_year, last_year, leap, lengths, month_days, valid_date}
use Rattle.clock.specs.Moments.{valid_clock, midnight, day_later, later, clock_of, clock_bytes}
use Rattle.clock.specs.declared.Clock.{Clock}

-- the facts that a valid date is
pub record Valid (c : Clock) : Type 0 where
  pub second : c.second < 60
  pub minute : c.minute < 60
  pub hour : c.hour < 24
  pub from_first : first_year ≤ c.year
  pub to_last : c.year ≤ last_year
  pub from_one : 1 ≤ c.day
  pub to_days : c.day ≤ month_days c.year c.month

pub valid_facts : (c : Clock) → valid_clock c ≡ true → Valid c
unfolding valid_clock valid_date
valid_facts c e =
    record {
      second = grind arith;
      minute = grind arith;
      hour = grind arith;
      from_first = grind arith;
      to_last = grind arith;
      from_one = grind arith;
      to_days = grind arith;
    }

pub facts_valid : (c : Clock) → Valid c → valid_clock c ≡ true
unfolding valid_clock valid_date
facts_valid c v = grind arith

-- each of the twelve months has a day
some_day : (y m : ℕ) → m < 12 → 1 ≤ month_days y (m + 1)
unfolding month_days
some_day y m h = rw add-one (go (leap y))
  where
    go : (x : Bool) → 1 ≤ get_or (set lengths 2 (cond x 29 28)) (suc m) 0
    go true = leb-true _ _ (at-below 12 (λ j. leb 1 (get_or (set lengths 2 29) (suc j) 0)) refl m h)
    go false = leb-true _ _ (at-below 12 (λ j. leb 1 (get_or (set lengths 2 28) (suc j) 0)) refl m h)

january : (y : ℕ) → 1 ≤ month_days y 1
january y = some_day y 0 (omega arith)

-- ---- one second later

midnight_valid : (y m d : ℕ) → first_year ≤ y → y ≤ last_year → 1 ≤ d → d ≤ month_days y m → valid_clock (midnight y m d) ≡ true
unfolding valid_clock valid_date
midnight_valid y m d a b e f = grind arith

day_later-valid : (c : Clock) → Valid c → valid_clock (day_later c) ≡ true
unfolding day_later
day_later-valid c v =
    let e : valid_clock c ≡ true = facts_valid c v in
    grind (arith, midnight_valid, some_day, january)

-- another time of the same day
same_day : (c : Clock) (s m h : ℕ) → Valid c → s < 60 → m < 60 → h < 24
    → valid_clock (record { second = s; minute = m; hour = h; day = c.day; month = c.month; year = c.year }) ≡ true
unfolding valid_clock valid_date
same_day c s m h v es em eh = grind arith

pub later-valid : (c : Clock) → Valid c → Valid (later c)
unfolding later
later-valid c v =
    let d = day_later-valid c v in
    let same = λ (s m h : ℕ). same_day c s m h v in
    valid_facts _ (grind (arith, same))

-- seven bytes hold a moment
pub read_back : (c : Clock) → clock_of (clock_bytes c) ≡ c
unfolding clock_of clock_bytes
read_back c =
    let e : c.year % 256 + 256 * (c.year / 256) ≡ c.year = omega arith in
    λ i. record { second = c.second; minute = c.minute; hour = c.hour; day = c.day; month = c.month; year = e i }
