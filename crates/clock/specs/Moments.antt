-- The clock: which moments are valid, the moment one second later, and the seven bytes that hold one.
-- Assumes nothing.
use Rattle.std.specs.Prelude.{Bool, ◌&&◌, cond, if◌then◌else◌, Result, Ok, Err, List, [], ◌∷◌, ℕ, ◌+◌, ◌*◌, ◌/◌, ◌%◌, ltb, get_or}
use Rattle.faults.specs.Faults.{number_of}
use Rattle.faults.specs.declared.Refusal.{Refusal}
use Rattle.faults.specs.declared.Refusal.TheVariants.{NotReady}
use Rattle.clock.specs.Calendar.{last_year, valid_date, month_days, weekday_of}
use Rattle.clock.specs.declared.Clock.{Clock}

unfoldable pub valid_clock : Clock → Bool
valid_clock c = ltb c.second 60 && (ltb c.minute 60 && (ltb c.hour 24 && valid_date c.year c.month c.day))

abbrev pub midnight : ℕ → ℕ → ℕ → Clock
midnight y m d = record { second = 0; minute = 0; hour = 0; day = d; month = m; year = y }

-- the day after, at midnight; the last day of all has none, and its last moment stays
unfoldable pub day_later : Clock → Clock
day_later c =
    cond (ltb c.day (month_days c.year c.month)) (midnight c.year c.month (c.day + 1))
    (cond (ltb c.month 12) (midnight c.year (c.month + 1) 1)
    (cond (ltb c.year last_year) (midnight (c.year + 1) 1 1) c))

unfoldable pub later : Clock → Clock
later c =
    cond (ltb c.second 59)
    (record { second = c.second + 1; minute = c.minute; hour = c.hour; day = c.day; month = c.month; year = c.year })
    (cond (ltb c.minute 59)
    (record { second = 0; minute = c.minute + 1; hour = c.hour; day = c.day; month = c.month; year = c.year })
    (cond (ltb c.hour 23)
    (record { second = 0; minute = 0; hour = c.hour + 1; day = c.day; month = c.month; year = c.year })
    (day_later c)))

-- one second later, where it is a moment
abbrev pub next_moment : Clock → Result Clock Refusal
next_moment c = if valid_clock c then Ok (later c) else Err NotReady

-- the outcome of a tick, and what the clock shows after it
pub record Ticked : Type 0 where
  pub outcome : ℕ
  pub clock : Clock

-- a refused tick leaves the clock as it was
abbrev pub ticked : Clock → Result Clock Refusal → Ticked
ticked c (Ok d) = record { outcome = 0; clock = d }
ticked c (Err r) = record { outcome = number_of r; clock = c }

-- one second later; an invalid date comes back unchanged, marked 3
unfoldable pub tick : Clock → Ticked
tick c = ticked c (next_moment c)

-- worked out from the date; 0 where that is not valid
unfoldable pub weekday_at : Clock → ℕ
weekday_at c = cond (valid_clock c) (weekday_of c.year c.month c.day) 0

-- second, minute, hour, day, month, year in two bytes
unfoldable pub clock_of : List ℕ → Clock
clock_of k =
    record {
      second = get_or k 0 0;
      minute = get_or k 1 0;
      hour = get_or k 2 0;
      day = get_or k 3 0;
      month = get_or k 4 0;
      year = get_or k 5 0 + 256 * get_or k 6 0;
    }

unfoldable pub clock_bytes : Clock → List ℕ
clock_bytes c = c.second ∷ c.minute ∷ c.hour ∷ c.day ∷ c.month ∷ c.year % 256 ∷ c.year / 256 ∷ []
