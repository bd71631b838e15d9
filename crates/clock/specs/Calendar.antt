-- The Gregorian calendar of the years 2000 to 2099.
-- Assumes nothing.
use Rattle.std.specs.Prelude.{Bool, true, false, ◌&&◌, cond, List, [], ◌∷◌, ℕ, zero, suc, ◌+◌, ◌-◌, ◌%◌, eqb, leb, get_or, set}

abbrev pub first_year : ℕ
first_year = 2000

abbrev pub last_year : ℕ
last_year = 2099

unfoldable pub leap : ℕ → Bool
leap y = cond (eqb (y % 400) 0) true (cond (eqb (y % 100) 0) false (eqb (y % 4) 0))

-- the lengths of the months 1 to 12 of a common year; there is no month 0
abbrev pub lengths : List ℕ
lengths = 0 ∷ 31 ∷ 28 ∷ 31 ∷ 30 ∷ 31 ∷ 30 ∷ 31 ∷ 31 ∷ 30 ∷ 31 ∷ 30 ∷ 31 ∷ []

-- how many days month m of year y has; 0 where there is no such month
unfoldable pub month_days : ℕ → ℕ → ℕ
month_days y m = get_or (set lengths 2 (cond (leap y) 29 28)) m 0

-- a day of one of the years
unfoldable pub valid_date : ℕ → ℕ → ℕ → Bool
valid_date y m d = leb first_year y && (leb y last_year && (leb 1 d && leb d (month_days y m)))

-- the days from 2000-01-01 to the first day of year 2000 + n
unfoldable pub years_days : ℕ → ℕ
years_days zero = 0
years_days (suc n) = years_days n + cond (leap (first_year + n)) 366 365

-- the days of the months of year y before month m
unfoldable pub months_days : ℕ → ℕ → ℕ
months_days y zero = 0
months_days y (suc m) = months_days y m + month_days y m

-- 1 is Sunday; 2000-01-01 was a Saturday
unfoldable pub weekday_of : ℕ → ℕ → ℕ → ℕ
weekday_of y m d = (years_days (y - first_year) + months_days y m + d + 5) % 7 + 1
