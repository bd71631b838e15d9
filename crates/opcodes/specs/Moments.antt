-- The numbers of a moment, each in its range.
-- Assumes nothing.
use Rattle.std.specs.Prelude.{leb, ltb}
use Rattle.base.specs.Lists.{both}
use Rattle.base.specs.Check.{Check, ◌>>=◌, test}
use Rattle.clock.specs.Calendar.{first_year, last_year, month_days}
use Rattle.clock.specs.declared.Clock.{Clock}

-- the place of a fault is that of the number among the seven bytes
unfoldable pub moment_check : Clock → Check Unit
moment_check c = do
  _ ← test (ltb c.second 60) 31 0
  _ ← test (ltb c.minute 60) 31 1
  _ ← test (ltb c.hour 24) 31 2
  _ ← test (both (leb 1 c.month) (leb c.month 12)) 31 4
  _ ← test (both (leb first_year c.year) (leb c.year last_year)) 31 5
  test (both (leb 1 c.day) (leb c.day (month_days c.year c.month))) 31 3
