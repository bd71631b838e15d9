-- Outcomes 1 to 8: what is refused without a byte written, in the rules' order.
-- Assumes nothing.
use Rattle.std.specs.Prelude.{ℕ, length, leb, eqb}
use Rattle.base.specs.Check.{Check, pass, ◌>>=◌, test}
use Rattle.clock.specs.Moments.{valid_clock, clock_of}
use Rattle.points.specs.Types.{Build}
use Rattle.points.specs.Place.{store_size}
use Rattle.frame.specs.Address.{stationary}
use Rattle.frame.specs.Frame.{longest}
use Rattle.frame.specs.Framing.{whole, directed}
use Rattle.rules.specs.Asked.{Asked, Held}

-- for a reply space of r bytes
unfoldable pub received : Build → Asked → Held → ℕ → Check Unit
received b a h r = do
  _ ← test (leb longest r) 1 0
  _ ← test (eqb (length h.store) (store_size b)) 2 0
  _ ← test (stationary a.us) 3 0
  _ ← test (leb a.level 3) 3 0
  _ ← test (valid_clock (clock_of h.clock)) 3 0
  _ ← whole a.frame
  _ ← directed a.us a.frame
  pass tt
