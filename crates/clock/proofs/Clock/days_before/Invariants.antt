-- The loop of `clock::Clock::days_before`: the days of the months so far, at most 31 each.
use Rattle.std.proofs.Common.{◌≡◌, ◌≤◌, ◌*◌}
use Rattle.clock.specs.Calendar.{months_days}
use Rattle.clock.proofs.Clock.days_before.Given as goal

abbrev pub invariant-loop-m : goal.invariant-loop-m
invariant-loop-m l = (l.days ≡ months_days l.year l.m) × (l.days ≤ 31 * l.m)
