-- The clock: a valid date stays one, whatever a request sets it to, and as it ticks.
-- Assumes nothing.
use Prim.Native.Nat.{ℕ}
use native.Mathlib.Omega.{arith}
use mathlib.Core.Path.{◌≡◌}
use mathlib.Core.Bool.{true}
use mathlib.Core.List.{List}
use borrow.Author.Tests.{leb-true, ltb-true}
use lib.ListN.{take}
use lib.Dec.{leb}
use Rattle.base.proofs.Below.{both_left, both_right}
use Rattle.base.proofs.Checks.{Holds, faulty, passing, step, holds-map, step-test}
use Rattle.clock.specs.Calendar.{first_year}
use Rattle.clock.specs.Moments.{valid_clock, clock_of}
use Rattle.clock.proofs.Valid.{valid_facts, facts_valid, later-valid, read_back}
use Rattle.points.specs.Types.{Build}
use Rattle.rules.specs.Asked.{Held}
use Rattle.frame.specs.Frame.{data_of}
use Rattle.rules.specs.Opcodes.{plan8, Opcode, read7, set8, read10, write11, write166, read167, read180, write181, unserved, plan}
use Rattle.rules.specs.Answer.{Answer}
use Rattle.rules.specs.System.{Passed}
use Rattle.rules.proofs.Answered.{Answered, unheard, refused, acted, answered, Moved, moved_on, stopped, moved}
use Rattle.demands.specs.Brought.{clock_left, operation}
use Rattle.demands.specs.InOrder.{RequestKeepsDate, TickKeepsDate}
use Rattle.demands.proofs.Acted.{keeps}

pub tick-valid : TickKeepsDate
tick-valid c v = go (moved c)
  where
    go : {x : Passed} → Moved c x → valid_clock (clock_of x.clock) ≡ true
    go (moved_on e) = rw read_back (facts_valid _ (later-valid _ (valid_facts _ e)))
    go (stopped e) = v

-- ---- a clock that is set

front : (d : List ℕ) → clock_of (take 7 d) ≡ clock_of d
unfolding clock_of
front = grind arith

set-valid : (L : ℕ) (d : List ℕ) → Holds (λ x. valid_clock (clock_of x.clock) ≡ true) (plan8 L d)
unfolding plan8
set-valid L d =
    step _ λ _. step _ λ _. step-test _ _ λ s. step-test _ _ λ m. step-test _ _ λ h. step _ λ _. step-test _ _ λ y. step-test _ _ λ day. step _ λ _.
    passing (rw (front d) (facts_valid _ (record {
      second = ltb-true _ _ s;
      minute = ltb-true _ _ m;
      hour = ltb-true _ _ h;
      from_first = leb-true _ _ (both_left _ _ y);
      to_last = leb-true _ _ (both_right (leb first_year (clock_of d).year) _ y);
      from_one = leb-true _ _ (both_left _ _ day);
      to_days = leb-true _ _ (both_right (leb 1 (clock_of d).day) _ day);
    })))

-- whichever the opcode, a plan on a valid clock leaves one
plan-valid : (b : Build) (L : ℕ) (h : Held) (d : List ℕ) → valid_clock (clock_of h.clock) ≡ true → (o : Opcode)
    → Holds (λ x. valid_clock (clock_of x.clock) ≡ true) (plan b o L h d)
unfolding clock_left plan
plan-valid b L h d v set8 = set-valid L d
plan-valid b L h d v read7 = holds-map (keeps b L h d read7) λ x q. rw q.clock v
plan-valid b L h d v read10 = holds-map (keeps b L h d read10) λ x q. rw q.clock v
plan-valid b L h d v write11 = holds-map (keeps b L h d write11) λ x q. rw q.clock v
plan-valid b L h d v write166 = holds-map (keeps b L h d write166) λ x q. rw q.clock v
plan-valid b L h d v read167 = holds-map (keeps b L h d read167) λ x q. rw q.clock v
plan-valid b L h d v read180 = holds-map (keeps b L h d read180) λ x q. rw q.clock v
plan-valid b L h d v write181 = holds-map (keeps b L h d write181) λ x q. rw q.clock v
plan-valid b L h d v unserved = faulty

pub clock_valid : RequestKeepsDate
clock_valid b a h r v = go (answered b a h r)
  where
    go : {x : Answer} → Answered b a h r x → valid_clock (clock_of x.clock) ≡ true
    go (unheard e) = v
    go (refused k e) = v
    go (acted {d} k e l) = elim (rw e at (plan-valid b a.level h (data_of a.frame) v (operation a))) [ passing q ↦ q ]
