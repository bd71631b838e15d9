-- What is in order stays in order: values in range, a clock with a valid date, and both over any sequence of calls.
-- Assumes nothing.
use Rattle.std.specs.Prelude.{ℕ, ◌≡◌, true, List, length}
use Rattle.clock.specs.Moments.{valid_clock, clock_of}
use Rattle.points.specs.Types.{Build}
use Rattle.store.specs.Fresh.{fresh}
use Rattle.rules.specs.Asked.{Asked, Held}
use Rattle.rules.specs.Answer.{answer}
use Rattle.rules.specs.System.{system_write, fill, ticking}
use Rattle.rules.specs.InRange.{InRange}
use Rattle.demands.specs.Calls.{Call, call, run}
use Rattle.demands.specs.Good.{Good, NoLarger}

-- ---- ranges

abbrev pub RequestKeepsRange : Type 0
RequestKeepsRange = (b : Build) (a : Asked) (h : Held) (r : List ℕ) → InRange b h.store → InRange b (answer b a h r).store

abbrev pub SystemWriteKeepsRange : Type 0
SystemWriteKeepsRange = (b : Build) (s : List ℕ) (t l k : ℕ) (v : List ℕ) → InRange b s → InRange b (system_write b s t l k v).store

abbrev pub FillKeepsRange : Type 0
FillKeepsRange = (b : Build) → NoLarger b → (s : List ℕ) → InRange b s → InRange b (fill b s).store

abbrev pub FreshIsInRange : Type 0
FreshIsInRange = (b : Build) → NoLarger b → InRange b (fresh b)

-- ---- the clock's date

abbrev pub RequestKeepsDate : Type 0
RequestKeepsDate = (b : Build) (a : Asked) (h : Held) (r : List ℕ) → valid_clock (clock_of h.clock) ≡ true
    → valid_clock (clock_of (answer b a h r).clock) ≡ true

abbrev pub TickKeepsDate : Type 0
TickKeepsDate = (c : List ℕ) → valid_clock (clock_of c) ≡ true → valid_clock (clock_of (ticking c).clock) ≡ true

-- ---- all of it

abbrev pub FilledIsGood : Type 0
FilledIsGood = (b : Build) → NoLarger b → (c : List ℕ) → length c ≡ 7 → valid_clock (clock_of c) ≡ true → Good b (record { store = fresh b; clock = c })

abbrev pub CallKeepsGood : Type 0
CallKeepsGood = (b : Build) → NoLarger b → (h : Held) → Good b h → (x : Call) → Good b (call b h x).held

abbrev pub RunKeepsGood : Type 0
RunKeepsGood = (b : Build) → NoLarger b → (h : Held) → Good b h → (cs : List Call) → Good b (run b h cs).held
