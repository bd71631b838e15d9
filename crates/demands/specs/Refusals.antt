-- What a refusal leaves: store and clock as they were, and in the reply space one error frame or nothing.
-- Assumes nothing.
use Rattle.std.specs.Prelude.{ℕ, ◌≤◌, ◌≡◌, true, List}
use Rattle.base.specs.Check.{fault, pass}
use Rattle.points.specs.Types.{Build}
use Rattle.values.specs.Number.{raw_read, telling}
use Rattle.rules.specs.Asked.{Asked, Held}
use Rattle.rules.specs.Received.{received}
use Rattle.rules.specs.Answer.{to_all, planned, answer}
use Rattle.rules.specs.System.{system_write, fill, ticking}
use Rattle.demands.specs.Outcomes.{Silent, Faulted, Untouched, ErrorFrame}

-- ---- what was there stays

abbrev pub RefusedRequestChangesNothing : Type 0
RefusedRequestChangesNothing = (b : Build) (a : Asked) (h : Held) (r : List ℕ) → ((answer b a h r).outcome ≡ 0 → ⊥)
    → ((answer b a h r).store ≡ h.store) × ((answer b a h r).clock ≡ h.clock)

abbrev pub RefusedSystemWriteChangesNothing : Type 0
RefusedSystemWriteChangesNothing = (b : Build) (s : List ℕ) (t l k : ℕ) (v : List ℕ) → ((system_write b s t l k v).outcome ≡ 0 → ⊥)
    → (system_write b s t l k v).store ≡ s

abbrev pub RefusedFillChangesNothing : Type 0
RefusedFillChangesNothing = (b : Build) (s : List ℕ) → ((fill b s).outcome ≡ 0 → ⊥) → (fill b s).store ≡ s

abbrev pub RefusedTickChangesNothing : Type 0
RefusedTickChangesNothing = (c : List ℕ) → ((ticking c).outcome ≡ 0 → ⊥) → (ticking c).clock ≡ c

-- kind and bits are what a number read for C fills in
abbrev pub RefusedRawReadChangesNothing : Type 0
RefusedRawReadChangesNothing = (b : Build) (s : List ℕ) (t l k kind bits : ℕ) → ((telling kind bits (raw_read b s t l k)).outcome ≡ 0 → ⊥)
    → ((telling kind bits (raw_read b s t l k)).kind ≡ kind) × ((telling kind bits (raw_read b s t l k)).bits ≡ bits)

-- ---- the reply space

abbrev pub SilentRefusalWritesNothing : Type 0
SilentRefusalWritesNothing = (b : Build) (a : Asked) (h : Held) (r : List ℕ) → Silent (answer b a h r).outcome → Untouched r (answer b a h r)

abbrev pub BroadcastWritesNothing : Type 0
BroadcastWritesNothing = (b : Build) (a : Asked) (h : Held) (r : List ℕ) → to_all a ≡ true → Untouched r (answer b a h r)

abbrev pub FaultSendsErrorFrame : Type 0
FaultSendsErrorFrame = (b : Build) (a : Asked) (h : Held) (r : List ℕ) → Faulted (answer b a h r).outcome → ErrorFrame b a h r (answer b a h r)

-- the place of a request's fault, where the request was received
abbrev pub PlaceIsByte : Type 0
PlaceIsByte = (b : Build) (a : Asked) (h : Held) (r n p : ℕ) → received b a h r ≡ pass tt → planned b a h ≡ fault n p → p ≤ 255
