-- No contract of a call leaves a choice: two results that meet it are equal.
-- Assumes nothing.
use Rattle.std.specs.Prelude.{ℕ, ◌≡◌, Result, List}
use Rattle.faults.specs.Faults.{outcome_of, refusal_check}
use Rattle.faults.specs.declared.Refusal.{Refusal}
use Rattle.clock.specs.Moments.{next_moment, Ticked, tick}
use Rattle.clock.specs.declared.Clock.{Clock}
use Rattle.points.specs.Types.{Build}
use Rattle.values.specs.Number.{number_read, Reading, reading_of, raw_read, Told, telling}
use Rattle.values.specs.Raws.{raw_check}
use Rattle.values.specs.declared.readings.Number.{Number}
use Rattle.values.specs.declared.readings.Raw.{Raw}
use Rattle.rules.specs.Asked.{Asked, Held}
use Rattle.rules.specs.Answer.{Answer, answer}
use Rattle.rules.specs.System.{Left, system_write, fill, Passed, ticking}

abbrev pub RequestIsUnique : Type 0
RequestIsUnique = (b : Build) (a : Asked) (h : Held) (r : List ℕ) (x y : Answer) → x ≡ answer b a h r → y ≡ answer b a h r → x ≡ y

abbrev pub SystemWriteIsUnique : Type 0
SystemWriteIsUnique = (b : Build) (s : List ℕ) (t l k : ℕ) (v : List ℕ) (x y : Left) → x ≡ system_write b s t l k v → y ≡ system_write b s t l k v → x ≡ y

abbrev pub FillIsUnique : Type 0
FillIsUnique = (b : Build) (s : List ℕ) (x y : Left) → x ≡ fill b s → y ≡ fill b s → x ≡ y

abbrev pub TickIsUnique : Type 0
TickIsUnique = (c : List ℕ) (x y : Passed) → x ≡ ticking c → y ≡ ticking c → x ≡ y

abbrev pub MomentIsUnique : Type 0
MomentIsUnique = (c : Clock) (x y : Ticked) → x ≡ tick c → y ≡ tick c → x ≡ y

abbrev pub NumberReadIsUnique : Type 0
NumberReadIsUnique = (b : Build) (s : List ℕ) (t l k : ℕ) (x y : Reading) → x ≡ reading_of (number_read b s t l k) → y ≡ reading_of (number_read b s t l k) → x ≡ y

abbrev pub RawReadIsUnique : Type 0
RawReadIsUnique = (b : Build) (s : List ℕ) (t l k kind bits : ℕ) (x y : Told) → x ≡ telling kind bits (raw_read b s t l k) → y ≡ telling kind bits (raw_read b s t l k) → x ≡ y

-- ---- the same of what the functions of the code give back: what is said of x and of y is what the function's contract says of its result

-- how a request ended, how many bytes its reply has, and the store, the clock and the reply space that it leaves
abbrev pub RequestResultIsUnique : Type 0
RequestResultIsUnique = (b : Build) (a : Asked) (h : Held) (r : List ℕ) (x y : Result Unit Refusal) (m n : ℕ) (s t c d p q : List ℕ)
    → record { outcome = outcome_of x; count = m; store = s; clock = c; reply = p } ≡ answer b a h r
    → record { outcome = outcome_of y; count = n; store = t; clock = d; reply = q } ≡ answer b a h r
    → (x ≡ y) × (m ≡ n) × (s ≡ t) × (c ≡ d) × (p ≡ q)

-- how a system write ended, and the store that it leaves
abbrev pub SystemWriteResultIsUnique : Type 0
SystemWriteResultIsUnique = (b : Build) (s : List ℕ) (t l k : ℕ) (v : List ℕ) (x y : Result Unit Refusal) (p q : List ℕ)
    → record { outcome = outcome_of x; store = p } ≡ system_write b s t l k v
    → record { outcome = outcome_of y; store = q } ≡ system_write b s t l k v
    → (x ≡ y) × (p ≡ q)

-- how a fill ended, and the store that it leaves
abbrev pub FillResultIsUnique : Type 0
FillResultIsUnique = (b : Build) (s : List ℕ) (x y : Result Unit Refusal) (p q : List ℕ)
    → record { outcome = outcome_of x; store = p } ≡ fill b s
    → record { outcome = outcome_of y; store = q } ≡ fill b s
    → (x ≡ y) × (p ≡ q)

abbrev pub MomentResultIsUnique : Type 0
MomentResultIsUnique = (c : Clock) (x y : Result Clock Refusal) → x ≡ next_moment c → y ≡ next_moment c → x ≡ y

abbrev pub NumberResultIsUnique : Type 0
NumberResultIsUnique = (b : Build) (s : List ℕ) (t l k : ℕ) (x y : Result Number Refusal)
    → refusal_check x ≡ number_read b s t l k → refusal_check y ≡ number_read b s t l k → x ≡ y

abbrev pub RawResultIsUnique : Type 0
RawResultIsUnique = (b : Build) (s : List ℕ) (t l k : ℕ) (x y : Result Raw Refusal)
    → raw_check x ≡ raw_read b s t l k → raw_check y ≡ raw_read b s t l k → x ≡ y
