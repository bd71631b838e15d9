-- What every request leaves in the reply space, and that all that is handed in keeps its length.
-- Assumes nothing.
use Rattle.std.specs.Prelude.{ℕ, ◌≤◌, ◌≡◌, ◌⊎◌, List, length, drop}
use Rattle.points.specs.Types.{Build}
use Rattle.frame.specs.Frame.{longest}
use Rattle.rules.specs.Asked.{Asked, Held}
use Rattle.rules.specs.Answer.{answer}
use Rattle.rules.specs.System.{system_write}
use Rattle.demands.specs.Outcomes.{Untouched, Sends}

-- nothing, or one frame, to whoever asked
abbrev pub ReplyIsOneFrame : Type 0
ReplyIsOneFrame = (b : Build) (a : Asked) (h : Held) (r : List ℕ)
    → Untouched r (answer b a h r) ⊎ ((op : ℕ) × (d : List ℕ) × Sends a r (answer b a h r) op d)

-- the bytes behind it are as they were
abbrev pub SpaceBehindStays : Type 0
SpaceBehindStays = (b : Build) (a : Asked) (h : Held) (r : List ℕ) → drop (answer b a h r).count (answer b a h r).reply ≡ drop (answer b a h r).count r

-- no longer than 263 bytes, and never longer than its space
abbrev pub ReplyFits : Type 0
ReplyFits = (b : Build) (a : Asked) (h : Held) (r : List ℕ) → length h.clock ≡ 7
    → ((answer b a h r).count ≤ longest) × ((answer b a h r).count ≤ length r) × (length (answer b a h r).reply ≡ length r)

-- ---- lengths

abbrev pub RequestKeepsStoreLength : Type 0
RequestKeepsStoreLength = (b : Build) (a : Asked) (h : Held) (r : List ℕ) → length (answer b a h r).store ≡ length h.store

abbrev pub RequestKeepsClockLength : Type 0
RequestKeepsClockLength = (b : Build) (a : Asked) (h : Held) (r : List ℕ) → length h.clock ≡ 7 → length (answer b a h r).clock ≡ 7

abbrev pub SystemWriteKeepsStoreLength : Type 0
SystemWriteKeepsStoreLength = (b : Build) (s : List ℕ) (t l k : ℕ) (v : List ℕ) → length (system_write b s t l k v).store ≡ length s
