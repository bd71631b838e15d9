-- The outcomes that the rules list, and what a request leaves in the reply space.
-- Assumes nothing.
use Rattle.std.specs.Prelude.{ℕ, ◌+◌, ◌≤◌, ◌≡◌, true, false, ◌⊎◌, List, [], ◌∷◌, length}
use Rattle.base.specs.Lists.{over}
use Rattle.frame.specs.Address.{source}
use Rattle.frame.specs.Frame.{frame_of}
use Rattle.values.specs.Number.{Reading, Got, Refused}
use Rattle.points.specs.Types.{Build}
use Rattle.rules.specs.Asked.{Asked, Held}
use Rattle.rules.specs.Answer.{Answer, to_all, error_opcode, error_data}
use Rattle.demands.specs.Table.{First}
use Rattle.demands.specs.Tables.{request_table}

-- 1 to 8 write no byte
abbrev pub Silent : ℕ → Type 0
Silent n = (1 ≤ n) × (n ≤ 8)

-- 20 to 31 reply with an error frame
abbrev pub Faulted : ℕ → Type 0
Faulted n = (20 ≤ n) × (n ≤ 31)

-- the outcomes of a request
abbrev pub Listed : ℕ → Type 0
Listed n = (n ≡ 0) ⊎ (Silent n ⊎ Faulted n)

-- one of some numbers
abbrev pub Among : List ℕ → ℕ → Type 0
Among [] n = ⊥
Among (x ∷ xs) n = (n ≡ x) ⊎ Among xs n

-- the outcome of a number read
abbrev pub reading_outcome : Reading → ℕ
reading_outcome (Got x) = 0
reading_outcome (Refused n) = n

-- ---- the reply space, as r before

-- not a byte is written
abbrev pub Untouched : List ℕ → Answer → Type 0
Untouched r x = (x.count ≡ 0) × (x.reply ≡ r)

-- one frame stands at the front, to whoever asked, and the bytes behind it are as they were
abbrev pub Replies : Asked → List ℕ → Answer → ℕ → List ℕ → Type 0
Replies a r x op d = (x.count ≡ length d + 8) × (x.reply ≡ over r (frame_of (source a.frame) a.us op d))

-- a frame is sent to whoever asked; where the request is to all, not a byte is
pub data Sends (a : Asked) (r : List ℕ) (x : Answer) (op : ℕ) (d : List ℕ) : Type 0 where
  to_everyone : to_all a ≡ true → Untouched r x → Sends a r x op d
  to_one : to_all a ≡ false → Replies a r x op d → Sends a r x op d

-- an error frame: opcode 255 with the outcome's number and the place of the first row that applies, which is a byte
pub record ErrorFrame (b : Build) (a : Asked) (h : Held) (r : List ℕ) (x : Answer) : Type 0 where
  pub place : ℕ
  pub byte : place ≤ 255
  pub row : First (request_table b a h (length r)) x.outcome place
  pub frame : Sends a r x error_opcode (error_data x.outcome place)
