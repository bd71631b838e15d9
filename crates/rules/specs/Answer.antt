-- The whole answer to a request: outcome, reply length, store, clock and reply space, for any frame, store, clock, own address, level
-- and reply space.
-- Assumes nothing.
use Rattle.std.specs.Prelude.{ℕ, Bool, cond, List, [], ◌∷◌, length}
use Rattle.base.specs.Check.{Check, fault, pass}
use Rattle.base.specs.Lists.{over}
use Rattle.points.specs.Types.{Build}
use Rattle.store.specs.Store.{stored}
use Rattle.frame.specs.Address.{source}
use Rattle.frame.specs.Frame.{opcode, is_broadcast, data_of, frame_of}
use Rattle.rules.specs.Asked.{Asked, Held}
use Rattle.rules.specs.Received.{received}
use Rattle.rules.specs.Deeds.{Deeds, told}
use Rattle.rules.specs.Opcodes.{opcode_of, plan}

pub record Answer : Type 0 where
  pub outcome : ℕ
  pub count : ℕ
  pub store : List ℕ
  pub clock : List ℕ
  pub reply : List ℕ

-- what an error frame carries: opcode 255 with number and place
abbrev pub error_opcode : ℕ
error_opcode = 255

abbrev pub error_data : ℕ → ℕ → List ℕ
error_data number place = number ∷ place ∷ []

-- a broadcast is acted on and not answered
abbrev pub to_all : Asked → Bool
to_all a = is_broadcast a.frame

-- the frame that is sent: the addresses swapped, with our own as its source
unfoldable pub sent : Asked → ℕ → List ℕ → List ℕ
sent a op d = cond (to_all a) [] (frame_of (source a.frame) a.us op d)

-- the store and the clock as they are, with a frame in the reply space
abbrev pub refusing : ℕ → Held → List ℕ → List ℕ → Answer
refusing n h r f = record { outcome = n; count = length f; store = h.store; clock = h.clock; reply = over r f }

-- a plan carried out
unfoldable pub carried : Build → Asked → Held → List ℕ → Check Deeds → Answer
carried b a h r (fault n p) = refusing n h r (sent a error_opcode (error_data n p))
carried b a h r (pass d) =
    let f : List ℕ = sent a (opcode a.frame) (told b h.store d.says) in
    record { outcome = 0; count = length f; store = stored b h.store d.puts; clock = d.clock; reply = over r f }

-- what is planned for a request that is received
abbrev pub planned : Build → Asked → Held → Check Deeds
planned b a h = plan b (opcode_of (opcode a.frame)) a.level h (data_of a.frame)

unfoldable pub admitted : Build → Asked → Held → List ℕ → Check Unit → Answer
admitted b a h r (fault n p) = refusing n h r []
admitted b a h r (pass x) = carried b a h r (planned b a h)

unfoldable pub answer : Build → Asked → Held → List ℕ → Answer
answer b a h r = admitted b a h r (received b a h (length r))
