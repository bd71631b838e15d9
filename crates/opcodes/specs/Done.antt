-- What an opcode that was carried out leaves, buffer by buffer.
-- Assumes nothing.
use Rattle.std.specs.Prelude.{ℕ, Bool, cond, List}
use Rattle.base.specs.Check.{Check, fault, pass}
use Rattle.base.specs.Lists.{put}
use Rattle.points.specs.Types.{gateway}
use Rattle.store.specs.Store.{stored}
use Rattle.rules.specs.Asked.{Held}
use Rattle.rules.specs.Deeds.{Deeds, told, sizes}

-- a store and a clock
abbrev pub held : List ℕ → List ℕ → Held
held s c = record { store = s; clock = c }

-- what a read answers with: how many data bytes stand in the reply
abbrev pub said : Check Deeds → Check ℕ
said (fault n p) = fault n p
said (pass d) = pass (sizes d.says)

-- what a write answers with
abbrev pub done : Check Deeds → Check Unit
done (fault n p) = fault n p
done (pass d) = pass tt

-- the reply space r: told from place 6 on where there is to be a reply, which a broadcast has not
abbrev pub space_by : Bool → List ℕ → List ℕ → Check Deeds → List ℕ
space_by aloud s r (fault n p) = r
space_by aloud s r (pass d) = cond aloud (put r 6 (told gateway s d.says)) r

-- the store s, and the clock c
abbrev pub store_by : List ℕ → Check Deeds → List ℕ
store_by s (fault n p) = s
store_by s (pass d) = stored gateway s d.puts

abbrev pub clock_by : List ℕ → Check Deeds → List ℕ
clock_by c (fault n p) = c
clock_by c (pass d) = d.clock
