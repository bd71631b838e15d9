-- What a request that is acted on brings and takes, in the rules' words: the values it stores, the data of its reply, the clock it
-- leaves. No check stands here.
-- Assumes nothing.
use Rattle.std.specs.Prelude.{ℕ, zero, suc, ◌≡◌, List, [], ◌∷◌, ◌++◌, get_or, take, drop}
use Rattle.base.specs.Lists.{All}
use Rattle.clock.specs.Moments.{clock_of, weekday_at}
use Rattle.points.specs.Types.{Build, index_of, tables}
use Rattle.points.specs.Place.{len_at}
use Rattle.store.specs.Store.{Write, Names, value, values, stored}
use Rattle.frame.specs.Frame.{opcode, data_of}
use Rattle.rules.specs.Asked.{Asked, Held}
use Rattle.rules.specs.Entries.{Named, Source, block, named, located, spoken, after}
use Rattle.rules.specs.Lists.{entry}
use Rattle.rules.specs.Opcodes.{locations, Opcode, read7, set8, read10, write11, write166, read167, read180, write181, unserved, opcode_of}
use Rattle.rules.specs.Answer.{Answer}
use Rattle.demands.specs.Rows.{name_of}
use Rattle.demands.specs.Outcomes.{Sends}

-- ---- values to store: each behind the entry that names it, the last of them first in the list

unfoldable pub values_in : Source → ℕ → List ℕ → List Write → List Write
values_in src zero d ws = ws
values_in src (suc n) d ws =
    let p : Named = name_of src d in
    let v : List ℕ = drop (spoken src) d in
    values_in (after src) n (drop (len_at p.type p.parameter) v) (entry p v ∷ ws)

unfoldable pub brought : Build → Opcode → Held → List ℕ → List Write
brought b read7 h d = []
brought b set8 h d = []
brought b read10 h d = []
brought b write11 h d = values_in (located (locations b h d)) (get_or d 2 0) (drop 3 d) []
brought b write166 h d = values_in (block (index_of (get_or d 0 0)) (get_or d 1 0) (get_or d 3 0)) (get_or d 2 0) (drop 4 d) []
brought b read167 h d = []
brought b read180 h d = []
brought b write181 h d = values_in named (get_or d 0 0) (drop 1 d) []
brought b unserved h d = []

-- none of some values is for this parameter
abbrev pub Unnamed : List Write → ℕ → ℕ → ℕ → Type 0
Unnamed ws i l k = All (λ w. Names w i l k → ⊥) ws

-- ---- the data of the reply

-- of n entries: for each the numbers that name it, where the request has them, and its value
unfoldable pub values_of : Build → List ℕ → Source → ℕ → List ℕ → List ℕ
values_of b s src zero d = []
values_of b s src (suc n) d =
    let p : Named = name_of src d in
    take (spoken src) d ++ (value b s p.type p.logical p.parameter ++ values_of b s (after src) n (drop (spoken src) d))

unfoldable pub replied : Build → Opcode → Held → List ℕ → List ℕ
-- second, minute, hour, day, month, year in two bytes, weekday
replied b read7 h d = h.clock ++ (weekday_at (clock_of h.clock) ∷ [])
replied b set8 h d = []
-- table, start, count; the table's revision; the values
replied b read10 h d =
    take 3 d ++ (value b h.store tables (get_or d 0 0) 0 ++ values_of b h.store (located (locations b h d)) (get_or d 2 0) (drop 3 d))
replied b write11 h d = []
replied b write166 h d = []
-- the same four, then the values of start to start + count - 1
replied b read167 h d = take 4 d ++ values b h.store (index_of (get_or d 0 0)) (get_or d 1 0) (get_or d 3 0) (get_or d 2 0)
-- count, then for each its three numbers and its value
replied b read180 h d = take 1 d ++ values_of b h.store named (get_or d 0 0) (drop 1 d)
replied b write181 h d = []
replied b unserved h d = []

-- ---- the clock: 8 sets it, nothing else does

unfoldable pub clock_left : Opcode → Held → List ℕ → List ℕ
clock_left read7 h d = h.clock
clock_left set8 h d = take 7 d
clock_left read10 h d = h.clock
clock_left write11 h d = h.clock
clock_left write166 h d = h.clock
clock_left read167 h d = h.clock
clock_left read180 h d = h.clock
clock_left write181 h d = h.clock
clock_left unserved h d = h.clock

-- ---- all that a request leaves where it is acted on

abbrev pub operation : Asked → Opcode
operation a = opcode_of (opcode a.frame)

pub record ActedOn (b : Build) (a : Asked) (h : Held) (r : List ℕ) (x : Answer) : Type 0 where
  pub store : x.store ≡ stored b h.store (brought b (operation a) h (data_of a.frame))
  pub clock : x.clock ≡ clock_left (operation a) h (data_of a.frame)
  pub reply : Sends a r x (opcode a.frame) (replied b (operation a) h (data_of a.frame))
