-- The eight opcodes, each a chain of checks in the rules' order with its places. d is the request's data.
-- Assumes nothing.
use Rattle.std.specs.Prelude.{ℕ, ◌+◌, ◌-◌, Bool, true, false, not, List, [], ◌∷◌, ◌++◌, length, get_or, take, drop, leb, ltb, eqb}
use Rattle.base.specs.Lists.{both}
use Rattle.base.specs.Check.{Check, fault, pass, ◌>>=◌, test}
use Rattle.clock.specs.Calendar.{first_year, last_year, month_days}
use Rattle.clock.specs.Moments.{clock_of, weekday_at}
use Rattle.points.specs.Types.{Build, logicals, point, height, index_of, tables}
use Rattle.points.specs.Place.{place_of}
use Rattle.points.specs.There.{there}
use Rattle.points.specs.declared.Spot.{Spot}
use Rattle.store.specs.Store.{Write, values}
use Rattle.rules.specs.Asked.{Held}
use Rattle.rules.specs.Deeds.{Piece, plain, held, Deeds}
use Rattle.rules.specs.Entries.{request, reaches, block, named, located}
use Rattle.rules.specs.Lists.{ends, fitting, reading, writing}

-- a read leaves store and clock, a write the clock
abbrev pub telling : Held → List Piece → Deeds
telling h ps = record { says = ps; puts = []; clock = h.clock }

abbrev pub keeping : Held → List Write → Deeds
keeping h ws = record { says = []; puts = ws; clock = h.clock }

-- ---- 7 and 8: the clock

unfoldable pub plan7 : Held → List ℕ → Check Deeds
plan7 h d = do
  _ ← ends d 0
  pass (telling h (plain (h.clock ++ (weekday_at (clock_of h.clock) ∷ [])) ∷ []))

unfoldable pub plan8 : ℕ → List ℕ → Check Deeds
plan8 L d =
    let year : ℕ = (clock_of d).year in
    let month : ℕ = (clock_of d).month in
    let day : ℕ = (clock_of d).day in
    do
      _ ← test (leb 7 (length d)) 21 (length d)
      _ ← test (leb 2 L) 25 0
      _ ← test (ltb (clock_of d).second 60) 31 0
      _ ← test (ltb (clock_of d).minute 60) 31 1
      _ ← test (ltb (clock_of d).hour 24) 31 2
      _ ← test (both (leb 1 month) (leb month 12)) 31 4
      _ ← test (both (leb first_year year) (leb year last_year)) 31 5
      _ ← test (both (leb 1 day) (leb day (month_days year month))) 31 3
      _ ← ends (drop 7 d) 7
      pass (record { says = []; puts = []; clock = take 7 d })

-- ---- 167 and 166: type, logical, count, start

abbrev pub last_of : List ℕ → ℕ
last_of d = get_or d 3 0 + get_or d 2 0 - 1

-- Every type has a parameter 0, so the first `there` finds type and logical; none of the block is missing where its last is there.
unfoldable pub spans : (b : Build) (d : List ℕ) → Check Spot
spans b d = do
  _ ← test (leb 4 (length d)) 21 (length d)
  _ ← there (place_of b (get_or d 0 0) (get_or d 1 0) 0) 0 1 3
  _ ← test (not (eqb (get_or d 2 0) 0)) 30 2
  there (place_of b (get_or d 0 0) (get_or d 1 0) (last_of d)) 0 1 3

unfoldable pub plan167 : Build → ℕ → Held → List ℕ → Check Deeds
plan167 b L h d =
    let i : ℕ = index_of (get_or d 0 0) in
    let ps : List Piece = held i (get_or d 1 0) (get_or d 3 0) (get_or d 2 0) ∷ plain (take 4 d) ∷ [] in
    do
      _ ← spans b d
      _ ← test (reaches (request L) (point i).reads) 25 0
      _ ← ends (drop 4 d) 4
      _ ← fitting ps
      pass (telling h ps)

unfoldable pub plan166 : Build → ℕ → Held → List ℕ → Check Deeds
plan166 b L h d =
    let i : ℕ = index_of (get_or d 0 0) in
    do
      _ ← spans b d
      _ ← test (reaches (request L) (point i).writes) 25 0
      ws ← writing b (request L) h.store (block i (get_or d 1 0) (get_or d 3 0)) (get_or d 2 0) (drop 4 d) 4 []
      pass (keeping h ws)

-- ---- 180 and 181: count, then three numbers for each

unfoldable pub counted : (d : List ℕ) → Check Unit
counted d = do
  _ ← test (leb 1 (length d)) 21 0
  test (not (eqb (get_or d 0 0) 0)) 30 0

unfoldable pub plan180 : Build → ℕ → Held → List ℕ → Check Deeds
plan180 b L h d = do
  _ ← counted d
  ps ← reading b (request L) named (get_or d 0 0) (drop 1 d) 1 (plain (take 1 d) ∷ [])
  pass (telling h ps)

unfoldable pub plan181 : Build → ℕ → Held → List ℕ → Check Deeds
plan181 b L h d = do
  _ ← counted d
  ws ← writing b (request L) h.store named (get_or d 0 0) (drop 1 d) 1 []
  pass (keeping h ws)

-- ---- 10 and 11: table, start location, count

-- the last location of a table
abbrev pub last_location : ℕ
last_location = height (point tables) - 1

unfoldable pub locates : (b : Build) (d : List ℕ) → Check Unit
locates b d = do
  _ ← test (leb 3 (length d)) 21 (length d)
  _ ← test (ltb (get_or d 0 0) (logicals b tables)) 29 0
  _ ← test (both (leb 1 (get_or d 1 0)) (leb (get_or d 1 0) last_location)) 29 1
  _ ← test (not (eqb (get_or d 2 0) 0)) 30 2
  _ ← test (leb (get_or d 1 0 + get_or d 2 0) (last_location + 1)) 29 2
  pass tt

-- the bytes of the locations, as they are stored when the request arrives
abbrev pub locations : Build → Held → List ℕ → List ℕ
locations b h d = values b h.store tables (get_or d 0 0) (get_or d 1 0) (get_or d 2 0)

unfoldable pub plan10 : Build → ℕ → Held → List ℕ → Check Deeds
plan10 b L h d = do
  _ ← locates b d
  ps ← reading b (request L) (located (locations b h d)) (get_or d 2 0) (drop 3 d) 3
      (held tables (get_or d 0 0) 0 1 ∷ plain (take 3 d) ∷ [])
  pass (telling h ps)

unfoldable pub plan11 : Build → ℕ → Held → List ℕ → Check Deeds
plan11 b L h d = do
  _ ← locates b d
  ws ← writing b (request L) h.store (located (locations b h d)) (get_or d 2 0) (drop 3 d) 3 []
  pass (keeping h ws)

-- ---- the opcodes that are served

pub data Opcode : Type 0 where
  read7 set8 read10 write11 write166 read167 read180 write181 unserved : Opcode

abbrev pub pick : Bool → Opcode → Opcode → Opcode
pick true a b = a
pick false a b = b

unfoldable pub opcode_of : ℕ → Opcode
opcode_of n =
    pick (eqb n 7) read7 (pick (eqb n 8) set8 (pick (eqb n 10) read10 (pick (eqb n 11) write11 (pick (eqb n 166) write166
    (pick (eqb n 167) read167 (pick (eqb n 180) read180 (pick (eqb n 181) write181 unserved)))))))

unfoldable pub plan : Build → Opcode → ℕ → Held → List ℕ → Check Deeds
plan b read7 L h d = plan7 h d
plan b set8 L h d = plan8 L d
plan b read10 L h d = plan10 b L h d
plan b write11 L h d = plan11 b L h d
plan b write166 L h d = plan166 b L h d
plan b read167 L h d = plan167 b L h d
plan b read180 L h d = plan180 b L h d
plan b write181 L h d = plan181 b L h d
plan b unserved L h d = fault 20 0
