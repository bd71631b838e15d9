-- The lists of parameters that requests have, and how the next entry of one is found and checked.
-- Assumes nothing.
use Rattle.std.specs.Prelude.{ℕ, suc, ◌+◌, Bool, true, not, List, length, get_or, drop, leb}
use Rattle.base.specs.Check.{Check, pass, ◌>>=◌, test}
use Rattle.points.specs.Row.{Access, locked_at}
use Rattle.points.specs.Types.{Build, Point, point, index_of}
use Rattle.points.specs.Place.{place_of}
use Rattle.points.specs.There.{there}

-- who reads or writes: a request of a level, or the system, which has none and may write what is read-only
pub data Caller : Type 0 where
  request : (level : ℕ) → Caller
  system : Caller

abbrev pub reaches : Caller → ℕ → Bool
reaches (request L) needed = leb needed L
reaches system needed = true

abbrev pub may_write : Caller → Access → ℕ → Bool
may_write (request L) a l = not (locked_at a l)
may_write system a l = true

-- a parameter, by its type's index
pub record Named : Type 0 where
  pub type : ℕ
  pub logical : ℕ
  pub parameter : ℕ

-- where the entries of a list come from
pub data Source : Type 0 where
  -- 166: a block of parameters, from one up
  block : (type logical parameter : ℕ) → Source
  -- 180 and 181: three numbers stand before each
  named : Source
  -- 10 and 11: the bytes of the locations that are left
  located : List ℕ → Source

-- how many bytes of the data name the next entry
abbrev pub spoken : Source → ℕ
spoken (block i l k) = 0
spoken named = 3
spoken (located bs) = 0

-- the list with one entry taken
abbrev pub after : Source → Source
after (block i l k) = block i l (suc k)
after named = named
after (located bs) = located (drop 3 bs)

-- type, logical, parameter, level; the level's place is the type's
unfoldable pub found : Build → (Point → ℕ) → Caller → (t l k ofType ofLogical ofParameter : ℕ) → Check Named
found b level who t l k pt pl pk = do
  _ ← there (place_of b t l k) pt pl pk
  _ ← test (reaches who (level (point (index_of t)))) 25 pt
  pass (record { type = index_of t; logical = l; parameter = k })

-- The next entry, where d is what is left of the data and begins at place at. A block's parameters are checked before its first is taken.
unfoldable pub next : Build → (Point → ℕ) → Caller → Source → List ℕ → ℕ → Check Named
next b level who (block i l k) d at = pass (record { type = i; logical = l; parameter = k })
next b level who named d at = do
  _ ← test (leb 3 (length d)) 21 (at + length d)
  found b level who (get_or d 0 0) (get_or d 1 0) (get_or d 2 0) at (at + 1) (at + 2)
next b level who (located bs) d at = found b level who (get_or bs 0 0) (get_or bs 1 0) (get_or bs 2 0) 1 1 1

-- where a fault says that an entry is read-only: at the value, at the type, at the start location
abbrev pub locked_place : Source → ℕ → ℕ
locked_place (block i l k) at = at
locked_place named at = at
locked_place (located bs) at = 1
