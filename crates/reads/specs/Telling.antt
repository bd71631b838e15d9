-- A list that is read, as the code walks it: the whole data stays, and of the reply so far its size is known, or the bytes.
-- Assumes nothing.
use Rattle.std.specs.Prelude.{ℕ, zero, suc, ◌+◌, List, [], length, drop, leb, slice_range}
use Rattle.base.specs.Check.{Check, fault, pass, ◌>>=◌, test}
use Rattle.base.specs.Lists.{part, put}
use Rattle.points.specs.Types.{gateway}
use Rattle.rules.specs.Entries as rules
use Rattle.rules.specs.Entries.{Source, spoken, after, next}
use Rattle.rules.specs.Deeds.{Piece, sizes}
use Rattle.rules.specs.Lists.{read_level}
use Rattle.lists.specs.Walks.{entry_check}
use Rattle.lists.specs.declared.finding.Entry.{Entry}

-- how many bytes the pieces of a check have
abbrev pub sized : Check (List Piece) → Check ℕ
sized c = c >>= λ ps. pass (sizes ps)

-- the pieces of a check that passed
abbrev pub pieces_of : Check (List Piece) → List Piece
pieces_of (fault n p) = []
pieces_of (pass ps) = ps

abbrev pub Passes : Check ℕ → Type 0
Passes (fault n p) = ⊥
Passes (pass x) = Unit {0}

-- n entries are left to check, and the next begins at place at of the data; so many bytes the reply has so far
unfoldable pub sizing : rules.Caller → Source → ℕ → List ℕ → (at size : ℕ) → Check ℕ
sizing who src zero d at size = do
  _ ← test (leb (length d) at) 21 at
  _ ← test (leb size 255) 28 0
  pass size
sizing who src (suc n) d at size = do
  entry ← entry_check (next gateway read_level who src (drop at d) at)
  sizing who (after src) n d (at + spoken src) (size + (spoken src + entry.spot.len))

-- what follows from an entry that is found; else the reply as it was
abbrev pub unless_fault : Check Entry → List ℕ → (Entry → List ℕ) → List ℕ
unless_fault (fault n p) r f = r
unless_fault (pass entry) r f = f entry

-- the reply r once the n entries that are left are told, from place to on
unfoldable pub telling : rules.Caller → List ℕ → Source → ℕ → List ℕ → (at to : ℕ) → List ℕ → List ℕ
telling who s src zero d at to r = r
telling who s src (suc n) d at to r =
    unless_fault (entry_check (next gateway read_level who src (drop at d) at)) r (λ entry.
    telling who s (after src) n d (at + spoken src) (to + (spoken src + entry.spot.len))
    (put (put r to (slice_range d at (at + spoken src))) (to + spoken src) (part s entry.spot.begin entry.spot.len)))
