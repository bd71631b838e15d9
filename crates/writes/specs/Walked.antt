-- A list that is written, as the code walks it: the whole data stays, and the values of earlier entries are not kept.
-- Assumes nothing.
use Rattle.std.specs.Prelude.{ℕ, zero, suc, ◌+◌, ◌≤◌, List, [], ◌∷◌, length, drop, leb, slice_range}
use Rattle.base.specs.Check.{Check, fault, pass, ◌>>=◌, test, from}
use Rattle.base.specs.Lists.{put}
use Rattle.points.specs.Types.{gateway}
use Rattle.points.specs.Columns.{row_at}
use Rattle.store.specs.Store.{Write}
use Rattle.values.specs.Kinds.{printable}
use Rattle.values.specs.Weighed.{weighed}
use Rattle.rules.specs.Entries as rules
use Rattle.rules.specs.Entries.{Source, request, system, may_write, spoken, after, next, locked_place}
use Rattle.rules.specs.Lists.{write_level}
use Rattle.lists.specs.Walks.{entry_check}
use Rattle.lists.specs.declared.finding.Entry.{Entry}

-- the system writes one value at a time
abbrev pub Alone : rules.Caller → ℕ → Type 0
Alone (request L) n = Unit {0}
Alone system n = n ≤ 1

-- whether a check passed
abbrev pub passed_of : Check (List Write) → Check Unit
passed_of c = c >>= λ ws. pass tt

-- the values of a check that passed
abbrev pub writes_of : Check (List Write) → List Write
writes_of (fault n p) = []
writes_of (pass ws) = ws

-- each byte of a text, whose value begins at a place
unfoldable pub printing : List ℕ → ℕ → Check Unit
printing [] at = pass tt
printing (x ∷ v) at = do
  _ ← test (printable x) 27 at
  printing v at

-- n entries are left to check, and the next begins at place at of the data
unfoldable pub checking : rules.Caller → List ℕ → Source → ℕ → List ℕ → ℕ → Check Unit
checking who s src zero d at = test (leb (length d) at) 21 at
checking who s src (suc n) d at = do
  entry ← entry_check (next gateway write_level who src (drop at d) at)
  _ ← test (may_write who (row_at entry.spot.row).access entry.logical.0) 26 (locked_place src at)
  _ ← test (leb (at + spoken src + entry.spot.len) (length d)) 21 (length d)
  _ ← from (at + spoken src) (weighed gateway s entry.spot.row entry.logical.0 (slice_range d (at + spoken src) (at + spoken src + entry.spot.len)))
  checking who s (after src) n d (at + spoken src + entry.spot.len)

-- what follows from an entry that is found; else the store as it was
abbrev pub unless_fault : Check Entry → List ℕ → (Entry → List ℕ) → List ℕ
unless_fault (fault n p) s f = s
unless_fault (pass entry) s f = f entry

-- the store s once the values of the n entries that are left are stored
unfoldable pub keeping : rules.Caller → Source → ℕ → List ℕ → ℕ → List ℕ → List ℕ
keeping who src zero d at s = s
keeping who src (suc n) d at s =
    unless_fault (entry_check (next gateway write_level who src (drop at d) at)) s (λ entry.
    keeping who (after src) n d (at + spoken src + entry.spot.len)
    (put s entry.spot.begin (slice_range d (at + spoken src) (at + spoken src + entry.spot.len))))
