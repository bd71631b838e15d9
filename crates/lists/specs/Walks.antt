-- The declared types of the lists, as the rules have them, and a list with entries taken.
-- Assumes nothing.
use Rattle.std.specs.Prelude.{ℕ, ◌+◌, ◌*◌, ◌≤◌, ◌<◌, List, get_or, drop}
use Rattle.base.specs.Check.{Check, pass, ◌>>=◌}
use Rattle.points.specs.Types.{Point, point, height, segments, logicals, gateway}
use Rattle.points.specs.Place.{first, spot_of, Here, IsInside}
use Rattle.points.specs.Columns.{read_levels, write_levels}
use Rattle.points.specs.declared.Tlp.{Tlp}
use Rattle.points.specs.declared.Missing.{Missing}
use Rattle.points.specs.declared.Missing.TheVariants.{NoPointType, NoLogical, NoParameter}
use Rattle.faults.specs.declared.Fault.{Fault}
use Rattle.faults.specs.declared.Refusal.TheVariants as refusals
use Rattle.rules.specs.Entries as rules
use Rattle.rules.specs.Entries.{Source, block, named, located, request, system}
use Rattle.rules.specs.Lists.{read_level, write_level}
use Rattle.lists.specs.declared.Caller.{Caller}
use Rattle.lists.specs.declared.Caller.TheVariants.{Request, System}
use Rattle.lists.specs.declared.Purpose.{Purpose}
use Rattle.lists.specs.declared.Purpose.TheVariants.{Read, Write}
use Rattle.lists.specs.declared.finding.Entry.{Entry}
use Rattle.lists.specs.declared.finding.Places.{Places}

abbrev pub caller_of : Caller → rules.Caller
caller_of (Request L) = request L
caller_of System = system

-- the level that reading or writing needs: of a type, and of a row
abbrev pub level_by : Purpose → Point → ℕ
level_by Read = read_level
level_by Write = write_level

abbrev pub level_at : Purpose → ℕ → ℕ
level_at Read r = get_or read_levels r 0
level_at Write r = get_or write_levels r 0

-- a list with e entries taken
unfoldable pub taken : ℕ → Source → Source
taken e (block i l k) = block i l (k + e)
taken e named = named
taken e (located bs) = located (drop (3 * e) bs)

-- a parameter as the code has it: where it lies in the store, and its logical
unfoldable pub entry_of : rules.Named → Entry
entry_of p = record { spot = spot_of gateway p.type p.logical p.parameter; logical = record { 0 = p.logical } }

-- an entry that is found, as the code has it
unfoldable pub entry_check : Check rules.Named → Check Entry
entry_check c = do
  p ← c
  pass (entry_of p)

-- n parameters from k up of logical l of the i-th type, which the build has
pub record Run (i l k n : ℕ) : Type 0 where
  pub type : i < 6
  pub logical : l < logicals gateway i
  pub last : k + n ≤ height (point i)

-- what is known of a list of n entries: all parameters of a block are of the build
abbrev pub Standing : Source → ℕ → Type 0
Standing (block i l k) n = Run i l k n
Standing named n = Unit {0}
Standing (located bs) n = Unit {0}

-- the same, asked of each entry: a block of none may be any
abbrev pub AnyStanding : Source → ℕ → Type 0
AnyStanding (block i l k) n = (e : ℕ) → e < n → Here gateway i l (k + e)
AnyStanding named n = Unit {0}
AnyStanding (located bs) n = Unit {0}

-- what is known of an entry that was found: it lies inside the store, and its logical is one of its type's
pub record Sits (entry : Entry) : Type 0 where
  pub spot : IsInside entry.spot
  pub segment : (first segments ≤ entry.spot.row → entry.logical.0 < logicals gateway segments)

-- three numbers that stand one behind the other
abbrev pub tlp_at : List ℕ → ℕ → Tlp
tlp_at d i =
    record {
      point = record { 0 = get_or d i 0 };
      logical = record { 0 = get_or d (i + 1) 0 };
      parameter = record { 0 = get_or d (i + 2) 0 };
    }

-- the fault of a number that names nothing
abbrev pub fault_of : Places → Missing → Fault
fault_of at NoPointType = record { refusal = refusals.NoPointType; place = at.point }
fault_of at NoLogical = record { refusal = refusals.NoLogical; place = at.logical }
fault_of at NoParameter = record { refusal = refusals.NoParameter; place = at.parameter }
