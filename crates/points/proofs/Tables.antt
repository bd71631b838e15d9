-- Each constant table is the column of the rows, by computation.
-- Assumes nothing.
use mathlib.Core.Path.{◌≡◌, refl, ◌∙◌}
use mathlib.Core.Bool.{Bool, true}
use mathlib.Core.List.{map}
use Prim.Native.Nat.{ℕ, ◌≤◌, ◌<◌}
use native.Mathlib.Nat.{zero-add}
use lib.Dec.{leb}
use borrow.Author.Tests.{leb-true}
use lib.ListN.{get_or, get_or-map}
use Rattle.base.proofs.Below.{at-below}
use Rattle.points.specs.Row.{Row, Kind, text, unsigned, signed, single, double, tlp, no_row}
use Rattle.points.specs.Types.{gateway}
use Rattle.points.specs.Place.{areas, base, row_len}
use Rattle.points.specs.Columns.{all_rows, row_at, starts, kind_of, access_of, range_of, initial_of}
use Rattle.points.specs.declared.Kind.TheVariants.{Unsigned}
use Rattle.points.proofs.Rows.{starts-at}

-- a column, whatever it says of a row
by_row : {A : Type 0} (f : Row → A) (row : ℕ) → get_or (map f all_rows) row (f no_row) ≡ f (row_at row)
unfolding row_at
by_row f row = get_or-map f all_rows row no_row

pub length_column : (row : ℕ) → get_or (map row_len all_rows) row 0 ≡ (row_at row).len
length_column row = by_row row_len row

pub kind_column : (row : ℕ) → get_or (map (λ (r : Row). kind_of r.kind) all_rows) row (kind_of no_row.kind) ≡ kind_of (row_at row).kind
kind_column row = by_row (λ r. kind_of r.kind) row

pub access_column : (row : ℕ) → get_or (map (λ (r : Row). access_of r.access) all_rows) row (access_of no_row.access) ≡ access_of (row_at row).access
access_column row = by_row (λ r. access_of r.access) row

pub range_column : (row : ℕ) → get_or (map (λ (r : Row). range_of r.range) all_rows) row (range_of no_row.range) ≡ range_of (row_at row).range
range_column row = by_row (λ r. range_of r.range) row

pub initial_column : (row : ℕ) → get_or (map (λ (r : Row). initial_of r.default) all_rows) row (initial_of no_row.default) ≡ initial_of (row_at row).default
initial_column row = by_row (λ r. initial_of r.default) row

pub base_column : (i : ℕ) → i < 6 → get_or (starts 0 (areas gateway)) i 0 ≡ base gateway i
unfolding base areas
base_column i h = starts-at (areas gateway) 0 i h ∙ zero-add (base gateway i)

-- no unsigned value is longer than four bytes: a test of each row, which is computed
abbrev short : Kind → ℕ → Bool
short text n = true
short unsigned n = leb n 4
short signed n = true
short single n = true
short double n = true
short tlp n = true

short-unsigned : (k : Kind) (n : ℕ) → Unsigned ≡ kind_of k → short k n ≡ true → n ≤ 4
short-unsigned text n e h = cc
short-unsigned unsigned n e h = leb-true n 4 h
short-unsigned signed n e h = cc
short-unsigned single n e h = cc
short-unsigned double n e h = cc
short-unsigned tlp n e h = cc

pub unsigned_short : (row : ℕ) → row < 175 → Unsigned ≡ kind_of (row_at row).kind → (row_at row).len ≤ 4
unfolding row_at
unsigned_short row h e =
    short-unsigned (row_at row).kind (row_at row).len e (at-below 175 (λ r. short (row_at r).kind (row_at r).len) refl row h)
