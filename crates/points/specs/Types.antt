-- The six point types, and how many logicals of each a build has.
-- Assumes nothing.
use Rattle.std.specs.Prelude.{ℕ, suc, cond, List, [], ◌∷◌, length, get_or, eqb}
use Rattle.points.specs.Row.{Row, no_row}
use Rattle.points.specs.Rows.{rows97, rows98, rows99, rows122, rows123, rows124}

pub record Point : Type 0 where
  pub id : ℕ
  pub rows : List Row
  pub reads : ℕ
  pub writes : ℕ

-- each with its read level and its write level, ascending
unfoldable pub points : List Point
unfolding rows97 rows98 rows99 rows122 rows123 rows124
points =
    record { id = 97; rows = rows97; reads = 0; writes = 1 }
    ∷ record { id = 98; rows = rows98; reads = 0; writes = 1 }
    ∷ record { id = 99; rows = rows99; reads = 0; writes = 2 }
    ∷ record { id = 122; rows = rows122; reads = 1; writes = 3 }
    ∷ record { id = 123; rows = rows123; reads = 2; writes = 3 }
    ∷ record { id = 124; rows = rows124; reads = 0; writes = 2 }
    ∷ []

abbrev pub no_point : Point
no_point = record { id = 0; rows = []; reads = 0; writes = 0 }

-- The definitions go by a type's index in this list, 0 to 5. Two of them have rules of their own:
abbrev pub tables : ℕ
tables = 2

abbrev pub segments : ℕ
segments = 5

-- the index of the type with number t; past the last where there is none
abbrev pub index_in : List Point → ℕ → ℕ
index_in [] t = 0
index_in (p ∷ ps) t = cond (eqb t p.id) 0 (suc (index_in ps t))

unfoldable pub index_of : ℕ → ℕ
unfolding points
index_of t = index_in points t

unfoldable pub point : ℕ → Point
unfolding points
point i = get_or points i no_point

-- how many parameters a type has, and the row of one
abbrev pub height : Point → ℕ
height p = length p.rows

unfoldable pub row : ℕ → ℕ → Row
row i k = get_or (point i).rows k no_row

-- ---- a build: how many logicals it has of each type

pub record Build : Type 0 where
  pub logicals97 : ℕ
  pub logicals98 : ℕ
  pub logicals99 : ℕ
  pub logicals122 : ℕ
  pub logicals123 : ℕ
  pub logicals124 : ℕ

abbrev pub counts : Build → List ℕ
counts b = b.logicals97 ∷ b.logicals98 ∷ b.logicals99 ∷ b.logicals122 ∷ b.logicals123 ∷ b.logicals124 ∷ []

unfoldable pub logicals : Build → ℕ → ℕ
logicals b i = get_or (counts b) i 0

-- the gateway's
unfoldable pub gateway : Build
gateway =
    record { logicals97 = 6; logicals98 = 32; logicals99 = 16; logicals122 = 1; logicals123 = 1; logicals124 = 13 }
