-- A row: what the manual's columns say of one parameter.
-- Assumes nothing.
use Rattle.std.specs.Prelude.{ℕ, Bool, true, false, List, eqb}

-- what a value is
pub data Kind : Type 0 where
  text unsigned signed single double tlp : Kind

-- who may write it: everybody, the system alone, or the system alone on logical 0
pub data Access : Type 0 where
  read_write read_only read_only_first : Access

-- what a value may be
pub data Range : Type 0 where
  -- whatever its kind allows
  any : Range
  between : (least most : ℕ) → Range
  -- a signed byte from -1 to 5
  status : Range
  -- one of the twelve sample rates
  rate : Range
  -- 240 on logical 0, up to 240 on the others
  size : Range
  -- a TLP that names a number
  number : Range

-- what a fill leaves: a number, a text, or a text or number that depends on the logical
pub data Default : Type 0 where
  figure : ℕ → Default
  words : List ℕ → Default
  soft_point segment full_first : Default

pub record Row : Type 0 where
  pub len : ℕ
  pub kind : Kind
  pub access : Access
  pub range : Range
  pub default : Default

-- whether a request may not write it on logical l
abbrev pub locked_at : Access → ℕ → Bool
locked_at read_write l = false
locked_at read_only l = true
locked_at read_only_first l = eqb l 0

-- what a number that is no parameter has: nothing
abbrev pub no_row : Row
no_row = record { len = 0; kind = text; access = read_write; range = any; default = figure 0 }
