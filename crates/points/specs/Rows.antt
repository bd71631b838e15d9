-- The 175 parameters of the six point types, a row for each, in the manual's order.
-- Assumes nothing.
use Rattle.std.specs.Prelude.{ℕ, List, [], ◌∷◌, ◌++◌, replicate}
use Prim.Native.String.{String}
use Rattle.base.specs.Bytes.{ascii}
use Rattle.points.specs.Row.{Row, text, unsigned, signed, single, double, tlp, Access, read_write, read_only, read_only_first, any, between, status, rate, size, number, figure, words, soft_point, segment, full_first}

-- ---- lines that the manual repeats

-- a text of n bytes, and what it starts with
abbrev label : ℕ → Access → String → Row
label n a w = record { len = n; kind = text; access = a; range = any; default = words (ascii w) }

-- an unsigned number of n bytes with no narrower range
abbrev whole : ℕ → Access → Row
whole n a = record { len = n; kind = unsigned; access = a; range = any; default = figure 0 }

-- an unsigned number of n bytes in a range, and what it starts with
abbrev ranged : ℕ → Access → ℕ → ℕ → ℕ → Row
ranged n a low high d = record { len = n; kind = unsigned; access = a; range = between low high; default = figure d }

-- 0 or 1
abbrev switch : Access → ℕ → Row
switch a d = ranged 1 a 0 1 d

abbrev float : Row
float = record { len = 4; kind = single; access = read_write; range = any; default = figure 0 }

abbrev wide : Row
wide = record { len = 8; kind = double; access = read_write; range = any; default = figure 0 }

abbrev location : Row
location = record { len = 3; kind = tlp; access = read_write; range = any; default = figure 0 }

-- ---- 3.4.8, type 97: FST register tags

abbrev register : String → Row
register w = label 10 read_write w

unfoldable pub rows97 : List Row
rows97 =
    register "Register1" ∷ register "Register2" ∷ register "Register3" ∷ register "Register4" ∷ register "Register5"
    ∷ register "Register6" ∷ register "Register7" ∷ register "Register8" ∷ register "Register9" ∷ register "Register10" ∷ []

-- ---- 3.4.9, type 98: soft points

-- 0 the label; 1 to 20 floats; 21, 22 longs; 23 to 32 shorts; 33 to 42 bytes; 43 to 52 doubles; 53 to 60 longs; 61 logging enable
unfoldable pub rows98 : List Row
rows98 =
    record { len = 40; kind = text; access = read_write; range = any; default = soft_point }
    ∷ (replicate 20 float ++ replicate 2 (whole 4 read_write) ++ replicate 10 (whole 2 read_write) ++ replicate 10 (whole 1 read_write)
    ++ replicate 10 wide ++ replicate 8 (whole 4 read_write) ++ (switch read_write 1 ∷ []))

-- ---- 3.4.10, type 99: configurable opcode tables

-- 0 the revision; 1 to 44 the locations
unfoldable pub rows99 : List Row
rows99 = float ∷ replicate 44 location

-- ---- 3.4.33, type 122: DS800 configuration

-- name, status, programmed and current cycle time of one resource
abbrev resource : List Row
resource =
    label 20 read_only ""
    ∷ record { len = 1; kind = signed; access = read_only; range = status; default = figure 0 }
    ∷ whole 4 read_only
    ∷ whole 4 read_only
    ∷ []

-- 0 power switch, 1 to 3 enables; 4 to 6 running; 7 clean stored resources; 8 to 23 four resources
unfoldable pub rows122 : List Row
rows122 =
    replicate 4 (switch read_write 1) ++ replicate 3 (switch read_only 1) ++ (switch read_write 0 ∷ [])
    ++ resource ++ resource ++ resource ++ resource

-- ---- 3.4.34, type 123: security groups

unfoldable pub rows123 : List Row
rows123 = replicate 20 (label 20 read_write "")

-- ---- 3.4.35, type 124: history segments

unfoldable pub rows124 : List Row
rows124 =
    -- 0 description
    record { len = 10; kind = text; access = read_write; range = any; default = segment }
    -- 1 size
    ∷ record { len = 2; kind = unsigned; access = read_only_first; range = size; default = full_first }
    -- 2 maximum size
    ∷ ranged 2 read_only 240 240 240
    -- 3 periodic entries, 4 daily entries
    ∷ ranged 2 read_write 0 65535 840
    ∷ ranged 2 read_write 0 65535 35
    -- 5 periodic index, 6 daily index
    ∷ whole 2 read_only
    ∷ whole 2 read_only
    -- 7 sample rate
    ∷ record { len = 1; kind = unsigned; access = read_write; range = rate; default = figure 60 }
    -- 8 contract hour
    ∷ ranged 1 read_write 0 23 0
    -- 9 switch
    ∷ switch read_write 1
    -- 10 free space
    ∷ ranged 4 read_only 0 224400 224400
    -- 11 force end of day
    ∷ switch read_write 0
    -- 12 configured points
    ∷ ranged 2 read_only 0 240 0
    -- 13 weighting TLP
    ∷ record { len = 3; kind = tlp; access = read_write; range = number; default = figure 0 }
    ∷ []
