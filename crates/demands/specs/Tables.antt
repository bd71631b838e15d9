-- The tables of the rules: for each call, what it may be refused for, in order, with number and place.
-- Assumes nothing.
use Rattle.std.specs.Prelude.{ℕ, ◌+◌, false, not, List, [], ◌∷◌, ◌++◌, length, get_or, take, drop, leb, ltb, eqb}
use Rattle.base.specs.Lists.{both}
use Rattle.clock.specs.Calendar.{first_year, last_year, month_days}
use Rattle.clock.specs.Moments.{valid_clock, clock_of}
use Rattle.points.specs.Types.{Build, logicals, point, index_of, row, tables}
use Rattle.points.specs.Place.{len_at, store_size}
use Rattle.store.specs.Store.{Write}
use Rattle.values.specs.Kinds.{is_number}
use Rattle.frame.specs.Address.{same_address, stationary, destination, source, for_us}
use Rattle.frame.specs.Frame.{longest, opcode, data_length, data_of, crc_right}
use Rattle.rules.specs.Asked.{Asked, Held}
use Rattle.rules.specs.Deeds.{plain, held}
use Rattle.rules.specs.Entries.{Caller, request, block, named, located}
use Rattle.rules.specs.Opcodes.{last_of, last_location, locations, Opcode, read7, set8, read10, write11, write166, read167, read180, write181, unserved, opcode_of}
use Rattle.demands.specs.Table.{Refusal, unless}
use Rattle.demands.specs.Rows.{type_row, logical_row, parameter_row, level_row, short_row, spare_row, over_row, count_row, range_holds, read_table, write_table}

-- ---- outcomes 1 to 8

-- for a reply space of r bytes
abbrev pub received_table : Build → Asked → Held → ℕ → List Refusal
received_table b a h r =
    unless (leb longest r) 1 0
    ∷ unless (eqb (length h.store) (store_size b)) 2 0
    ∷ unless (both (stationary a.us) (both (leb a.level 3) (valid_clock (clock_of h.clock)))) 3 0
    ∷ unless (both (leb 8 (length a.frame)) (leb (length a.frame) longest)) 4 0
    ∷ unless (eqb (length a.frame) (data_length a.frame + 8)) 5 0
    ∷ unless (crc_right a.frame) 6 0
    ∷ unless (for_us a.us (destination a.frame)) 7 0
    ∷ unless (both (stationary (source a.frame)) (not (same_address (source a.frame) a.us))) 8 0
    ∷ []

-- ---- the opcodes

-- 167 and 166: short; type; logical; count zero; any parameter missing; level
abbrev pub span_table : Build → Caller → ℕ → List ℕ → List Refusal
span_table b who needed d =
    short_row 4 d ∷ type_row b (get_or d 0 0) 0 ∷ logical_row b (get_or d 0 0) (get_or d 1 0) 1 ∷ count_row (get_or d 2 0) 2
    ∷ parameter_row (get_or d 0 0) (last_of d) 3 ∷ level_row who needed 0 ∷ []

-- 180 and 181: short; count zero
abbrev pub count_table : List ℕ → List Refusal
count_table d = unless (leb 1 (length d)) 21 0 ∷ count_row (get_or d 0 0) 0 ∷ []

-- 10 and 11: short; table; start; count zero; last location
abbrev pub locate_table : Build → List ℕ → List Refusal
locate_table b d =
    short_row 3 d
    ∷ unless (ltb (get_or d 0 0) (logicals b tables)) 29 0
    ∷ unless (both (leb 1 (get_or d 1 0)) (leb (get_or d 1 0) last_location)) 29 1
    ∷ count_row (get_or d 2 0) 2
    ∷ unless (leb (get_or d 1 0 + get_or d 2 0) (last_location + 1)) 29 2
    ∷ []

-- 8: short; level; second, minute, hour, month, year, day; spare
abbrev pub clock_table : ℕ → List ℕ → List Refusal
clock_table L d =
    short_row 7 d
    ∷ unless (leb 2 L) 25 0
    ∷ unless (ltb (clock_of d).second 60) 31 0
    ∷ unless (ltb (clock_of d).minute 60) 31 1
    ∷ unless (ltb (clock_of d).hour 24) 31 2
    ∷ unless (both (leb 1 (clock_of d).month) (leb (clock_of d).month 12)) 31 4
    ∷ unless (both (leb first_year (clock_of d).year) (leb (clock_of d).year last_year)) 31 5
    ∷ unless (both (leb 1 (clock_of d).day) (leb (clock_of d).day (month_days (clock_of d).year (clock_of d).month))) 31 3
    ∷ spare_row (drop 7 d) 7
    ∷ []

unfoldable pub plan_table : Build → Opcode → ℕ → Held → List ℕ → List Refusal
plan_table b read7 L h d = spare_row d 0 ∷ []
plan_table b set8 L h d = clock_table L d
plan_table b read167 L h d =
    let i : ℕ = index_of (get_or d 0 0) in
    span_table b (request L) (point i).reads d
    ++ (spare_row (drop 4 d) 4 ∷ over_row (held i (get_or d 1 0) (get_or d 3 0) (get_or d 2 0) ∷ plain (take 4 d) ∷ []) ∷ [])
plan_table b write166 L h d =
    let i : ℕ = index_of (get_or d 0 0) in
    span_table b (request L) (point i).writes d
    ++ write_table b (request L) h.store (block i (get_or d 1 0) (get_or d 3 0)) (get_or d 2 0) (drop 4 d) 4 []
plan_table b read180 L h d =
    count_table d
    ++ read_table b (request L) named (get_or d 0 0) (drop 1 d) 1 (plain (take 1 d) ∷ [])
plan_table b write181 L h d =
    count_table d
    ++ write_table b (request L) h.store named (get_or d 0 0) (drop 1 d) 1 []
plan_table b read10 L h d =
    locate_table b d
    ++ read_table b (request L) (located (locations b h d)) (get_or d 2 0) (drop 3 d) 3 (held tables (get_or d 0 0) 0 1 ∷ plain (take 3 d) ∷ [])
plan_table b write11 L h d =
    locate_table b d ++ write_table b (request L) h.store (located (locations b h d)) (get_or d 2 0) (drop 3 d) 3 []
plan_table b unserved L h d = unless false 20 0 ∷ []

-- ---- the calls

abbrev pub request_table : Build → Asked → Held → ℕ → List Refusal
request_table b a h r =
    received_table b a h r ++ plan_table b (opcode_of (opcode a.frame)) a.level h (data_of a.frame)

-- the value of a system write
abbrev pub set_to : (t l k : ℕ) → List ℕ → Write
set_to t l k v = record { type = index_of t; logical = l; parameter = k; bytes = v }

-- 2, 22, 23, 24, 21, 27
abbrev pub system_table : Build → List ℕ → (t l k : ℕ) → List ℕ → List Refusal
system_table b s t l k v =
    unless (eqb (length s) (store_size b)) 2 0
    ∷ type_row b t 0
    ∷ logical_row b t l 0
    ∷ parameter_row t k 0
    ∷ unless (eqb (length v) (len_at (index_of t) k)) 21 0
    ∷ unless (range_holds b s [] (set_to t l k v)) 27 0
    ∷ []

-- 2, 22, 23, 24, 27 for text and TLP
abbrev pub number_table : Build → List ℕ → (t l k : ℕ) → List Refusal
number_table b s t l k =
    unless (eqb (length s) (store_size b)) 2 0
    ∷ type_row b t 0
    ∷ logical_row b t l 0
    ∷ parameter_row t k 0
    ∷ unless (is_number (row (index_of t) k).kind) 27 0
    ∷ []

abbrev pub fill_table : Build → List ℕ → List Refusal
fill_table b s = unless (eqb (length s) (store_size b)) 2 0 ∷ []

abbrev pub tick_table : List ℕ → List Refusal
tick_table c = unless (valid_clock (clock_of c)) 3 0 ∷ []
