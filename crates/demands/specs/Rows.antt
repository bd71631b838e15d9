-- The rows that calls share: type, logical, parameter and level, an entry of a list, a value, and a whole list of them.
-- Assumes nothing.
use Rattle.std.specs.Prelude.{ℕ, zero, suc, ◌+◌, Bool, not, List, [], ◌∷◌, ◌++◌, length, get_or, take, drop, leb, ltb, eqb}
use Rattle.base.specs.Lists.{both}
use Rattle.points.specs.Types.{Build, Point, logicals, point, height, index_of, row}
use Rattle.points.specs.Place.{len_at}
use Rattle.store.specs.Store.{Write, stored}
use Rattle.values.specs.Kinds.{of_kind}
use Rattle.values.specs.Judged.{in_range}
use Rattle.values.specs.Pairs.{together}
use Rattle.rules.specs.Deeds.{Piece, plain, held, sizes}
use Rattle.rules.specs.Entries.{Caller, reaches, may_write, Named, Source, block, named, located, spoken, after, locked_place}
use Rattle.rules.specs.Lists.{read_level, write_level, entry}
use Rattle.demands.specs.Table.{Refusal, unless}

-- type, logical, parameter
abbrev pub type_row : Build → ℕ → ℕ → Refusal
type_row b t place = unless (ltb 0 (logicals b (index_of t))) 22 place

abbrev pub logical_row : Build → ℕ → ℕ → ℕ → Refusal
logical_row b t l place = unless (ltb l (logicals b (index_of t))) 23 place

abbrev pub parameter_row : ℕ → ℕ → ℕ → Refusal
parameter_row t k place = unless (ltb k (height (point (index_of t)))) 24 place

abbrev pub level_row : Caller → ℕ → ℕ → Refusal
level_row who needed place = unless (reaches who needed) 25 place

-- at least n bytes of data
abbrev pub short_row : ℕ → List ℕ → Refusal
short_row n d = unless (leb n (length d)) 21 (length d)

-- nothing is left of the data
abbrev pub spare_row : List ℕ → ℕ → Refusal
spare_row d place = unless (eqb (length d) 0) 21 place

abbrev pub over_row : List Piece → Refusal
over_row ps = unless (leb (sizes ps) 255) 28 0

abbrev pub count_row : ℕ → ℕ → Refusal
count_row n place = unless (not (eqb n 0)) 30 place

-- ---- an entry of a list

-- type, logical, parameter, level; the level's place is the type's
abbrev pub found_table : Build → (Point → ℕ) → Caller → (t l k ofType ofLogical ofParameter : ℕ) → List Refusal
found_table b level who t l k pt pl pk =
    type_row b t pt ∷ logical_row b t l pl ∷ parameter_row t k pk ∷ level_row who (level (point (index_of t))) pt ∷ []

-- a block's are checked at once, before its first
abbrev pub entry_table : Build → (Point → ℕ) → Caller → Source → List ℕ → ℕ → List Refusal
entry_table b level who (block i l k) d at = []
entry_table b level who named d at =
    unless (leb 3 (length d)) 21 (at + length d) ∷ found_table b level who (get_or d 0 0) (get_or d 1 0) (get_or d 2 0) at (at + 1) (at + 2)
entry_table b level who (located bs) d at = found_table b level who (get_or bs 0 0) (get_or bs 1 0) (get_or bs 2 0) 1 1 1

-- the parameter that an entry names
abbrev pub name_of : Source → List ℕ → Named
name_of (block i l k) d = record { type = i; logical = l; parameter = k }
name_of named d = record { type = index_of (get_or d 0 0); logical = get_or d 1 0; parameter = get_or d 2 0 }
name_of (located bs) d = record { type = index_of (get_or bs 0 0); logical = get_or bs 1 0; parameter = get_or bs 2 0 }

-- a value's kind, its range, and its pair in the store that it makes
abbrev pub range_holds : Build → List ℕ → List Write → Write → Bool
range_holds b s ws w =
    both (of_kind b (row w.type w.parameter).kind w.bytes)
    (both (in_range b (row w.type w.parameter).range w.logical w.bytes)
    (together b (stored b s (w ∷ ws)) w.type w.logical w.parameter))

-- read-only, value short, range
abbrev pub value_table : Build → Caller → List ℕ → List Write → Named → List ℕ → (ofLocked ofValue : ℕ) → List Refusal
value_table b who s ws p d locked at =
    unless (may_write who (row p.type p.parameter).access p.logical) 26 locked
    ∷ unless (leb (len_at p.type p.parameter) (length d)) 21 (at + length d)
    ∷ unless (range_holds b s ws (entry p d)) 27 at
    ∷ []

-- ---- lists: each entry in turn, then spare, then 28

unfoldable pub read_table : Build → Caller → Source → ℕ → List ℕ → ℕ → List Piece → List Refusal
read_table b who src zero d at ps = spare_row d at ∷ over_row ps ∷ []
read_table b who src (suc n) d at ps =
    let p : Named = name_of src d in
    entry_table b read_level who src d at
    ++ read_table b who (after src) n (drop (spoken src) d) (at + spoken src)
    (held p.type p.logical p.parameter 1 ∷ plain (take (spoken src) d) ∷ ps)

unfoldable pub write_table : Build → Caller → List ℕ → Source → ℕ → List ℕ → ℕ → List Write → List Refusal
write_table b who s src zero d at ws = spare_row d at ∷ []
write_table b who s src (suc n) d at ws =
    let p : Named = name_of src d in
    let v : List ℕ = drop (spoken src) d in
    let m : ℕ = len_at p.type p.parameter in
    entry_table b write_level who src d at
    ++ (value_table b who s ws p v (locked_place src at) (at + spoken src)
    ++ write_table b who s (after src) n (drop m v) (at + spoken src + m) (entry p v ∷ ws))
