-- What the bytes of each kind may be.
-- Assumes nothing.
use Rattle.std.specs.Prelude.{ℕ, ◌-◌, ◌/◌, ◌%◌, ◌^◌, Bool, true, false, cond, not, List, [], ◌∷◌, get_or, leb, ltb, eqb, ℤ, pos, negsuc, is_ok}
use Rattle.base.specs.Lists.{both, either}
use Rattle.base.specs.Bytes.{le}
use Rattle.points.specs.Row as Row
use Rattle.points.specs.Types.{Build, index_of, row}
use Rattle.points.specs.Columns.{kind_of}
use Rattle.points.specs.Place.{place_of}
use Rattle.points.specs.declared.Tlp.{Tlp}
use Rattle.points.specs.declared.Kind.{Kind}
use Rattle.points.specs.declared.Kind.TheVariants.{Text, Unsigned, Signed, Single, Double, Tlp as TlpKind}

-- text bytes are 0x20 to 0x7E in every type
abbrev pub printable : ℕ → Bool
printable x = both (leb 0x20 x) (leb x 0x7e)

unfoldable pub printed : List ℕ → Bool
printed [] = true
printed (x ∷ v) = cond (printable x) (printed v) false

-- a byte in two's complement: 0 to 127 are themselves, 128 to 255 are -128 to -1
unfoldable pub signed_of : ℕ → ℤ
signed_of x = cond (ltb x 128) (pos x) (negsuc (255 - x))

-- finite: the exponent's field is not all ones, so that minus zero and subnormals are valid
unfoldable pub finite32 : ℕ → Bool
finite32 n = not (eqb (n / 2 ^ 23 % 2 ^ 8) 255)

unfoldable pub finite64 : ℕ → Bool
finite64 n = not (eqb (n / 2 ^ 52 % 2 ^ 11) 2047)

-- ---- TLPs

-- the three numbers that three bytes say
abbrev pub tlp_of : List ℕ → Tlp
tlp_of v = record { point = record { 0 = get_or v 0 0 }; logical = record { 0 = get_or v 1 0 }; parameter = record { 0 = get_or v 2 0 } }

abbrev pub nothing : List ℕ → Bool
nothing v = both (eqb (get_or v 0 0) 0) (both (eqb (get_or v 1 0) 0) (eqb (get_or v 2 0) 0))

-- the three bytes name a parameter of the build
abbrev pub names : Build → List ℕ → Bool
names b v = is_ok (place_of b (get_or v 0 0) (get_or v 1 0) (get_or v 2 0))

-- 0,0,0 or a parameter of the build
unfoldable pub valid_tlp : Build → List ℕ → Bool
valid_tlp b v = either (nothing v) (names b v)

abbrev pub says_number : Kind → Bool
says_number Text = false
says_number Unsigned = true
says_number Signed = true
says_number Single = true
says_number Double = true
says_number TlpKind = false

abbrev pub is_number : Row.Kind → Bool
is_number k = says_number (kind_of k)

-- 0,0,0 or a parameter of the build that is a number
unfoldable pub number_tlp : Build → List ℕ → Bool
number_tlp b v = either (nothing v) (both (names b v) (is_number (row (index_of (get_or v 0 0)) (get_or v 2 0)).kind))

-- ----

abbrev pub kind_allows : Build → Kind → List ℕ → Bool
kind_allows b Text v = printed v
kind_allows b Unsigned v = true
kind_allows b Signed v = true
kind_allows b Single v = finite32 (le v)
kind_allows b Double v = finite64 (le v)
kind_allows b TlpKind v = valid_tlp b v

unfoldable pub of_kind : Build → Row.Kind → List ℕ → Bool
of_kind b k v = kind_allows b (kind_of k) v
