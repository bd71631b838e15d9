-- Judging a value by its row: fine, or the number of the fault with an offset into the value.
-- Assumes nothing.
use Rattle.std.specs.Prelude.{ℕ, Bool, true, false, cond, List, [], ◌∷◌, leb, eqb, pos, negsuc}
use Rattle.std.specs.Int.Signed.{le_z, lt_z}
use Rattle.base.specs.Check.{Check, pass, ◌>>=◌, test}
use Rattle.base.specs.Lists.{both, either, only}
use Rattle.base.specs.Bytes.{le}
use Rattle.points.specs.Row as Row
use Rattle.points.specs.Row.{Row}
use Rattle.points.specs.Columns.{range_of}
use Rattle.points.specs.declared.Range.{Range}
use Rattle.points.specs.declared.Range.TheVariants.{Any, Between, Status, Rate, Size, Number}
use Rattle.points.specs.Types.{Build}
use Rattle.values.specs.Kinds.{signed_of, number_tlp, of_kind}

-- from -1 to 5: not below -1, and at most 5
unfoldable pub status_ok : ℕ → Bool
status_ok x = cond (lt_z (signed_of x) (negsuc 0)) false (le_z (signed_of x) (pos 5))

abbrev pub rates : List ℕ
rates = 1 ∷ 2 ∷ 3 ∷ 4 ∷ 5 ∷ 6 ∷ 10 ∷ 12 ∷ 15 ∷ 20 ∷ 30 ∷ 60 ∷ []

abbrev pub among : List ℕ → ℕ → Bool
among [] n = false
among (x ∷ xs) n = either (eqb x n) (among xs n)

unfoldable pub rate_ok : ℕ → Bool
rate_ok n = among rates n

-- on logical 0 it is 240 only, on the others at most 240
unfoldable pub size_ok : ℕ → ℕ → Bool
size_ok l n = both (leb n 240) (only (eqb l 0) (eqb n 240))

abbrev pub range_allows : Build → Range → ℕ → List ℕ → Bool
range_allows b Any l v = true
range_allows b (Between least most) l v = both (leb least (le v)) (leb (le v) most)
range_allows b Status l v = status_ok (le v)
range_allows b Rate l v = rate_ok (le v)
range_allows b Size l v = size_ok l (le v)
range_allows b Number l v = number_tlp b v

unfoldable pub in_range : Build → Row.Range → ℕ → List ℕ → Bool
in_range b q l v = range_allows b (range_of q) l v

-- a value for logical l of a parameter with row r
unfoldable pub judged : Build → Row → ℕ → List ℕ → Check Unit
judged b r l v = do
  _ ← test (of_kind b r.kind v) 27 0
  _ ← test (in_range b r.range l v) 27 0
  pass tt
