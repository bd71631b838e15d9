-- A TLP that names a number is a valid TLP: where a row asks both, the narrower is the answer.
-- Assumes nothing.
use mathlib.Core.Path.{◌≡◌, refl, sym}
use mathlib.Core.Bool.{Bool, true, false, cond, false≢true}
use mathlib.Core.List.{List}
use Prim.Native.Nat.{ℕ}
use Rattle.base.specs.Lists.{both, either}
use Rattle.base.proofs.Tests.{both_true}
use Rattle.points.specs.Types.{Build}
use Rattle.points.specs.declared.Kind.TheVariants as kind
use Rattle.points.specs.declared.Range.{Range}
use Rattle.points.specs.declared.Range.TheVariants.{Any, Between, Status, Rate, Size, Number}
use Rattle.values.specs.Kinds.{valid_tlp, number_tlp, nothing, names}
use Rattle.values.specs.Judged.{range_allows}
use Rattle.values.proofs.Table.{ranged, of_number}

-- a test with one more behind it holds only where it does
narrower : (x y z : Bool) → either x (both y z) ≡ both (either x y) (either x (both y z))
narrower true y z = refl
narrower false true z = refl
narrower false false z = refl

-- so both may be asked of a TLP that is to name a number
pub number_valid : (b : Build) (v : List ℕ) → number_tlp b v ≡ both (valid_tlp b v) (number_tlp b v)
unfolding valid_tlp number_tlp
number_valid b v = narrower (nothing v) (names b v) _

-- a TLP by the range of its row
pub as_tlp : (b : Build) (l : ℕ) (v : List ℕ) (q : Range) → ranged kind.Tlp q ≡ true
    → cond (of_number q) (number_tlp b v) (valid_tlp b v) ≡ both (valid_tlp b v) (range_allows b q l v)
as_tlp b l v Any t = sym (both_true (valid_tlp b v))
as_tlp b l v (Between x y) t = absurd (false≢true t)
as_tlp b l v Status t = absurd (false≢true t)
as_tlp b l v Rate t = absurd (false≢true t)
as_tlp b l v Size t = absurd (false≢true t)
as_tlp b l v Number t = number_valid b v
