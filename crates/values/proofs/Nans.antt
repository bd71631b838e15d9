-- The patterns of a NaN, and the value that they stand for.
-- Assumes nothing.
use mathlib.Core.Path.{◌≡◌, refl, sym, subst, ◌∙◌}
use mathlib.Core.Bool.{Bool, true, not, false≢true}
use Prim.Native.Nat.{ℕ, ◌*◌, ◌%◌, ◌≤◌, ◌<◌}
use lib.Dec.{T}
use lib.Ieee.{Float, nan, inf, fin, Format, binary32, binary64, is_nan, nan_bits, of_bits, ones, hid, top, div}
use lib.Ieee.Bits.{nan_bits_above, nan_bits_is}
use borrow.Author.Tests.{lt-ltb, le-ltb}

the_nan : (x : Float) → is_nan x ≡ true → nan ≡ x
unfolding is_nan
the_nan nan h = refl
the_nan (inf s) h = absurd (false≢true h)
the_nan (fin s m e) h = absurd (false≢true h)

pub is_nan_lem : (f : Format) (n : ℕ) → ones f * hid f < n % top f → nan ≡ of_bits f n
is_nan_lem f n h = the_nan (of_bits f n) (sym (nan_bits_is f n) ∙ nan_bits_above f n ∙ lt-ltb _ _ h)

pub no_nan : (f : Format) (n : ℕ) → n % top f ≤ ones f * hid f → T (not (nan_bits f n))
no_nan f n h = subst (λ (b : Bool). T (not b)) (sym (nan_bits_above f n ∙ le-ltb _ _ h)) tt

-- what 0.0 / 0.0 is in either format
pub zero_by_zero : (f : Format) → div f (of_bits f 0) (of_bits f 0) ≡ nan
unfolding div of_bits
zero_by_zero binary32 = refl
zero_by_zero binary64 = refl

-- what `single` and `double` are proved by
pub ruleset nans = (is_nan_lem, no_nan, zero_by_zero)
