-- The two calls of the number read give one reading: what C is told says the same number, or the same refusal.
-- Assumes nothing.
use Prim.Native.Nat.{ℕ, ◌≤◌}
use native.Mathlib.Omega.{arith}
use mathlib.Core.Path.{◌≡◌, refl, sym, ap, ◌∙◌}
use mathlib.Core.List.{List}
use borrow.Author.Tests.{ne_eqb}
use Rattle.base.specs.Check.{Check, fault, pass, ◌>>=◌}
use Rattle.base.proofs.Checks.{passing}
use Rattle.points.specs.Types.{Build}
use Rattle.values.specs.Number.{reading_of, Raw, raw_read, telling, reading_in}
use Rattle.values.proofs.SameReading.{saying, number_raw, keeps_which}
use Rattle.demands.specs.Tables.{number_table}
use Rattle.demands.specs.Readings.{KindIsKept, BothReadOne}
use Rattle.demands.proofs.Says.{given_first, first_has, blank}
use Rattle.demands.proofs.Unframed.{raw-says}

-- no refusal is numbered 0
refusal-number : (b : Build) (s : List ℕ) (t l k n p : ℕ) → raw_read b s t l k ≡ fault n p → 2 ≤ n
unfolding blank
refusal-number b s t l k n p e =
    first_has (λ m. 2 ≤ m) n p (number_table b s t l k) (omega arith) (given_first _ (sym (raw-says b s t l k).says ∙ rw e))

-- whatever kind and bits held before
pub one-reading : BothReadOne
unfolding reading_of reading_in telling ◌>>=◌
one-reading b s t l k kind bits = ap reading_of (number_raw b s t l k) ∙ go (raw_read b s t l k) (refusal-number b s t l k)
  where
    go : (c : Check Raw) → ((n p : ℕ) → c ≡ fault n p → 2 ≤ n) → reading_of (c >>= saying) ≡ reading_in (telling kind bits c)
    go (fault n p) h = let z : 2 ≤ n = h n p refl in rw (ne_eqb n 0 (λ e. omega arith)) refl
    go (pass r) h = refl

pub kind_is_kept : KindIsKept
kind_is_kept b s t l k r e = elim (rw e at (keeps_which b s t l k)) [ passing q ↦ q.which ]
