-- A block of parameters as one stretch of the store.
-- Assumes nothing.
use Prim.Native.Nat.{ℕ, zero, suc, ◌+◌, ◌-◌, ◌*◌, ◌≤◌, ◌<◌}
use native.Mathlib.Omega.{arith}
use mathlib.Core.Path.{◌≡◌, refl, sym, ap, ◌∙◌}
use mathlib.Core.List.{List}
use lib.ListN.{length, take, drop}
use Rattle.std.specs.Prelude.{slice_range}
use borrow.Author.Tests.{eqb-true}
use lib.Dec.{eqb}
use Rattle.base.proofs.Below.{at-below}
use Rattle.base.specs.Lists.{part}
use Rattle.points.specs.Types.{gateway, tables, point, points, height, logicals}
use Rattle.points.specs.Place.{offset, len_at}
use Rattle.points.specs.Sums.{store_bytes}
use Rattle.lists.proofs.Found.{height_small}
use Rattle.store.specs.Store.{values, span_of}
use Rattle.store.proofs.Laws.{span_more, span_end, values-part, values_length}

module _ (i l k n : ℕ) (some : 1 ≤ n) (last : k + n ≤ height (point i)) where
  pub begins_before : offset gateway i l k ≤ offset gateway i l (k + n - 1) + len_at i (k + n - 1)
  begins_before = rw (span_end gateway i l k n some last) (omega arith)

  pub stretch_is : (s : List ℕ) → slice_range s (offset gateway i l k) (offset gateway i l (k + n - 1) + len_at i (k + n - 1)) ≡ values gateway s i l k n
  unfolding part
  stretch_is s = rw (span_end gateway i l k n some last, values-part gateway s i l k n last)
      (ap (λ (m : ℕ). take m (drop (offset gateway i l k) s)) (omega arith))

  pub stretch_long : (s : List ℕ) → length s ≡ 12427 → l < logicals gateway i → length (values gateway s i l k n) ≡ span_of i k n
  stretch_long s whole logical = values_length gateway s (whole ∙ sym store_bytes) i l k n logical last

-- ---- a table has a location of three bytes for each parameter but the first

tall : height (point tables) ≡ 45
unfolding point points
tall = refl

three : (k : ℕ) → 1 ≤ k → k < 45 → len_at tables k ≡ 3
unfolding len_at point points
three zero h l = elim h [ ]
three (suc k) h l = eqb-true _ _ (at-below 44 (λ j. eqb (len_at tables (suc j)) 3) refl k (omega arith))

pub threes : (k n : ℕ) → 1 ≤ k → k + n ≤ 45 → span_of tables k n ≡ 3 * n
threes k zero h l = refl
threes k (suc n) h l =
    span_more tables k n (omega (arith, tall)) ∙ omega (arith, three k h (omega arith), threes (suc k) n (omega arith) (omega arith))

pub ruleset stretch_cases = (height_small, begins_before, stretch_is, stretch_long)
