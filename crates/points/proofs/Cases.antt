-- The cases of `place_of` for the build `gateway`, and the sums by which the code finds a parameter.
-- Assumes nothing.
use mathlib.Core.Path.{◌≡◌, refl, ◌∙◌}
use mathlib.Core.Bool.{true}
use Prim.Native.Nat.{ℕ, ◌+◌, ◌*◌, ◌≤◌, ◌<◌}
use native.Mathlib.Omega.{arith}
use lib.Dec.{ltb}
use Rattle.std.specs.Prelude.{Ok, Err, if◌then◌else◌}
use lib.ListN.{get_or, get_or-eq_default}
use Rattle.base.proofs.Below.{at-below}
use Rattle.points.specs.Columns.{row_at}
use Rattle.points.specs.Types.{index_of, point, height, logicals, counts, gateway}
use Rattle.points.specs.Place.{offsets, first, base, each, within, len_at, offset, place_of, Here, spot_of, IsInside}
use Rattle.points.specs.declared.Missing.TheVariants.{NoPointType, NoLogical, NoParameter}
use Rattle.points.specs.Sums.{store_bytes}
use Rattle.points.proofs.Laws.{fits}
use Rattle.points.proofs.Rows.{row_below, row-length, offset_row}
use Rattle.points.proofs.Placed.{here_inside}

-- the build has logicals of each of the six types, and of no other
has_some : (i : ℕ) → i < 6 → ltb 0 (logicals gateway i) ≡ true
unfolding logicals gateway
has_some i h = at-below 6 (λ j. ltb 0 (logicals gateway j)) refl i h

has_none : (i : ℕ) → 6 ≤ i → logicals gateway i ≡ 0
unfolding logicals
has_none i h = get_or-eq_default (counts gateway) 0 h

pub no_type : (t l k : ℕ) → 6 ≤ index_of t → place_of gateway t l k ≡ Err NoPointType
unfolding place_of
no_type t l k h = simp (has_none (index_of t) h)

pub of_type : (t l k i : ℕ) → i ≡ index_of t → i < 6
    → place_of gateway t l k ≡ (if ltb l (logicals gateway i) then if ltb k (height (point i)) then Ok (spot_of gateway i l k) else Err NoParameter else Err NoLogical)
unfolding place_of
of_type t l k i e h = simp (← e, has_some i h)

-- ---- a parameter that the build has

module _ (i l k : ℕ) (w : Here gateway i l k) (f : ℕ) (ef : f ≡ first i) where
  pub in_rows : f + k < 175
  in_rows = rw ef (row_below i k w.parameter)

  module _ (o : ℕ) (eo : o ≡ get_or offsets (f + k) 0) where
    from_row : o ≡ within i k
    from_row = eo ∙ rw ef (offset_row i k w.parameter)

    module _ (c a : ℕ) (eb : c ≡ base gateway i) (ea : a ≡ each (point i)) where
      pub in_store : c + l * a + o ≤ 12427
      unfolding offset
      in_store = rw (eb, ea, from_row) (omega (arith, fits gateway i l k w.logical, store_bytes))

      pub spot_is : (n : ℕ) → n ≡ (row_at (f + k)).len → record { row = f + k; begin = c + l * a + o; len = n } ≡ spot_of gateway i l k
      unfolding offset
      spot_is n en =
          let z : n ≡ len_at i k = en ∙ rw ef (row-length i k w.parameter) in
          let y : o ≡ within i k = from_row in
          cc

      pub is_inside : (n : ℕ) → n ≡ (row_at (f + k)).len → IsInside (record { row = f + k; begin = c + l * a + o; len = n })
      is_inside n en = rw (spot_is n en) (here_inside i l k w)
