-- The pairs of type 124, by the parameter that is weighed.
-- Assumes nothing.
use mathlib.Core.Path.{◌≡◌, refl}
use mathlib.Core.Bool.{Bool, true, false, false≢true}
use mathlib.Core.List.{List}
use Prim.Native.Nat.{ℕ, ◌-◌, ◌≤◌, ◌<◌}
use borrow.Author.Tests.{eq-eqb, eqb-true, le-leb, lt-leb, lt-ltb, ltb-true, ltb-false}
use lib.Dec.{eqb, ltb}
use lib.ListN.{get_or-eq_default}
use Rattle.base.specs.Lists.{both, only}
use Rattle.base.proofs.Below.{at-below}
use Rattle.points.specs.Types.{gateway, segments, point, height}
use Rattle.points.specs.Place.{first, len_at}
use Rattle.points.specs.Columns.{row_at}
use Rattle.store.specs.Store.{value}
use Rattle.values.specs.Pairs.{pair_of, in_pair, paired}
use Rattle.values.specs.Weighed.{changed, mated}
use Rattle.values.specs.Weighable.{unsigned_long}
use Rattle.values.proofs.Table.{pair_length, row-mates}

-- ---- the parameters that have a mate

pub height_is : height (point segments) ≡ 14
unfolding point
height_is = refl

abbrev unsigned-if : ℕ → Bool
unsigned-if k = only (in_pair k) (unsigned_long (len_at segments k))

all-unsigned : (k : ℕ) → k < 14 → unsigned-if k ≡ true
unfolding len_at point pair_of
all-unsigned k h = at-below 14 unsigned-if refl k h

pub mate_long : (k : ℕ) → k < 14 → in_pair k ≡ true → unsigned_long (len_at segments k) ≡ true
mate_long k h p = rw p at (all-unsigned k h)

pub ruleset mates = (height_is, mate_long)

-- ---- what the pair of a row says, where f is where the rows of type 124 begin

module _ (s : List ℕ) (r l : ℕ) (v : List ℕ) (f : ℕ) (e : f ≡ first segments) where
  pub unmated : r < f → true ≡ mated gateway s r l v
  unfolding mated
  unmated h = rw (← e, lt-leb f r h)

  pub mated_by : f ≤ r → paired (pair_of (r - f)) l (changed (r - f) v (value gateway s segments l)) ≡ mated gateway s r l v
  unfolding mated
  mated_by h = rw (← e, le-leb f r h)

pub ruleset rows = (unmated, mated_by, pair_length)

-- ---- a parameter with a mate has two bytes, and so has each of its pair

abbrev two-if : ℕ → Bool
two-if k = only (in_pair k) (eqb (len_at segments k) 2)

all-two : (k : ℕ) → k < 14 → two-if k ≡ true
unfolding len_at point pair_of
all-two k h = at-below 14 two-if refl k h

-- by the parameter's number
pub mate_two : (k : ℕ) → k < 14 → in_pair k ≡ true → len_at segments k ≡ 2
mate_two k h p = eqb-true _ _ (rw p at (all-two k h))

-- only the fourteen have a mate
pub pair_below : (k : ℕ) → in_pair k ≡ true → k < 14
unfolding pair_of
pair_below k p = go (ltb k 14) refl
  where
    go : (b : Bool) → ltb k 14 ≡ b → k < 14
    go true e = ltb-true k 14 e
    go false e = absurd (false≢true (rw (get_or-eq_default _ _ (ltb-false k 14 e)) at p))

-- r is a row of the pair, q any parameter of the same pair
module _ (r : ℕ) (w : r < 175) (h : 161 ≤ r) (p : in_pair (r - 161) ≡ true) where
  -- the row itself
  pub two-long : (row_at r).len ≡ 2
  two-long = eqb-true _ _ (rw p at (row-mates r w h))

  -- and its mate, which type 124 has
  pub two : (q : ℕ) → pair_of q ≡ pair_of (r - 161)
      → both (eqb (row_at r).len 2) (both (ltb q (height (point segments))) (eqb (len_at segments q) 2)) ≡ true
  two q e =
      let t : in_pair q ≡ true = rw e p in
      let b : q < 14 = pair_below q t in
      rw (eq-eqb _ 2 two-long, height_is, lt-ltb q 14 b, eq-eqb _ 2 (mate_two q b t)) refl
